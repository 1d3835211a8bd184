use Rattle.uv_sections.proofs.Names.{DoneYet, After, held, image_of}
use Rattle.uv_sections.proofs.Called.{few_calls, collect_goes}
use Rattle.uv_sections.proofs.Ends.{request_gone}
use Rattle.uv_sections.proofs.Firsts.{none_asked}
use Rattle.uv_sections.proofs.freeing.collect_request.Goals as goal

pub begin_body-requires-clause-few : goal.begin_body-requires-clause-few
begin_body-requires-clause-few c =
    few_calls c.end_request.new.self.step_record (held c.args.memory.now) (held c.end_request.new.self) c.requires.ready
    c.in-Some.ensures.recorded After c.in-Some.request.name

pub returns-in-None-clause-none : goal.returns-in-None-clause-none
returns-in-None-clause-none c s h reached = none_asked (image_of c.args.memory.now) s h DoneYet c.in-None.ensures.none.0

pub returns-in-Some-clause-goes : goal.returns-in-Some-clause-goes
returns-in-Some-clause-goes c s h reached =
    let old = image_of c.args.memory.now in let new = image_of c.end_request.new.self in
    let did = c.in-Some.ensures in let id = c.in-Some.id in let request = c.in-Some.request in
    collect_goes c.args.script.now c.args.run new (image_of c.begin_body.new.memory) s id request _
    (request_gone old new _ c.requires.last id did.frame request _ did.does.does s h reached) c.digest.ensures c.begin_body.ensures.calls
