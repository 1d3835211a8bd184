use Rattle.uv_sections.proofs.Names.{ClosingYet, Close, held, image_of}
use Rattle.uv_sections.proofs.Called.{few_calls, close_goes}
use Rattle.uv_sections.proofs.Ends.{handle_gone}
use Rattle.uv_sections.proofs.Firsts.{none_first}
use Rattle.uv_sections.proofs.freeing.close_front.Goals as goal

pub begin_body-requires-clause-few : goal.begin_body-requires-clause-few
begin_body-requires-clause-few c =
    few_calls c.end_handle.new.self.step_record (held c.args.memory.now) (held c.end_handle.new.self) c.requires.ready
    c.in-Some.ensures.recorded Close c.in-Some.handle.name

pub returns-in-None-clause-none : goal.returns-in-None-clause-none
returns-in-None-clause-none c s h reached = none_first (image_of c.args.memory.now) s h ClosingYet c.in-None.ensures.none.0

pub returns-in-Some-clause-goes : goal.returns-in-Some-clause-goes
returns-in-Some-clause-goes c s h reached =
    let old = image_of c.args.memory.now in let new = image_of c.end_handle.new.self in
    let did = c.in-Some.ensures in let id = c.in-Some.id in let handle = c.in-Some.handle in
    rw (c.closed.ensures) (close_goes c.args.script.now c.args.run new (image_of c.begin_body.new.memory) s id handle
    (handle_gone old new _ c.requires.last id did.frame handle _ did.does.does s h reached) c.begin_body.ensures.calls)
