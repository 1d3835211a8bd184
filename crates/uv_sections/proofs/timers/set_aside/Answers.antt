use Rattle.uv_sections.proofs.Names.{refl, held, image_of}
use Rattle.uv_sections.proofs.Collects.{timer_collects}
use Rattle.uv_sections.proofs.DueFirst.{none_collects}
use Rattle.uv_sections.proofs.timers.set_aside.Goals as goal

pub returns-in-None-clause-none : goal.returns-in-None-clause-none
returns-in-None-clause-none c = none_collects (image_of c.args.memory.now) c.is_sound.ensures.heap c.in-None.ensures.none.0

pub returns-in-Some-clause-goes : goal.returns-in-Some-clause-goes
returns-in-Some-clause-goes c p s h reached =
    let did = c.in-Some.ensures in
    let first = timer_collects c.collect_timer.new.self.step_record (held c.args.memory.now) (held c.collect_timer.new.self) c.in-Some.id
    c.is_fit.ensures did.frame did.does s h reached in
    (_, rw first.1 refl, c.stand_in.ensures.stands _ first.2)
