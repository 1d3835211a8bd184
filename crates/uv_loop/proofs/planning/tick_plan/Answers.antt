use Rattle.uv_loop.proofs.Names.{image_of}
use Rattle.uv_loop.specs.declared.plan.Plan.TheVariants.{Tick}
use Rattle.uv_loop.proofs.Events.{tick_refused}
use Rattle.uv_loop.proofs.Planned.{planned, refused}
use Rattle.uv_loop.proofs.planning.tick_plan.Goals as goal

pub returns-in-None : goal.returns-in-None
returns-in-None c p =
    let past = rw c.clock.ensures at c.in-None.ensures.none in
    refused p _ _ _ (λ s h r. tick_refused p (image_of c.args.memory.now) s h c.args.ms past)

pub returns-in-Some : goal.returns-in-Some
returns-in-Some c p = planned p (image_of c.args.memory.now) (Tick c.args.ms) (rw c.clock.ensures at c.in-Some.ensures.some)
