use Rattle.uv_loop.proofs.Names.{err_from_is_err_and, image_of}
use Rattle.uv_loop.specs.declared.plan.Plan.TheVariants.{Finish}
use Rattle.uv_loop.proofs.Finishes.{finish_refused}
use Rattle.uv_loop.proofs.Planned.{planned, refused}
use Rattle.uv_loop.proofs.planning.finish_plan.Goals as goal

pub returns-in_err-id : goal.returns-in_err-id
returns-in_err-id c p =
    let e = err_from_is_err_and c.from_residual.result c.from_residual.ensures.1 in
    rw (e.1, e.2) (refused p _ _ _ (λ s h r. finish_refused p (image_of c.args.memory.now) s c.args.worker _ h c.in_err-id.ensures.err))

pub returns : goal.returns
returns c p = planned p (image_of c.args.memory.now) (Finish c.args.worker c.in_ok-id.id c.in_ok-id.request) (assumption c.in_ok-id.ensures)
