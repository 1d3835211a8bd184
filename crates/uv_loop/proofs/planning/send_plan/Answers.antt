use Rattle.uv_loop.proofs.Names.{Range, err_from_is_err_and, image_of}
use Rattle.uv_loop.specs.declared.plan.Plan.TheVariants.{Send}
use Rattle.uv_loop.proofs.Events.{send_refused}
use Rattle.uv_loop.proofs.Planned.{planned, refused}
use Rattle.uv_loop.proofs.planning.send_plan.Goals as goal

pub returns-in_err-check_name : goal.returns-in_err-check_name
returns-in_err-check_name c p =
    let e = err_from_is_err_and c.from_residual.result c.from_residual.ensures.1 in
    let past = c.in_err-check_name.ensures.err in
    rw (e.1, e.2, past.0) (refused p _ _ Range (λ s h r. send_refused p (image_of c.args.memory.now) s h c.args.name past.1))

pub returns : goal.returns
returns c p = planned p (image_of c.args.memory.now) (Send c.args.name) c.in_ok-check_name.ensures.ok
