use Rattle.uv_loop.proofs.Names.{None, Some, refl, Blocked, Range, err_from_is_err_and, live_handle, io_handle, image_of}
use Rattle.uv_loop.specs.declared.plan.Plan.TheVariants.{Io}
use Rattle.uv_loop.proofs.CallsOfIo.{io_out, io_done}
use Rattle.uv_loop.proofs.Planned.{planned, refused}
use Rattle.uv_loop.proofs.io.io_plan.Goals as goal

pub returns-in_err-check_name : goal.returns-in_err-check_name
returns-in_err-check_name c =
    let p = c.args.script.now in
    let e = err_from_is_err_and c.from_residual.result c.from_residual.ensures.1 in
    let past = c.in_err-check_name.ensures.err in
    rw (e.1, e.2, past.0) (refused p _ _ Range (λ s h r. io_out p (image_of c.args.memory.now) s c.args.name h past.1))

pub returns-in_default : goal.returns-in_default
returns-in_default c =
    let p = c.args.script.now in
    refused p _ _ Blocked (λ s h r. io_done p (image_of c.args.memory.now) s c.args.name h None (io_handle (live_handle s c.args.name))
    c.in_ok-check_name.ensures.ok (c.in_default.ensures s h r) refl)

pub returns-in_default-io_handle : goal.returns-in_default-io_handle
returns-in_default-io_handle c =
    let p = c.args.script.now in
    refused p _ _ Blocked (λ s h r. io_done p (image_of c.args.memory.now) s c.args.name h (Some c.in-Some.run') None
    c.in_ok-check_name.ensures.ok (c.in-Some.ensures s h r) (c.in_default-io_handle.ensures s h))

pub returns : goal.returns
returns c =
    planned c.args.script.now (image_of c.args.memory.now) (Io c.in-Some.run' c.args.name c.in-Some-io_handle.id)
    (record { within = c.in_ok-check_name.ensures.ok; begins = c.in-Some.ensures; waits = λ s h r. c.in-Some-io_handle.ensures s h })
