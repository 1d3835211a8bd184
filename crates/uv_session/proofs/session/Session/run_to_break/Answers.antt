use Rattle.uv_session.proofs.Names.{◌-◌, ◌<◌, ◌∙◌, ap, arith, common_steps, Shown}
use Rattle.uv_session.proofs.Stopping.{at_break, at_end, goes_on, is_done}
use Rattle.uv_session.proofs.session.Session.run_to_break.Goals as goal

pub returns-then-stop : goal.returns-then-stop
returns-then-stop g c =
    let left : 0 < c.args.times - c.steps.counter = grind (arith, common_steps, c.steps-test.true) in
    c.steps.invariant _ _ (grind (arith, at_break, common_steps))

pub returns-in-Err : goal.returns-in-Err
returns-in-Err g c = grind (arith, common_steps, at_end)

pub steps-preserved : goal.steps-preserved
steps-preserved g c = λ r t more.
    c.steps.invariant r t (grind (arith, goes_on, common_steps))

pub returns : goal.returns
returns g c = c.steps.invariant _ _ (is_done c.args.event _ c.steps.self (grind (arith, common_steps, c.steps-test.false)))
