use Rattle.uv_inquiry.proofs.Names.{◌++◌, map, ap, refl, ◌∙◌, arith, take_all, err_from_is_err_and, lines_text, line_cut, feed_cut, line_fed, step_line}
use Rattle.uv_inquiry.proofs.session.push_step_lines.Goals as goal

pub returns-in_err-push_step : goal.returns-in_err-push_step
returns-in_err-push_step c =
    let exit = c.from_residual in
    let p = err_from_is_err_and exit.result exit.ensures.1 in
    rw (p.1) (line_cut (step_line c.args.names.now) c.args.steps.now c.loop-step.step-index
    _ _ (omega arith) refl _ _ _ c.loop-step.invariant
    c.in_err-push_step.ensures)

pub returns-in_err-extend_from_slice : goal.returns-in_err-extend_from_slice
returns-in_err-extend_from_slice c =
    let exit = c.from_residual-in_err-extend_from_slice in
    let p = err_from_is_err_and exit.result exit.ensures.1 in
    rw (p.1) (feed_cut (step_line c.args.names.now) c.args.steps.now c.loop-step.step-index
    _ _ (omega arith) refl _ _ _ _ c.loop-step.invariant
    c.in_ok-push_step.ensures c.in_err-extend_from_slice.ensures.items)

pub loop-step-preserved : goal.loop-step-preserved
loop-step-preserved c =
    line_fed (step_line c.args.names.now) c.args.steps.now c.loop-step.step-index
    _ _ (omega arith) refl _ _ _ _ c.loop-step.invariant
    c.in_ok-push_step.ensures c.in_ok-extend_from_slice.ensures.items

pub returns : goal.returns
returns c =
    let line = step_line c.args.names.now in
    c.loop-step.invariant
    ∙ ap (λ steps. c.args.text.now.items ++ lines_text (map line steps)) (take_all c.loop-step.step-index c.args.steps.now (omega arith))
