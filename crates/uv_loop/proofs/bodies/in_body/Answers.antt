use Rattle.uv_loop.proofs.Names.{◌∙◌, sym, ap, subst, Running, held, image_of, PerformsAt}
use Rattle.uv_loop.proofs.Lines.{left, goes_on}
use Rattle.uv_loop.proofs.bodies.in_body.Goals as goal

pub returns-in-None-clause-turns : goal.returns-in-None-clause-turns
returns-in-None-clause-turns c =
    left c.args.script.now c.args.run.now c.args.body (held c.args.memory.now) (held c.leave_body.new.memory) c.leave_body.new.memory.step_record
    (sym c.in-None.ensures.line) (c.leave_body.ensures.turns c.args.script.now c.args.body)

pub returns-in_ok-answer-in-Some-clause-turns : goal.returns-in_ok-answer-in-Some-clause-turns
returns-in_ok-answer-in-Some-clause-turns c =
    goes_on c.args.script.now c.args.run.now c.args.body (held c.args.memory.now) (held c.perform_at.new.memory) c.in-Some.line
    c.in_ok-answer-in-Some.answer c.perform_at.new.memory.step_record (sym c.in-Some.ensures.line) c.in_ok-answer-in-Some.ensures.returns
    (subst (λ q. PerformsAt c.in-Some.line.op q (image_of c.args.memory.now) (image_of c.perform_at.new.memory) c.in_ok-answer-in-Some.answer)
    (c.running-place.ensures ∙ ap (λ b. Running (record c.args.run.now { body = b })) c.body_from-rest.ensures)
    c.in_ok-answer-in-Some.ensures.performs)
