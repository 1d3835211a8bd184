use Rattle.uv_plain.proofs.Names.{sym, ◌∙◌, refl, arith}
use Rattle.uv_plain.proofs.Kept.{kept_more, answers_more}
use Rattle.uv_plain.proofs.plain.PlainLoopMachine.step.Goals as goal

pub invariant_of-self : goal.invariant_of-self
invariant_of-self c = rw (c.reserve_step.ensures.steps, c.reserve_step.ensures.seen) c.self.invariant

pub invariant_of-self-in_err-outcome : goal.invariant_of-self-in_err-outcome
invariant_of-self-in_err-outcome c = grind arith

pub invariant_of-self-2 : goal.invariant_of-self-2
invariant_of-self-2 c = kept_more _ _ _ _ _ _ _ c.args.event c.in_ok-outcome.outcome.seen c.self.invariant (omega arith)
    (rw c.reserve_step.ensures.steps at c.push_reserved.ensures.items)
    (rw c.reserve_step.ensures.seen at c.push_reserved-2.ensures.items)
    c.in_ok-outcome.ensures

pub returns-in-Some-clause-answer : goal.returns-in-Some-clause-answer
returns-in-Some-clause-answer c = grind arith

pub returns-in_err-reserve_step-clause-answer : goal.returns-in_err-reserve_step-clause-answer
returns-in_err-reserve_step-clause-answer c = grind arith

pub returns-in_err-outcome-clause-answer : goal.returns-in_err-outcome-clause-answer
returns-in_err-outcome-clause-answer c = grind arith

pub returns-clause-answer : goal.returns-clause-answer
returns-clause-answer c = grind (arith, answers_more)
