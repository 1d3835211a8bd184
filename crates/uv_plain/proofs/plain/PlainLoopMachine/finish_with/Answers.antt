use Rattle.uv_plain.proofs.Names.{refl, arith, Finish}
use Rattle.uv_plain.proofs.Kept.{kept_more, answers_refused_result}
use Rattle.uv_plain.proofs.plain.PlainLoopMachine.finish_with.Goals as goal

pub invariant_of-self : goal.invariant_of-self
invariant_of-self c = rw (c.reserve_step.ensures.steps, c.reserve_step.ensures.seen) c.self.invariant

pub invariant_of-self-in_err-outcome : goal.invariant_of-self-in_err-outcome
invariant_of-self-in_err-outcome c = grind arith

pub invariant_of-self-2 : goal.invariant_of-self-2
invariant_of-self-2 c = kept_more _ _ _ _ _ _ _ (Finish c.args.worker) c.in_ok-outcome.outcome.seen c.self.invariant (omega arith)
    (rw c.reserve_step.ensures.steps at c.push_reserved.ensures.items)
    (rw c.reserve_step.ensures.seen at c.push_reserved-2.ensures.items)
    c.in_ok-outcome.ensures

pub returns-in-Some-clause-answer : goal.returns-in-Some-clause-answer
returns-in-Some-clause-answer c = answers_refused_result c.args.self.now c.self.inside.script c.self.inside.steps.items _
    c.self.inside.state c.args.worker c.args.work.job c.in-Some.why
    (record { seen_as = c.self.view_is; state_is = c.self.invariant.state_is; few = omega arith })
    refl
    (rw c.job.ensures at c.in-Some.ensures.some)
