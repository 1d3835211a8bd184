use Rattle.uv_loop.proofs.Names.{◌≡◌, Some, sym, ap, ◌∙◌, inl, arith, Finish, NoWork, job_of, job_run, held, image_of, recorded_returns}
use Rattle.uv_loop.specs.declared.plan.Plan.TheVariants as plan
use Rattle.uv_loop.proofs.Courses.{result_refused, asked}
use Rattle.uv_loop.proofs.Finishes.{finish_refused, other_refused, job_there}
use Rattle.uv_loop.proofs.Planned.{free}
use Rattle.uv_loop.proofs.Told.{few_events}
use Rattle.uv_loop.proofs.Begun.{roomier, unfinished, stands, answers}
use Rattle.uv_loop.proofs.machine.ArenaLoopMachine.finish_with.Goals as goal

pub returns-in-Err-clause-answer : goal.returns-in-Err-clause-answer
returns-in-Err-clause-answer c =
    let few = few_events c.self.inside.steps.seen.items (omega arith) in
    result_refused c.self.inside.script _ _ c.self.inside.steps.trail.records (held c.self.inside.memory) _
    c.self.view_is c.self.invariant c.args.worker c.args.work.job c.in-Err.why few
    (λ s h. inl (finish_refused c.self.inside.script (image_of c.self.inside.memory) s c.args.worker c.in-Err.why h c.in-Err.ensures.err))

pub returns-then-not-is-clause-answer : goal.returns-then-not-is-clause-answer
returns-then-not-is-clause-answer c =
    let few = few_events c.self.inside.steps.seen.items (omega arith) in
    result_refused c.self.inside.script _ _ c.self.inside.steps.trail.records (held c.self.inside.memory) _
    c.self.view_is c.self.invariant c.args.worker c.args.work.job NoWork few
    (λ s h. other_refused c.self.inside.script (image_of c.self.inside.memory) s c.args.worker c.in-Ok.asked.0 c.in-Ok.asked.1 c.args.work.job h
    (assumption c.in-Ok.ensures) (λ e. c.if-not-is.ensures (c.job.ensures ∙ e ∙ sym c.job-2.ensures)))

pub returns-then-is_err-clause-answer : goal.returns-then-is_err-clause-answer
returns-then-is_err-clause-answer c =
    let same : job_of c.in-Ok.asked.0 c.in-Ok.asked.1 ≡ c.args.work.job = sym c.job.ensures ∙ c.if-not-is.ensures ∙ c.job-2.ensures in (
      asked c.self.inside.script _ _ c.self.inside.steps.trail.records (held c.self.inside.memory) _
          c.self.view_is c.self.invariant (λ s. job_run s c.args.worker ≡ Some c.args.work.job)
          (λ s h. job_there (image_of c.self.inside.memory) s c.args.worker c.in-Ok.asked.0 c.in-Ok.asked.1 h c.in-Ok.ensures.runs
          c.in-Ok.ensures.request ∙ ap Some same),
      unfinished (Finish c.args.worker) c.self.invariant c.self.view_is
          (roomier (held c.self.inside.memory) c.reserve.ensures.same) (omega arith)
          (free c.self.inside.script (image_of c.self.inside.memory) (plan.Finish c.args.worker c.in-Ok.asked.0 c.in-Ok.asked.1)
          (assumption c.in-Ok.ensures)),
    )

pub invariant_of-self-2 : goal.invariant_of-self-2
invariant_of-self-2 c =
    stands (Finish c.args.worker) c.self.invariant c.self.view_is
    (roomier (held c.self.inside.memory) c.reserve.ensures.same) (held c.finish_work-line.new.memory) (omega arith)
    (c.finish_work-line.ensures.leads c.self.inside.script) (rw c.step_record.ensures at c.push.ensures)
    (recorded_returns c.finish_work-line.ensures.recorded)

pub returns-clause-answer : goal.returns-clause-answer
returns-clause-answer c =
    let same : job_of c.in-Ok.asked.0 c.in-Ok.asked.1 ≡ c.args.work.job = sym c.job.ensures ∙ c.if-not-is.ensures ∙ c.job-2.ensures in (
      asked c.self.inside.script _ _ c.self.inside.steps.trail.records (held c.self.inside.memory) _
          c.self.view_is c.self.invariant (λ s. job_run s c.args.worker ≡ Some c.args.work.job)
          (λ s h. job_there (image_of c.self.inside.memory) s c.args.worker c.in-Ok.asked.0 c.in-Ok.asked.1 h c.in-Ok.ensures.runs
          c.in-Ok.ensures.request ∙ ap Some same),
      answers (Finish c.args.worker) c.self.invariant c.self.view_is
          (roomier (held c.self.inside.memory) c.reserve.ensures.same) (held c.finish_work-line.new.memory) (omega arith)
          (c.finish_work-line.ensures.leads c.self.inside.script) (rw c.step_record.ensures at c.push.ensures),
    )
