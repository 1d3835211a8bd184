-- A finish whose result is handed in.
use Rattle.std.specs.Prelude.{◌≡◌, ◌<◌, ◌⊎◌, ℕ, List, Option, Some, None, Result, Ok, Err, length, slice_get}
use Rattle.uv_ids.specs.declared.event.Event.{Event}
use Rattle.uv_ids.specs.declared.event.Event.TheVariants.{Finish}
use Rattle.uv_ids.specs.declared.fault.Fault.{Fault}
use Rattle.uv_ids.specs.declared.fault.Fault.TheVariants as fault
use Rattle.uv_ids.specs.declared.fault.Why.{Why}
use Rattle.uv_ids.specs.declared.fault.Why.TheVariants.{NoWork}
use Rattle.uv_ids.specs.declared.id.Id.{Id}
use Rattle.uv_script.specs.Program.{Program}
use Rattle.uv_work.specs.Requests.{job_of}
use Rattle.uv_work.specs.declared.job.Job.{Job}
use Rattle.uv_model.specs.declared.machine.Outcome.{Outcome}
use Rattle.uv_work.specs.declared.request.Request.{Request}
use Rattle.uv_model.specs.State.{State}
use Rattle.uv_model.specs.Next.{Refuses, next, work_of}
use Rattle.uv_model.specs.After.{after, Answers}

-- the job of the request that a worker may finish, if there is one
abbrev pub job_in : Result (Id × Request) Why → Option Job
job_in (Ok t) = Some (job_of t.0 t.1)
job_in (Err why) = None

-- the job that a worker runs, if it runs one
abbrev pub job_run : State → ℕ → Option Job
job_run s k = job_in (work_of s (slice_get s.running k))

-- the worker runs another job than this one
abbrev pub RunsAnother : State → ℕ → Job → Type 0
RunsAnother s k job = (other : Job) × (job_run s k ≡ Some other) × (other ≡ job → ⊥)

-- why the worker may not finish with this job's result: it may not finish at all, or it runs another job
abbrev pub RefusesResult : Program → State → ℕ → Job → Why → Type 0
RefusesResult p s k job why = (next p s (Finish k) ≡ Refuses why) ⊎ ((why ≡ NoWork) × RunsAnother s k job)

-- what may be answered to a finish with the result of this job after these steps, and the steps that stand then: where the worker runs
-- that very job it is what may be answered to the event, and where it runs another one the finish is refused
abbrev pub AnswersResult : ℕ → Program → List Event → ℕ → Job → Result Outcome Fault → List Event → Type 0
AnswersResult limit p es k job (Ok outcome) fs = (job_run (after p es) k ≡ Some job) × Answers limit p es (Finish k) (Ok outcome) fs
AnswersResult limit p es k job (Err fault.Memory) fs =
    (job_run (after p es) k ≡ Some job) × Answers limit p es (Finish k) (Err fault.Memory) fs
AnswersResult limit p es k job (Err (fault.Refused why)) fs = (length es < limit) × (fs ≡ es) × RefusesResult p (after p es) k job why
AnswersResult limit p es k job (Err fault.StepsFull) fs = Answers limit p es (Finish k) (Err fault.StepsFull) fs
AnswersResult limit p es k job (Err _) fs = ⊥
