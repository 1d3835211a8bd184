-- What a live run sees of a session: the pool's events of the steps that stand, why the loop's next step would be refused, whether the loop
-- is at a poll and when that times out, and its clock.
use Rattle.std.specs.Prelude.{ℕ, List, [], Bool, true, false, Option, Some, None}
use Rattle.uv_ids.specs.declared.event.Event.{Event}
use Rattle.uv_ids.specs.declared.event.Event.TheVariants.{Loop}
use Rattle.uv_ids.specs.declared.fault.Why.{Why}
use Rattle.uv_ids.specs.declared.seen.Seen.{Seen}
use Rattle.uv_ids.specs.declared.seen.Seen.TheVariants as seen
use Rattle.uv_ids.specs.declared.code.Answer.{Answer}
use Rattle.uv_ids.specs.declared.code.Answer.TheVariants as answer
use Rattle.uv_script.specs.declared.op.Op.{Op}
use Rattle.uv_script.specs.declared.op.Op.TheVariants as op
use Rattle.uv_script.specs.Program.{Program, op_at}
use Rattle.uv_work.specs.declared.job.Job.{Job}
use Rattle.uv_work.specs.declared.event.PoolEvent.{PoolEvent}
use Rattle.uv_model.specs.declared.place.Place.{Place}
use Rattle.uv_model.specs.declared.place.Place.TheVariants.{Main, Running}
use Rattle.uv_model.specs.declared.place.Stage.{Stage}
use Rattle.uv_model.specs.declared.place.Stage.TheVariants.{Poll}
use Rattle.uv_model.specs.Next.{next}
use Rattle.uv_model.specs.After.{after, lines, refusal_of}
use Rattle.uv_order.specs.PoolEvents.{line_events, pool_events}

-- the pool's events of these steps, by their lines
unfoldable pub events_by : Program → List Event → List PoolEvent
events_by p es = pool_events p (lines p es)

-- the pool's events of a step, by the line that it appended
abbrev pub events_in : Program → Option Seen → List PoolEvent
events_in p None = []
events_in p (Some l) = line_events p l

-- the pool's events of a step of the loop, by the line that it appended: what an op did, or an after callback
abbrev pub events_of_loop : Program → Option Seen → List PoolEvent
events_of_loop p (Some (seen.Op site a)) = line_events p (seen.Op site a)
events_of_loop p (Some (seen.After digest v id)) = line_events p (seen.After digest v id)
events_of_loop p l = []

-- what a request asks for that this op queued: the rounds and the text of its line, under the id that it answered
abbrev pub job_asked : Op → Answer → Option Job
job_asked (op.Queue v task) (answer.Id id) = Some record { req = id; task = task }
job_asked o a = None

abbrev pub job_at : Option Op → Answer → Option Job
job_at None a = None
job_at (Some o) a = job_asked o a

-- the job of a request that a step queued, by the line that it appended
abbrev pub job_by : Program → Option Seen → Option Job
job_by p (Some (seen.Op site a)) = job_at (op_at p site) a
job_by p l = None

-- why the loop's next step would be refused after these
unfoldable pub refusal_after : Program → List Event → Option Why
refusal_after p es = refusal_of (next p (after p es) Loop)

abbrev pub is_poll : Stage → Bool
is_poll (Poll deadline) = true
is_poll stage = false

-- the loop is at a poll
abbrev pub is_polling : Place → Bool
is_polling (Main line) = false
is_polling (Running run) = is_poll run.stage

-- so it is after these steps
unfoldable pub polls_after : Program → List Event → Bool
polls_after p es = is_polling (after p es).place

-- when the poll times out; none where it waits forever, or the loop isn't at one
abbrev pub deadline_in : Stage → Option ℕ
deadline_in (Poll deadline) = deadline
deadline_in _ = None

abbrev pub deadline_of : Place → Option ℕ
deadline_of (Main line) = None
deadline_of (Running run) = deadline_in run.stage

unfoldable pub due_after : Program → List Event → Option ℕ
due_after p es = deadline_of (after p es).place

-- the loop's clock after these steps
unfoldable pub hours_after : Program → List Event → ℕ
hours_after p es = (after p es).clock
