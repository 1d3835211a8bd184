-- What a live run sees of a session: what its script says of the run, and what stands.
use Rattle.std.specs.Prelude.{◌<◌, ℕ, List, [], ◌∷◌, ◌++◌, Option, Some, None, length, take, drop, map, All}
use Rattle.uv_ids.specs.declared.event.Event.{Event}
use Rattle.uv_ids.specs.declared.event.Event.TheVariants as step
use Rattle.uv_work.specs.declared.job.Job.{Job}
use Rattle.uv_work.specs.declared.event.PoolEvent.{PoolEvent}
use Rattle.uv_work.specs.declared.event.PoolEvent.TheVariants as event
use Rattle.uv_ids.specs.declared.thread_line.ThreadLine.{ThreadLine}
use Rattle.uv_live.specs.declared.follower.Did.{Did}
use Rattle.uv_live.specs.declared.follower.Did.TheVariants as did

-- the script, whatever it is to the session, and what it says of a run: how many workers and names there are, and its `thread` lines
pub record Plan (Script : Type 0) : Type 0 where
  pub script : Script
  pub workers : ℕ
  pub names : ℕ
  pub lines : List ThreadLine

-- the names of the lines are names of the script
abbrev pub AreNamed : ℕ → List ThreadLine → Type 0
AreNamed names lines = All (λ (l : ThreadLine). l.name.0 < names) lines

-- the steps that stand, and the pool's events that they are
pub record Course : Type 0 where
  pub steps : List Event
  pub events : List PoolEvent

-- one step more, with the pool's events that it is
abbrev pub stepped : Event → List PoolEvent → Course → Course
stepped step events s = record { steps = s.steps ++ step ∷ []; events = s.events ++ events }

-- the pool's events of a step of the loop
abbrev pub events_of : Did → List PoolEvent
events_of did.Nothing = []
events_of (did.Queued job) = event.Queue job.req ∷ []
events_of (did.Cancelled id) = event.Cancel id ∷ []
events_of (did.Collected id) = event.Collect id ∷ []

-- the step that an entry of the log is: a worker's of its own, any other one of the loop
abbrev pub step_of : PoolEvent → Event
step_of (event.Take k id) = step.Take k
step_of (event.Finish k id) = step.Finish k
step_of _ = step.Loop

-- the job of a request that it queued
abbrev pub job_of : Did → Option Job
job_of (did.Queued job) = Some job
job_of _ = None

-- the first n entries of the log are the session's events, and those past its own are a step each
abbrev pub taken : ℕ → List PoolEvent → Course → Course
taken n log s = record { steps = s.steps ++ map step_of (drop (length s.events) (take n log)); events = take n log }
