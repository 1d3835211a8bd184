-- The events of the thread pool, by the lines of a trace (libuv's "Thread pool work scheduling"): which event each line is, and which pool a
-- state has. So the log of a pool can be held against a trace.
use Rattle.std.specs.Prelude.{List, [], ◌∷◌, ◌++◌, map, Bool, false, Option, Some, None}
use Rattle.std.specs.List.{flat_map}
use Rattle.uv_ids.specs.declared.id.Id.{Id}
use Rattle.uv_ids.specs.declared.code.Answer.{Answer}
use Rattle.uv_ids.specs.declared.code.Answer.TheVariants as answer
use Rattle.uv_ids.specs.declared.seen.Seen.{Seen}
use Rattle.uv_ids.specs.declared.seen.Seen.TheVariants as seen
use Rattle.uv_script.specs.declared.op.Op.{Op}
use Rattle.uv_script.specs.declared.op.Op.TheVariants as op
use Rattle.uv_script.specs.Program.{Program}
use Rattle.uv_work.specs.Pool.{Pool, Done}
use Rattle.uv_work.specs.Requests.{is_finished}
use Rattle.uv_work.specs.declared.event.PoolEvent.{PoolEvent}
use Rattle.uv_work.specs.declared.event.PoolEvent.TheVariants as event
use Rattle.uv_work.specs.declared.request.Request.{Request}
use Rattle.uv_model.specs.State.{State, request}
use Rattle.uv_order.specs.Once.{Answered, answered}

-- an op: a `queue` that answers an id, and a `cancel` that is answered with ok
abbrev pub op_events : Op → Answer → List PoolEvent
op_events (op.Queue v task) (answer.Id id) = event.Queue id ∷ []
op_events (op.Cancel v) (answer.Cancelled id) = event.Cancel id ∷ []
op_events o a = []

abbrev pub answered_events : Option Answered → List PoolEvent
answered_events None = []
answered_events (Some x) = op_events x.op x.answer

-- a cancel from outside that is answered with ok
abbrev pub outside_events : Answer → List PoolEvent
outside_events (answer.Cancelled id) = event.Cancel id ∷ []
outside_events a = []

-- the event of a line, if it is one: an op, what a worker did, a cancel from outside, and an after callback, which collects its request
abbrev pub line_events : Program → Seen → List PoolEvent
line_events p (seen.Op place a) = answered_events (answered p (seen.Op place a))
line_events p (seen.Take k v id) = event.Take k id ∷ []
line_events p (seen.Finish k v id) = event.Finish k id ∷ []
line_events p (seen.Cancel v a) = outside_events a
line_events p (seen.After digest v id) = event.Collect id ∷ []
line_events p l = []

-- the events of these lines, in order
abbrev pub pool_events : Program → List Seen → List PoolEvent
pool_events p ls = flat_map (line_events p) ls

-- a request that ended, as the pool has it: was it finished
abbrev pub was_finished : Option Request → Bool
was_finished None = false
was_finished (Some r) = is_finished r.outcome

abbrev pub done_as : State → Id → Done
done_as s id = record { id = id; finished = was_finished (request s id) }

-- the pool of a state: those yet to call back in the section under way come before the others that are done
abbrev pub pool_of : State → Pool
pool_of s = record { waiting = s.waiting; running = s.running; done = map (done_as s) (s.done.yet ++ s.done.list) }
