-- What can be asked of a state.
use Rattle.std.specs.Prelude.{ℕ, ◌+◌, ◌==◌, List, [], ◌∷◌, map, Bool, Option, Some, None, option_and_then, slice_get, if◌then◌else◌}
use Rattle.std.specs.List.{list_any}
use Rattle.uv_ids.specs.declared.id.Id.{Id}
use Rattle.uv_ids.specs.declared.due.Due.{Due}
use Rattle.uv_records.specs.declared.lists.ListName.{ListName}
use Rattle.uv_records.specs.declared.lists.ListName.TheVariants as name
use Rattle.uv_work.specs.Pool.{is_run}
use Rattle.uv_model.specs.declared.numbers.Numbers.{Numbers}
use Rattle.uv_model.specs.State.{State}

-- the numbers and flags
abbrev pub numbers : State → Numbers
numbers s = record { time = s.time; clock = s.clock; next_start = s.next_start; stop_flag = s.stop_flag; idled = s.idled }

-- the active timers, in the order in which they are due
abbrev pub timer_ids : State → List Id
timer_ids s = map (λ (t : Due × Id). t.1) s.timers

-- the members of a list, front first
abbrev pub members : State → ListName → List Id
members s name.Ready = s.ready
members s name.Idle = s.watchers.idle.list
members s name.IdleYet = s.watchers.idle.yet
members s name.Prepare = s.watchers.prepare.list
members s name.PrepareYet = s.watchers.prepare.yet
members s name.Check = s.watchers.check.list
members s name.CheckYet = s.watchers.check.yet
members s name.Async = s.watchers.async.list
members s name.AsyncYet = s.watchers.async.yet
members s name.Closing = s.closing.list
members s name.ClosingYet = s.closing.yet
members s name.Waiting = s.waiting
members s name.Done = s.done.list
members s name.DoneYet = s.done.yet

-- what a worker runs
abbrev pub run_by : State → ℕ → Option Id
run_by s worker = option_and_then (λ run. run) (slice_get s.running worker)

-- the first of these workers that runs a request, the first of them having this number
abbrev pub runner_from : ℕ → List (Option Id) → Id → Option ℕ
runner_from worker [] id = None
runner_from worker (run ∷ running) id = if is_run run id then Some worker else runner_from (worker + 1) running id

abbrev pub worker_of : State → Id → Option ℕ
worker_of s id = runner_from 0 s.running id

-- a slot is on the free list
abbrev pub is_free : State → ℕ → Bool
is_free s number = list_any (λ n. n == number) s.arena.free
