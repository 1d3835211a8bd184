-- How a session follows the log of a book.
use Rattle.std.specs.Prelude.{◌≡◌, ◌<◌, ◌≤◌, ◌⊎◌, ◌+◌, ℕ, List, [], ◌∷◌, Bool, Option, Some, None, Result, Ok, Err, length, take, slice_get}
use Rattle.std.specs.Bool.{MatchBool}
use Rattle.uv_ids.specs.declared.event.Event.{Event}
use Rattle.uv_ids.specs.declared.fault.Fault.{Fault}
use Rattle.uv_ids.specs.declared.fault.Fault.TheVariants as fault
use Rattle.uv_ids.specs.declared.fault.Why.{Why}
use Rattle.uv_ids.specs.declared.fault.Why.TheVariants as why
use Rattle.uv_work.specs.declared.event.PoolEvent.{PoolEvent}
use Rattle.uv_work.specs.declared.event.PoolEvent.TheVariants as event
use Rattle.uv_pool.specs.Contents.{Contents}
use Rattle.uv_live.specs.Course.{Course, stepped, step_of, taken}

-- the answer of a test
abbrev pub Decides : Bool → Type 0 → Type 0
Decides answer P = MatchBool answer P (P → ⊥)

-- a step from outside the pool stands, or nothing changed
abbrev pub Adds : Event → Course → Result (Unit {0}) Fault → Course → Type 0
Adds step s (Ok _) t = t ≡ stepped step [] s
Adds step s (Err f) t = t ≡ s

-- a worker's event is a step; or there is no memory or no step left, and nothing changed
abbrev pub Applies : PoolEvent → Course → Result (Unit {0}) Fault → Course → Type 0
Applies e s (Ok _) t = t ≡ stepped (step_of e) (e ∷ []) s
Applies e s (Err fault.Memory) t = t ≡ s
Applies e s (Err fault.StepsFull) t = t ≡ s
Applies e s (Err _) t = ⊥

-- a loop at its end stays there
abbrev pub StaysEnded : Option Why → Option Why → Type 0
StaysEnded before after = before ≡ Some why.Ended → after ≡ Some why.Ended

-- the log begins with the events; or this is the first place, from 0, where it hasn't the event
abbrev pub PartsAt : List PoolEvent → List PoolEvent → Option ℕ → Type 0
PartsAt events log None = (length events ≤ length log) × (take (length events) log ≡ events)
PartsAt events log (Some n) = (n < length events) × (take n events ≡ take n log) × (slice_get events n ≡ slice_get log n → ⊥)

-- a worker's event
abbrev pub IsWorkers : Option PoolEvent → Type 0
IsWorkers (Some (event.Take k id)) = Unit {0}
IsWorkers (Some (event.Finish k id)) = Unit {0}
IsWorkers _ = ⊥

-- the log begins with the events, and what follows them before place n are workers' events
pub record MayTake (n : ℕ) (log : List PoolEvent) (events : List PoolEvent) : Type 0 where
  pub begins : take (length events) log ≡ events
  pub from : length events ≤ n
  pub within : n ≤ length log
  pub theirs : (m : ℕ) → length events ≤ m → m < n → IsWorkers (slice_get log m)

-- some of the log's rest was applied, from its front on
abbrev pub TakesSome : List PoolEvent → Course → Course → Type 0
TakesSome log s t = (n : ℕ) × MayTake n log s.events × (t ≡ taken n log s)

-- and not all of it
abbrev pub TakesFew : List PoolEvent → Course → Course → Type 0
TakesFew log s t = (n : ℕ) × (n < length log) × MayTake n log s.events × (t ≡ taken n log s)

-- where the answer is that no step more may be taken, P
abbrev pub OnFull : {X : Type 0} → Result X Fault → Type 0 → Type 0
OnFull (Err fault.StepsFull) P = P
OnFull _ P = Unit {0}

-- the log and the events part at a place, from 1, and nothing changed; or the entry there is no worker's, and those before it were applied
abbrev pub TearsAt : ℕ → List PoolEvent → Course → Course → Type 0
TearsAt at log s t = (n : ℕ) × (at ≡ n + 1)
    × ((PartsAt s.events log (Some n) × (t ≡ s))
    ⊎ (MayTake n log s.events × (n < length log) × (IsWorkers (slice_get log n) → ⊥) × (t ≡ taken n log s)))

-- all of the log's rest was applied, and is so long; or some of it, and why not all
abbrev pub Syncs : List PoolEvent → Course → Result ℕ Fault → Course → Type 0
Syncs log s (Ok n) t = MayTake (length log) log s.events × (length s.events + n ≡ length log) × (t ≡ taken (length log) log s)
Syncs log s (Err (fault.Torn at)) t = TearsAt at log s t
Syncs log s (Err fault.Memory) t = TakesSome log s t
Syncs log s (Err fault.StepsFull) t = TakesFew log s t
Syncs log s (Err _) t = ⊥

-- a session of so many workers and with these events follows the book
abbrev pub Follows : ℕ → List PoolEvent → Contents → Type 0
Follows workers events c = (workers ≡ length c.running) × PartsAt events c.log None
