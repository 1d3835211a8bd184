-- A step of the loop, and its entry in the book.
use Rattle.std.specs.Prelude.{◌≡◌, ◌<◌, ◌≤◌, ◌⊎◌, List, Option, Some, None, Result, Ok, Err, length}
use Rattle.uv_ids.specs.Limits.{MOST_STEPS}
use Rattle.uv_ids.specs.declared.event.Event.TheVariants as step
use Rattle.uv_ids.specs.declared.fault.Fault.{Fault}
use Rattle.uv_ids.specs.declared.fault.Fault.TheVariants as fault
use Rattle.uv_ids.specs.declared.fault.Why.{Why}
use Rattle.uv_work.specs.declared.event.PoolEvent.{PoolEvent}
use Rattle.uv_live.specs.Course.{Course, stepped, taken}
use Rattle.uv_live.specs.Following.{MayTake, TakesSome, TakesFew, TearsAt}

-- an answer, by the pool's events that the step is
abbrev pub events_as : {O : Type 0} → (O → List PoolEvent) → Result O Fault → Result (List PoolEvent) Fault
events_as by (Ok outcome) = Ok (by outcome)
events_as by (Err f) = Err f

-- the loop's step stands with its events, where nothing refuses it; or it was refused for just that, or there is no memory or no step
-- left, and nothing changed
abbrev pub Steps : Option Why → Course → Result (List PoolEvent) Fault → Course → Type 0
Steps refusal s (Ok events) t = (refusal ≡ None) × (t ≡ stepped step.Loop events s)
Steps refusal s (Err (fault.Refused w)) t = (refusal ≡ Some w) × (t ≡ s)
Steps refusal s (Err fault.Memory) t = t ≡ s
Steps refusal s (Err fault.StepsFull) t = t ≡ s
Steps refusal s (Err _) t = ⊥

-- all of the log's rest was applied
abbrev pub TakesAll : List PoolEvent → Course → Course → Type 0
TakesAll log s t = MayTake (length log) log s.events × (t ≡ taken (length log) log s)

-- on success all of the log's rest was applied and then one step of the loop, whose event is the log's new entry. On a fault the log is
-- as before, and so is the session except what was applied
abbrev pub Turns : List PoolEvent → Course → Result (List PoolEvent) Fault → List PoolEvent → Course → Type 0
Turns log s (Ok events) log' t =
    MayTake (length log) log s.events × (t ≡ stepped step.Loop events (taken (length log) log s)) × (log' ≡ t.events)
Turns log s (Err (fault.Torn at)) log' t = (log' ≡ log) × TearsAt at log s t
Turns log s (Err (fault.Refused w)) log' t = (log' ≡ log) × (length log < MOST_STEPS) × TakesAll log s t
Turns log s (Err fault.Memory) log' t = (log' ≡ log) × TakesSome log s t
Turns log s (Err fault.StepsFull) log' t = (log' ≡ log) × (TakesFew log s t ⊎ ((length log < MOST_STEPS) × TakesAll log s t))
Turns log s (Err fault.Limit) log' t = (log' ≡ log) × (MOST_STEPS ≤ length log) × TakesAll log s t
Turns log s (Err _) log' t = ⊥

-- where it answers a refusal, the loop's next step is refused for just that
abbrev pub Refuses : {O : Type 0} → Result O Fault → Option Why → Type 0
Refuses (Err (fault.Refused w)) refusal = refusal ≡ Some w
Refuses _ refusal = Unit {0}
