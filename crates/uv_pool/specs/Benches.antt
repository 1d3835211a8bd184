-- What a bench answers, and what a worker makes of it, by lists of events.
use Rattle.std.specs.Prelude.{◌≡◌, ◌==◌, ◌&&◌, ◌+◌, ◌⊎◌, ℕ, List, [], ◌∷◌, ◌++◌, Bool, true, false, Option, Some, None, Result, Ok, Err}
use Rattle.uv_ids.specs.declared.id.Id.{Id}
use Rattle.uv_ids.specs.declared.fault.Fault.{Fault}
use Rattle.uv_ids.specs.declared.fault.Fault.TheVariants as fault
use Rattle.uv_ids.specs.declared.fault.Why.TheVariants as why
use Rattle.uv_work.specs.Ids.{same_id}
use Rattle.uv_work.specs.declared.job.Job.{Job}
use Rattle.uv_work.specs.declared.event.PoolEvent.{PoolEvent}
use Rattle.uv_work.specs.declared.event.PoolEvent.TheVariants as event
use Rattle.uv_work.specs.declared.result.WorkResult.{WorkResult}
use Rattle.uv_pool.specs.declared.sightings.Refusal.{Refusal}

-- why a worker can't begin
abbrev pub IsEnrolFault : Fault → Type 0
IsEnrolFault (fault.Refused why.NoWorker) = Unit {0}
IsEnrolFault fault.Limit = Unit {0}
IsEnrolFault _ = ⊥

-- why it gets no job
abbrev pub IsTakeFault : Fault → Type 0
IsTakeFault (fault.Refused why.NoWorker) = Unit {0}
IsTakeFault (fault.Refused why.BusyWorker) = Unit {0}
IsTakeFault fault.Memory = Unit {0}
IsTakeFault fault.Limit = Unit {0}
IsTakeFault _ = ⊥

-- why its result isn't taken
abbrev pub IsFinishFault : Fault → Type 0
IsFinishFault (fault.Refused why.NoWorker) = Unit {0}
IsFinishFault (fault.Refused why.IdleWorker) = Unit {0}
IsFinishFault (fault.Refused why.NoWork) = Unit {0}
IsFinishFault fault.Memory = Unit {0}
IsFinishFault fault.Limit = Unit {0}
IsFinishFault _ = ⊥

-- the faults of a worker
abbrev pub IsWorkerFault : Fault → Type 0
IsWorkerFault f = IsEnrolFault f ⊎ IsTakeFault f ⊎ IsFinishFault f

-- a job adds its Take; an answer without a job adds nothing
abbrev pub Gives : ℕ → List PoolEvent → Result (Option Job) Fault → List PoolEvent → Type 0
Gives k s (Ok (Some job)) t = t ≡ s ++ event.Take k job.req ∷ []
Gives k s (Ok None) t = t ≡ s
Gives k s (Err f) t = t ≡ s

-- a success adds its Finish, and a fault nothing
abbrev pub Ends : ℕ → WorkResult → List PoolEvent → Result (Unit {0}) Fault → List PoolEvent → Type 0
Ends k r s (Ok _) t = t ≡ s ++ event.Finish k r.job.req ∷ []
Ends k r s (Err f) t = t ≡ s

-- Take and Finish of one request in turn, all of one worker
abbrev pub are_turns : ℕ → List PoolEvent → Bool
are_turns k [] = true
are_turns k (event.Take a i ∷ []) = false
are_turns k (event.Take a i ∷ event.Finish b j ∷ more) = ((a == k) && ((b == k) && same_id i j)) && are_turns k more
are_turns k (event.Take a i ∷ e ∷ more) = false
are_turns k (e ∷ more) = false

-- what one turn adds
abbrev pub turn : ℕ → Id → List PoolEvent
turn k id = event.Take k id ∷ event.Finish k id ∷ []

-- one job more: a Take and a Finish of it; without a job nothing
abbrev pub Serves : ℕ → Bool → List PoolEvent → List PoolEvent → ℕ → List PoolEvent → List PoolEvent → ℕ → Type 0
Serves k true bench events amount bench' events' amount' = (id : Id) × (bench' ≡ bench ++ turn k id) × (events' ≡ events ++ turn k id)
    × (amount' ≡ amount + 1)
Serves k false bench events amount bench' events' amount' = (bench' ≡ bench) × (events' ≡ events) × (amount' ≡ amount)

-- What a bench is when a worker stops at a fault, by what it answered before (`answered`) and by why it may not take a result
-- (`refuses`): nothing more, or one job that was taken and whose result it didn't take, for just that
abbrev pub Breaks : {B : Type 0} → (B → List PoolEvent) → (B → ℕ → WorkResult → Fault → B → Type 0) → ℕ → Fault → List PoolEvent → List PoolEvent
    → Type 0
Breaks answered refuses k f before after =
    (after ≡ before) ⊎ ((b : _) × (b' : _) × (work : WorkResult) × (answered b ≡ before ++ event.Take k work.job.req ∷ []) × refuses b k work f b' ×
    (after ≡ answered b))

-- turns, and then at most one job that was taken and not finished
abbrev pub Stops : {B : Type 0} → (B → List PoolEvent) → (B → ℕ → WorkResult → Fault → B → Type 0) → ℕ → Fault → List PoolEvent → List PoolEvent
    → Type 0
Stops answered refuses k f before after =
    (turns : List PoolEvent) × (are_turns k turns ≡ true) × Breaks answered refuses k f (before ++ turns) after

-- what a desk knows: the events that it answered, the job that it gave and that isn't finished, whether it had no job at
-- last, whether it was closed, and which result the book didn't take last
pub record AtDesk : Type 0 where
  pub events : List PoolEvent
  pub job : Option Job
  pub idle : Bool
  pub closed : Bool
  pub refused : Option Refusal
