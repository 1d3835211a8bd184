-- A live run.
use Rattle.std.specs.Prelude.{◌≡◌, ◌-◌, ◌<◌, ◌⊎◌, ℕ, List, [], ◌∷◌, Bool, true, Option, Some, None, Result, Ok, Err, slice_get}
use Rattle.uv_ids.specs.Limits.{MOST_WORKERS}
use Rattle.uv_ids.specs.declared.event.Event.TheVariants as step
use Rattle.uv_ids.specs.declared.fault.Fault.{Fault}
use Rattle.uv_ids.specs.declared.fault.Why.{Why}
use Rattle.uv_ids.specs.declared.fault.Why.TheVariants as why
use Rattle.uv_pool.specs.Book.{Standing}
use Rattle.uv_live.specs.Course.{Course, Plan, stepped}
use Rattle.uv_live.specs.Settling.{Worked, IsSettled}

-- a run that came to its end
abbrev pub HaltsAt : Result Bool Fault → Option Why → Type 0
HaltsAt (Ok true) refusal = refusal ≡ Some why.Ended
HaltsAt _ refusal = Unit {0}

-- there are no pools of so many workers
abbrev pub IsNoWorkerCount : ℕ → Type 0
IsNoWorkerCount workers = (workers ≡ 0) ⊎ (MOST_WORKERS < workers)

-- with some book, shifts and counts of absorbed words the run is settled
abbrev pub RunSettles : {S : Type 0} → Plan S → Course → Type 0
RunSettles plan s = (book : Standing) × (shifts : List Worked) × (counts : List ℕ) × IsSettled plan s book shifts counts

-- the clock went on from one time to a later one, and that is one step; or it is as it was
abbrev pub PassesTo : ℕ → ℕ → Course → Result (Unit {0}) Fault → Course → Type 0
PassesTo before moment s (Ok _) t = (before < moment) × (t ≡ stepped (step.Tick (moment - before)) [] s)
PassesTo before moment s (Err f) t = t ≡ s

-- the first fault of some answers
abbrev pub first_fault : {X F : Type 0} → List (Result X F) → Option F
first_fault [] = None
first_fault (Err f ∷ more) = Some f
first_fault (Ok x ∷ more) = first_fault more

-- what those of some answers gave that are no fault
abbrev pub given_in : {X F : Type 0} → List (Result X F) → List X
given_in [] = []
given_in (Ok x ∷ more) = x ∷ given_in more
given_in (Err f ∷ more) = given_in more

-- these are the numbers from 0 on, in order
abbrev pub AreNumbered : List ℕ → Type 0
AreNumbered ns = (k n : ℕ) → slice_get ns k ≡ Some n → n ≡ k
