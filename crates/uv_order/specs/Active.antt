-- Which handles are active, as the handles say: the timers in their order, those of them that are due, and the watchers of a kind.
use Rattle.std.specs.Prelude.{◌≡◌, ◌⊎◌, ◌||◌, Bool, true, false, List, [], ◌∷◌, Option, Some, None, filter, map, nat_le}
use Rattle.std.specs.declared.cmp.Ordering.TheVariants.{Less}
use Rattle.std.specs.Ordering.{ordering_then, nat_cmp}
use Rattle.std.specs.declared.cmp.Ordering.{Ordering}
use Rattle.uv_ids.specs.declared.id.Id.{Id}
use Rattle.uv_ids.specs.declared.due.Due.{Due}
use Rattle.uv_ids.specs.declared.phase.Kind.{Kind}
use Rattle.uv_ids.specs.declared.phase.Kind.TheVariants as kind
use Rattle.uv_records.specs.declared.handle.HandleRecord.{HandleRecord}
use Rattle.uv_model.specs.Ids.{same_id}
use Rattle.uv_work.specs.Requests.{is_open}
use Rattle.uv_work.specs.declared.request.Request.{Request}
use Rattle.uv_model.specs.State.{State, handle, request}

-- ---- ids

abbrev pub has_id : List Id → Id → Bool
has_id [] id = false
has_id (x ∷ xs) id = same_id x id || has_id xs id

-- no id stands twice
abbrev pub AreDistinct : List Id → Type 0
AreDistinct [] = Unit {0}
AreDistinct (id ∷ ids) = (has_id ids id ≡ false) × AreDistinct ids

-- these are all of which this holds, and no others, and none twice
pub record AreAll (P : Id → Type 0) (ids : List Id) : Type 0 where
  pub each : (id : Id) → has_id ids id ≡ true → P id
  pub all : (id : Id) → P id → has_id ids id ≡ true
  pub distinct : AreDistinct ids

-- ---- watchers

-- the id is that of an active handle of this kind
pub record IsActive (s : State) (k : Kind) (id : Id) : Type 0 where
  pub its : HandleRecord
  pub holds : handle s id ≡ Some its
  pub kind : its.kind ≡ k
  pub active : its.active ≡ true

-- these are the active handles of this kind
abbrev pub AreActive : State → Kind → List Id → Type 0
AreActive s k ids = AreAll (IsActive s k) ids

-- ---- closing handles

-- the id is that of a handle that closes, and whose close callback is still to come
pub record IsClosing (s : State) (id : Id) : Type 0 where
  pub its : HandleRecord
  pub holds : handle s id ≡ Some its
  pub closing : its.closing ≡ true

abbrev pub AreClosing : State → List Id → Type 0
AreClosing s ids = AreAll (IsClosing s) ids

-- ---- requests

-- the id is that of a request that was finished or cancelled, and whose after callback is still to come
pub record IsEnded (s : State) (id : Id) : Type 0 where
  pub its : Request
  pub holds : request s id ≡ Some its
  pub ended : is_open its.outcome ≡ false

abbrev pub AreEnded : State → List Id → Type 0
AreEnded s ids = AreAll (IsEnded s) ids

-- the requests that workers run
abbrev pub run_ids : List (Option Id) → List Id
run_ids [] = []
run_ids (None ∷ running) = run_ids running
run_ids (Some id ∷ running) = id ∷ run_ids running

-- the id is that of a request that waits for a worker, or that one runs
pub record IsOpened (s : State) (id : Id) : Type 0 where
  pub its : Request
  pub holds : request s id ≡ Some its
  pub opened : is_open its.outcome ≡ true

abbrev pub AreOpened : State → List Id → Type 0
AreOpened s ids = AreAll (IsOpened s) ids

-- ---- timers

-- the id is that of an active timer, which is due then
pub record IsTimer (s : State) (key : Due) (id : Id) : Type 0 where
  pub its : HandleRecord
  pub holds : handle s id ≡ Some its
  pub kind : its.kind ≡ kind.Timer
  pub active : its.active ≡ true
  pub due : its.due ≡ key

-- it stands on the list
abbrev pub Has : List (Due × Id) → Due → Id → Type 0
Has [] due id = ⊥
Has (t ∷ ts) due id = ((t.0 ≡ due) × (t.1 ≡ id)) ⊎ Has ts due id

-- the order of timers: by due time, and then by the number that the start drew
abbrev pub due_order : Due → Due → Ordering
due_order a b = ordering_then (nat_cmp a.at b.at) (nat_cmp a.start b.start)

-- it comes before each of these
abbrev pub Before : Due → List (Due × Id) → Type 0
Before due [] = Unit {0}
Before due (t ∷ ts) = (due_order due t.0 ≡ Less) × Before due ts

-- each comes before those behind it
abbrev pub InOrder : List (Due × Id) → Type 0
InOrder [] = Unit {0}
InOrder (t ∷ ts) = Before t.0 ts × InOrder ts

-- these are the active timers, all of them and no others, each with its due time and start number, in that order
pub record AreTimers (s : State) (timers : List (Due × Id)) : Type 0 where
  pub each : (due : Due) (id : Id) → Has timers due id → IsTimer s due id
  pub all : (due : Due) (id : Id) → IsTimer s due id → Has timers due id
  pub sorted : InOrder timers

-- these are all active timers that are due, in their order; no id stands twice
pub record AreDue (s : State) (ids : List Id) : Type 0 where
  pub timers : List (Due × Id)
  pub are : AreTimers s timers
  pub due : ids ≡ map (λ (t : Due × Id). t.1) (filter (λ (t : Due × Id). nat_le t.0.at s.time) timers)
  pub distinct : AreDistinct ids
