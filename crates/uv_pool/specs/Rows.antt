-- Where the requests of the pool stand.
use Rattle.std.specs.Prelude.{◌≡◌, ℕ, zero, suc, List, Option, Some, None, slice_get}
use Rattle.uv_ids.specs.declared.id.Id.{Id}
use Rattle.uv_work.specs.declared.job.Job.{Job}
use Rattle.uv_pool.specs.declared.places.Collected.{Collected}
use Rattle.uv_pool.specs.declared.places.Place.{Place}
use Rattle.uv_pool.specs.declared.places.Place.TheVariants as place

-- what has a number, in a list whose front has the number `first`
abbrev pub at_number : {X : Type 0} → ℕ → List X → ℕ → Option X
at_number zero xs n = slice_get xs n
at_number (suc first) xs zero = None
at_number (suc first) xs (suc n) = at_number first xs n

-- the places of those that wait, from the number `first` on, empty where one was cancelled; what each worker runs; those
-- that are done, from the number `collected` on
pub record Rows : Type 0 where
  pub first : ℕ
  pub waiting : List (Option Job)
  pub running : List (Option Job)
  pub collected : ℕ
  pub done : List Collected

abbrev pub id_of_job : Option (Option Job) → Option Id
id_of_job (Some (Some job)) = Some job.req
id_of_job _ = None

abbrev pub id_of_done : Option Collected → Option Id
id_of_done (Some member) = Some member.id
id_of_done None = None

-- the request that stands at a place
abbrev pub id_at : Rows → Place → Option Id
id_at r (place.Waiting n) = id_of_job (at_number r.first r.waiting n)
id_at r (place.Running k) = id_of_job (slice_get r.running k)
id_at r (place.Done n) = id_of_done (at_number r.collected r.done n)

-- the request stands nowhere
abbrev pub IsNowhere : Rows → Id → Type 0
IsNowhere r id = (p : Place) → id_at r p ≡ Some id → ⊥

-- `at` knows the place of each request that stands at one: so none stands at two
pub record IsIndexed (r : Rows) (at : Id → Option Place) : Type 0 where
  pub stands : (p : Place) (id : Id) → id_at r p ≡ Some id → at id ≡ Some p
