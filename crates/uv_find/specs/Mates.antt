-- Requests that are alike. Where workers run two of them, all that comes behind the second one's finish comes, with their names changed, behind
-- that of the first one: so only the first one is finished.
use Rattle.std.specs.Prelude.{ℕ, zero, suc, ◌+◌, ◌-◌, ◌==◌, ◌&&◌, Bool, true, false, nat_lt, List, [], ◌∷◌, ◌++◌, length, drop, Option, Some, None, slice_get, unwrap_or, if◌then◌else◌}
use Rattle.std.specs.List.{list_all, list_any}
use Rattle.uv_ids.specs.declared.event.Event.TheVariants as event
use Rattle.uv_ids.specs.declared.id.Id.{Id}
use Rattle.uv_script.specs.Program.{Program, worker_count}
use Rattle.uv_records.specs.declared.named.Calls.{Calls}
use Rattle.uv_work.specs.declared.request.Request.{Request}
use Rattle.uv_model.specs.Bounds.{line_of}
use Rattle.uv_model.specs.declared.place.Body.{Body}
use Rattle.uv_model.specs.declared.place.Place as loop
use Rattle.uv_model.specs.declared.place.Place.TheVariants.{Main, Running}
use Rattle.uv_model.specs.State.{State, named, request}
use Rattle.uv_model.specs.Queries.{run_by}
use Rattle.uv_asking.specs.Asked.{Asked}
use Rattle.uv_asking.specs.declared.asking.Most.{Most}
use Rattle.uv_asking.specs.declared.asking.Offer.{Offer}
use Rattle.uv_asking.specs.declared.asking.Offer.TheVariants.{Step}
use Rattle.uv_asking.specs.declared.asking.Offered.{Offered}
use Rattle.uv_asking.specs.declared.asking.Question.{Question}
use Rattle.uv_asking.specs.declared.asking.Question.TheVariants as asks
use Rattle.uv_find.specs.Holding.{are_at_will, is_of_pool}
use Rattle.uv_find.specs.Ops.{is_beside, spares, of_main}
use Rattle.uv_find.specs.Orders.{Rules, Place}
use Rattle.uv_find.specs.Ranks.{runner}
use Rattle.uv_find.specs.Same.{all_turned, same_task}

-- ---- names of which nothing is said

abbrev pub offer_spares : ℕ → Offer → Bool
offer_spares a (Step (event.Cancel v)) = is_beside a (Some v)
offer_spares a (Step (event.Send v)) = is_beside a (Some v)
offer_spares a (Step (event.Io v)) = is_beside a (Some v)
offer_spares a offer = true

abbrev pub offers_spare : ℕ → List Offered → Bool
offers_spare a offers = list_all (λ (o : Offered). offer_spares a o.offer) offers

abbrev pub bounds_spare : ℕ → List Most → Bool
bounds_spare a most = list_all (λ (m : Most). is_beside a (Some m.name)) most

-- whether the loop is stuck is asked of each move, and those are others once names have changed
abbrev pub question_spares : ℕ → Question → Bool
question_spares a (asks.Call which name call) = is_beside a (Some name)
question_spares a (asks.Code code name) = is_beside a name
question_spares a (asks.Never name) = is_beside a (Some name)
question_spares a (asks.Before name other) = is_beside a (Some name) && is_beside a (Some other)
question_spares a (asks.Behind name other) = is_beside a (Some name) && is_beside a (Some other)
question_spares a (asks.Late name ms) = false
question_spares a asks.Stuck = false
question_spares a question = true

-- this name and the next one are alike: where they change places each callback does what it did, and no offer, bound or question speaks of them
abbrev pub is_mate : Program → Asked → ℕ → Bool
is_mate p asked a =
    all_turned a p (length p.callbacks) && offers_spare a asked.offers && bounds_spare a asked.most && question_spares a asked.question

-- of the first names, whether each is like the next one
abbrev pub mates_of : Program → Asked → ℕ → List Bool
mates_of p asked zero = []
mates_of p asked (suc n) = mates_of p asked n ++ is_mate p asked n ∷ []

-- where nothing is asked but of the pool; and where there are none, nothing is kept
abbrev pub some_mates : Bool → List Bool → List Bool
some_mates of_pool mates = if of_pool && list_any (λ b. b) mates then mates else []

abbrev pub mates_in : Program → Asked → List Bool
mates_in p asked = some_mates (is_of_pool p asked) (mates_of p asked (length p.callbacks - 1))

-- ---- two that are run

abbrev pub has_mate : List Bool → ℕ → Bool
has_mate mates a = unwrap_or (slice_get mates a) false

-- no line that is ahead of the main program names either
abbrev pub main_spares : ℕ → Program → loop.Place → Bool
main_spares a p place = list_all (of_main (spares a)) (drop (line_of place) p.main)

-- no callback of either is under way
abbrev pub body_spares : ℕ → Option Body → Bool
body_spares a None = true
body_spares a (Some body) = is_beside a (Some body.name)

abbrev pub place_spares : ℕ → loop.Place → Bool
place_spares a (Main line) = true
place_spares a (Running run) = body_spares a run.body

abbrev pub same_calls : Calls → Calls → Bool
same_calls x y = (x.handle == y.handle) && (x.after == y.after) && (x.close == y.close)

-- they are of one name and the next one, which are alike, and say the same
abbrev pub are_alike : Rules → State → Option Request → Option Request → Bool
are_alike r s (Some one) (Some two) =
    let a = one.name.0 in
    has_mate r.mates a && (two.name.0 == a + 1) && same_task one.task two.task
    && same_calls (named s one.name).calls (named s two.name).calls && main_spares a r.program s.place
    && place_spares a s.place
are_alike r s _ _ = false

-- what a worker runs
abbrev pub run_of : State → Option ℕ → Option Id
run_of s None = None
run_of s (Some worker) = run_by s worker

abbrev pub request_of : State → Option Id → Option Request
request_of s None = None
request_of s (Some id) = request s id

abbrev pub are_run_alike : Rules → State → Option ℕ → Option ℕ → Bool
are_run_alike r s one two = are_alike r s (request_of s (run_of s one)) (request_of s (run_of s two))

-- the rank of the request that the move of this number finishes, where it isn't the first
abbrev pub later_rank : ℕ → ℕ → Option ℕ
later_rank workers number = if nat_lt 2 number && nat_lt number (workers + 2) then Some (number - 2) else None

-- one like it, of the rank before, is run too
abbrev pub is_covered_by : Rules → Place → Option ℕ → Bool
is_covered_by r p None = false
is_covered_by r p (Some rank) =
    are_at_will (worker_count r.program + 2) p.left && are_run_alike r p.state (runner p.state (rank - 1)) (runner p.state rank)

-- the move of this number finishes a request of which one like it, of the rank before, is run too
abbrev pub is_covered : Rules → Place → ℕ → Bool
is_covered r p number = is_covered_by r p (later_rank (worker_count r.program) number)
