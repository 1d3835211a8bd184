-- What a search goes through: places, each with the steps that led there, what is told of it, and its key.
use Rattle.std.specs.Prelude.{◌≡◌, ℕ, suc, ◌+◌, ◌-◌, ◌≤◌, ◌<◌, ◌==◌, ◌&&◌, ◌||◌, not, nat_lt, if◌then◌else◌, take, Bool, true, false, is_some, slice_get, List, [], ◌∷◌, ◌++◌, length, reverse, slice_set, Option, Some, None}
use Rattle.uv_ids.specs.declared.event.Event.{Event}
use Rattle.uv_ids.specs.declared.event.Event.TheVariants.{Loop, Finish}
use Rattle.uv_key.specs.Codes.{number_code}
use Rattle.uv_model.specs.After.{after, STEPS}
use Rattle.uv_shift.specs.Shift.{IsShort}
use Rattle.uv_names.specs.Counts.{AreBefore}
use Rattle.uv_slots.specs.Tidy.{AreDeclared}
use Rattle.uv_state_key.specs.TaleKey.{key_code}
use Rattle.uv_state_key.specs.Formed.{Formed, formed}
use Rattle.uv_find.specs.Forgetting.{LONG, LONGEST, are_common, most_end, takes_end, question_end, forget_of}
use Rattle.uv_asking.specs.declared.asking.Offer.TheVariants.{Step, Take}
use Rattle.uv_asking.specs.declared.asking.Offered.{Offered}
use Rattle.uv_find.specs.Holding.{can_meet, asks_late, is_empty, hold_of, is_loop_apart, is_at_will, are_at_will, is_clear_of_takes, is_no_cancel, may_take_at_once, loop_number}
use Rattle.uv_find.specs.Ops.{each_op}
use Rattle.uv_find.specs.Same.{all_turned}
use Rattle.uv_find.specs.Mates.{offers_spare, bounds_spare, question_spares, mates_in, has_mate, is_covered}
use Rattle.uv_find.specs.Kept.{owes}
use Rattle.uv_find.specs.Orders.{at_will, first_offer, may_wait, Rules, Place, Led, led, is_brief, every_offer, beginning}
use Rattle.uv_find.specs.Questions.{answers}
use Rattle.uv_find.specs.declared.kept.Along.{Along}
use Rattle.uv_find.specs.declared.kept.Kept.{Kept}
use Rattle.uv_find.specs.declared.left.Left.{Left}
use Rattle.uv_find.specs.declared.left.Left.TheVariants as left
use Rattle.uv_find.specs.declared.terms.Terms.{Terms}
use Rattle.uv_find.specs.declared.orders.Made.{Made}
use Rattle.uv_find.specs.declared.orders.Was.{Was}
use Rattle.uv_find.specs.declared.orders.Was.TheVariants as was
use Rattle.uv_asking.specs.Asked.{Asked}
use Rattle.uv_asking.specs.declared.asking.Question.{Question}
use Rattle.uv_asking.specs.declared.asking.Question.TheVariants as asks
use Rattle.uv_script.specs.Program.{Program, arena_size, worker_count}
use Rattle.uv_session.specs.Shown.{Shown}

-- where a search forgets, a slot's generations don't run out within the steps of an order
abbrev pub is_few : Option ℕ → ℕ → Bool
is_few (Some n) steps = nat_lt steps LONGEST
is_few None steps = true

-- no more of a state need be known than is told of it, with calls counted so far
pub record CanForget (r : Rules) (n : ℕ) : Type 0 where
  -- no number of a call that the script, a bound or the question says is as large, and whether there was one is told
  pub before : AreBefore n r.program
  pub most : most_end r.most ≤ n
  pub takes : takes_end r.takes ≤ n
  pub question : question_end r.question ≤ n
  pub some : 1 ≤ n
  -- no time of the script is long, and no slot's generations run out
  pub short : IsShort LONG r.program
  pub lasts : LONGEST < (arena_size r.program).last_generation
  -- each op names a declared name
  pub declares : AreDeclared r.program
  -- nothing names the clock, a place in a recording, the request that a worker runs, or a worker
  pub clock : r.clock ≡ None
  pub differ : r.differ ≡ None
  pub aside : are_common r.offers ≡ true

-- moves may be held back behind the loop's step
pub record CanHold (r : Rules) (ticks : Bool) : Type 0 where
  pub loop : slice_get r.offers (loop_number r.at_once) ≡ Some (at_will (Step Loop))
  pub others : (i : ℕ) (offered : Offered) → (i ≡ loop_number r.at_once → ⊥) → slice_get r.offers i ≡ Some offered
      → can_meet ticks offered.offer ≡ true
  pub differ : r.differ ≡ None
  pub takes : r.takes ≡ []
  pub question : asks_late r.question ≡ false

-- what workers run may be finished by ranks: beside the loop's step, a take and the finishes only times, sends and callbacks of I/O are offered, and
-- workers are alike
pub record AreOfPool (r : Rules) : Type 0 where
  pub counted : ℕ
  pub forgets : r.forget ≡ Some counted
  pub first : slice_get r.offers 0 ≡ Some (at_will (first_offer r.at_once))
  pub second : slice_get r.offers 1 ≡ Some (at_will (first_offer (not r.at_once)))
  pub finishes : (k : ℕ) → k < worker_count r.program → slice_get r.offers (suc (suc k)) ≡ Some (at_will (Step (Finish k)))
  pub others : (i : ℕ) (offered : Offered) → worker_count r.program + 2 ≤ i → slice_get r.offers i ≡ Some offered
      → is_clear_of_takes offered.offer ≡ true
  pub takes : r.takes ≡ []

-- moves may be held back behind a take, the first offer: so it is, and no line cancels
pub record CanTakeAtOnce (r : Rules) : Type 0 where
  pub of_pool : AreOfPool r
  pub take : slice_get r.offers 0 ≡ Some (at_will Take)
  pub loop : slice_get r.offers 1 ≡ Some (at_will (Step Loop))
  pub cancels : each_op is_no_cancel r.program ≡ true
  pub question : asks_late r.question ≡ false

-- this name and the next one are alike
pub record AreMates (r : Rules) (a : ℕ) : Type 0 where
  pub of_pool : AreOfPool r
  pub within : a + 1 < length r.program.callbacks
  pub turned : all_turned a r.program (length r.program.callbacks) ≡ true
  pub offers : offers_spare a r.offers ≡ true
  pub bounds : bounds_spare a r.most ≡ true
  pub question : question_spares a r.question ≡ true

-- where moves are held back, they may be
pub record MayHold (r : Rules) : Type 0 where
  pub behind_loop : (ticks : Bool) → r.hold ≡ Some ticks → CanHold r ticks
  pub behind_take : r.at_once ≡ true → CanTakeAtOnce r
  pub alike : (a : ℕ) → has_mate r.mates a ≡ true → AreMates r a

pub record Spot : Type 0 where
  pub place : Place
  pub steps : List Event

-- the spot after an event, and whether it answers the question
abbrev pub spot_of : Rules → Spot → Option Led → Option (Spot × Bool)
spot_of r s None = None
spot_of r s (Some l) =
    if is_few r.forget (length s.steps + 1) then Some (record { place = l.place; steps = s.steps ++ l.event ∷ [] }, answers r s.place l) else None

abbrev pub next_spot : Rules → Spot → ℕ → Option (Spot × Bool)
next_spot r s number = spot_of r s (led r s.place number)

-- what is left of each offer or source: how many they are, and a number for each, with that of an event behind it
abbrev pub kind_code : Left → ℕ
kind_code left.AtWill = 0
kind_code left.Over = 1
kind_code (left.Ahead number) = 2
kind_code (left.Held number) = 3
kind_code (left.Times n) = n + 4

abbrev pub event_code : Left → List ℕ
event_code (left.Ahead number) = number_code number
event_code (left.Held number) = number_code number
event_code x = []

abbrev pub each_code : List Left → List ℕ
each_code [] = []
each_code (x ∷ xs) = (number_code (kind_code x) ++ event_code x) ++ each_code xs

abbrev pub left_code : List Left → List ℕ
left_code xs = number_code (length xs) ++ each_code xs

abbrev pub along_code : Along → List ℕ
along_code a = number_code a.next ++ (number_code a.polls ++ (number_code a.steps ++ number_code a.spare))

-- how long ago it was due, and how long it isn't yet: where a search forgets, and asks of a timer. Else the due time itself
abbrev pub told_due : Option ℕ → Question → ℕ → ℕ → ℕ × ℕ
told_due (Some n) (asks.Late name ms) clock due = (clock - due, due - clock)
told_due forget question clock due = (due, 0)

-- what tells a place from others: what decides what comes after
pub record Told : Type 0 where
  pub state : Formed
  pub left : List Left
  pub due : ℕ × ℕ
  pub owed : ℕ
  pub along : Along

abbrev pub told : Rules → Place → Told
told r p = record {
  state = formed r.forget p.state;
  left = p.left;
  due = told_due r.forget r.question p.state.clock p.kept.due;
  owed = p.kept.owed;
  along = p.kept.along;
}

abbrev pub kept_code : ℕ × ℕ → ℕ → Along → List ℕ
kept_code due owed along = number_code due.0 ++ (number_code due.1 ++ (number_code owed ++ along_code along))

-- the key of a place
abbrev pub place_code : Rules → Place → List ℕ
place_code r p =
    key_code r.forget p.state ++ left_code p.left
    ++ kept_code (told_due r.forget r.question p.state.clock p.kept.due) p.kept.owed p.kept.along

abbrev pub spot_code : Rules → Spot → List ℕ
spot_code r s = place_code r s.place

-- no long time goes by at once
abbrev pub AreBrief : Option ℕ → List Event → Type 0
AreBrief forget [] = Unit {0}
AreBrief forget (e ∷ es) = (is_brief forget e ≡ true) × AreBrief forget es

-- where a search forgets, it may
abbrev pub MayForget : Rules → Type 0
MayForget r = (n : ℕ) → r.forget ≡ Some n → CanForget r n

-- the loop's step, the move of this number, is apart from each other one
abbrev pub apart_by : Option Bool → Program → ℕ → Place → Bool
apart_by None p number q = false
apart_by (Some ticks) p number q = is_loop_apart p ticks q.state && (is_at_will (slice_get q.left number) && not (owes q.kept))

abbrev pub is_loop_first : Rules → Place → Bool
is_loop_first r q = apart_by r.hold r.program (loop_number r.at_once) q

-- a take is, which the first move is where it comes at once
abbrev pub is_take_first : Rules → Place → Bool
is_take_first r q = r.at_once && (are_at_will (worker_count r.program + 2) q.left && not (owes q.kept))

-- the move of this number is
abbrev pub is_apart : Rules → Place → ℕ → Bool
is_apart r p number = if number == loop_number r.at_once then is_loop_first r p else ((number == 0) && is_take_first r p)

abbrev pub covered : Rules → Spot → ℕ → Bool
covered r s number = is_covered r s.place number

abbrev pub apart : Rules → Spot → ℕ → Bool
apart r s number = is_apart r s.place number

-- moves may be held back, behind the loop's step or behind a take, and the finish of one of two requests that are alike
abbrev pub holds_back : Rules → Bool
holds_back r = is_some r.hold || (r.at_once || not (is_empty r.mates))

-- so many steps an order has at most of which it is told what it does: where a search forgets, fewer than a slot has generations, and less
-- those that a session may have taken where moves are held back
abbrev pub is_told : Rules → ℕ → Bool
is_told r steps = is_few r.forget (if holds_back r then steps + STEPS + 1 else steps)

-- the steps led to the state
pub record IsSpot (r : Rules) (s : Spot) : Type 0 where
  pub state : s.place.state ≡ after r.program s.steps
  pub forgets : MayForget r
  pub brief : AreBrief r.forget s.steps
  pub few : is_few r.forget (length s.steps) ≡ true

-- so many more steps may follow, where a search forgets
pub record HasRoom (r : Rules) (n : ℕ) (s : Spot) : Type 0 where
  pub spot : IsSpot r s
  pub holds : MayHold r
  pub few : is_few r.forget (length s.steps + n) ≡ true

-- behind a place that a session holds so many steps may follow
abbrev pub IsTold : Rules → ℕ → Type 0
IsTold r n = is_few r.forget (STEPS + n) ≡ true

-- a session holds the steps
pub record IsStanding (r : Rules) (s : Spot) : Type 0 where
  pub spot : IsSpot r s
  pub holds : MayHold r
  pub room : length s.steps ≤ STEPS

-- what was left before a move, where this is left behind it
abbrev pub left_before : Was → List Left → List Left
left_before (was.One number x) xs = slice_set xs number x
left_before (was.All ys) xs = ys.items

-- where one can go back to, from so many steps and from what is left, by what stood before each that was taken, the last one first
abbrev pub spots_before : Program → List Event → List Left → List Made → List Spot
spots_before p es xs [] = []
spots_before p es xs (m ∷ ms) =
    let fs = take (length es - 1) es in
    let ys = left_before m.was xs in
    record { place = record { state = after p fs; left = ys; kept = m.kept }; steps = fs } ∷ spots_before p fs ys ms

-- what is searched: where it stands, and where it can go back to
pub record Searched : Type 0 where
  pub rules : Rules
  pub spot : Spot
  pub before : List Spot

-- what is searched for what is asked of a script
abbrev pub rules_of : Program → Asked → Rules
rules_of p asked = record {
  program = p;
  offers = every_offer (may_take_at_once p asked) (worker_count p) asked.offers;
  differ = asked.differ;
  recorded = asked.recorded;
  waits = may_wait asked.offers;
  takes = asked.takes;
  clock = asked.clock;
  most = asked.most;
  question = asked.question;
  forget = forget_of p asked;
  hold = hold_of asked;
  at_once = may_take_at_once p asked;
  mates = mates_in p asked;
}

abbrev pub first_spot : Rules → Spot
first_spot r = record { place = beginning r; steps = [] }

-- the rules that a script and these terms make
abbrev pub rules_by : Program → Terms → Rules
rules_by p t = record {
  program = p;
  offers = t.offers.items;
  differ = t.differ;
  recorded = t.recorded.items;
  waits = t.waits;
  takes = t.takes.items;
  clock = t.clock;
  most = t.most.items;
  question = t.question;
  forget = t.forget;
  hold = t.hold;
  at_once = t.at_once;
  mates = t.mates.items;
}

-- where a session stands
abbrev pub place_by : Shown → List Left → Kept → Place
place_by s xs kept = record { state = after s.program s.standing; left = xs; kept = kept }

-- what the fields of a search stand for
abbrev pub searched : Shown → Terms → List Left → Kept → List Made → Searched
searched s terms xs kept made = record {
  rules = rules_by s.program terms;
  spot = record { place = place_by s xs kept; steps = s.standing };
  before = spots_before s.program s.standing xs (reverse made);
}

-- what the fields of a search keep: as many steps stand as choices were taken, a step back wants no memory
pub record IsSearched (BackWantsMemory : Type 0) (s : Shown) (terms : Terms) (made : List Made) : Type 0 where
  pub limit : s.limit ≡ STEPS
  pub taken : length made ≡ length s.standing
  pub back : BackWantsMemory → ⊥
  pub forgets : MayForget (rules_by s.program terms)
  pub holds : MayHold (rules_by s.program terms)
  pub brief : AreBrief terms.forget s.standing
  pub room : length s.standing ≤ STEPS

-- a step more may be taken, and one behind it that is only tried
abbrev pub IsDeep : Spot → Type 0
IsDeep s = STEPS ≤ length s.steps + 1
