-- One step of a session, within bounds.
use Rattle.std.specs.Prelude.{◌≡◌, ℕ, List, [], ◌∷◌, ◌++◌, Bool, true, false, if◌then◌else◌, Option, Some, None, is_none, not, Result, Ok, Err}
use Rattle.uv_ids.specs.declared.event.Event.{Event}
use Rattle.uv_ids.specs.declared.event.Event.TheVariants as event
use Rattle.uv_ids.specs.declared.seen.Seen.{Seen}
use Rattle.uv_model.specs.declared.machine.Outcome.{Outcome}
use Rattle.uv_model.specs.After.{after}
use Rattle.uv_model.specs.Next.{next}
use Rattle.uv_model.specs.Queries.{run_by}
use Rattle.uv_model.specs.State.{State}
use Rattle.uv_session.specs.Shown.{Shown}
use Rattle.uv_asking.specs.declared.asking.Most.{Most}
use Rattle.uv_asking.specs.declared.asking.Offer.{Offer}
use Rattle.uv_asking.specs.declared.asking.Offer.TheVariants.{Step, Wait, WaitFor}
use Rattle.uv_asking.specs.declared.asking.Offered.{Offered}
use Rattle.uv_find.specs.declared.kept.Kept.{Kept}
use Rattle.uv_find.specs.declared.left.Left.{Left}
use Rattle.uv_find.specs.declared.choices.Choice as choices
use Rattle.uv_find.specs.declared.choices.Moved as moved
use Rattle.uv_find.specs.declared.choices.Taken as taken
use Rattle.uv_find.specs.declared.recorded.Passed as recorded
use Rattle.uv_find.specs.declared.terms.Terms.{Terms}
use Rattle.uv_find.specs.Orders.{Place, Choice, Led, led, reached, choice_at, lessened, may_take, deadline_at, may_last}
use Rattle.uv_find.specs.Ranks.{runner}
use Rattle.uv_find.specs.Spots.{Searched, rules_by, place_by}

-- a session of the same script, with these steps
pub record Stands (s : Shown) (steps : List Event) (t : Shown) : Type 0 where
  pub program : t.program ≡ s.program
  pub limit : t.limit ≡ s.limit
  pub standing : t.standing ≡ steps

-- the state after the standing steps
abbrev pub state_in : Shown → State
state_in s = after s.program s.standing

-- what may be answered to a step within bounds, and the session then
abbrev pub StepsWithin : {E : Type 0} → List Most → Shown → Event → Result (Option Outcome) E → Shown → Type 0
StepsWithin most s e (Ok (Some outcome)) t =
    Stands s (s.standing ++ e ∷ []) t × (reached most (next s.program (state_in s) e) ≡ Some (state_in t, outcome.seen))
StepsWithin most s e (Ok None) t = Stands s s.standing t × (reached most (next s.program (state_in s) e) ≡ None)
StepsWithin most s e (Err fault) t = Stands s s.standing t

-- what a choice in the program stands for
abbrev pub choice_of : choices.Choice → Choice
choice_of c = record { event = c.event; left = c.left.items; kept = c.kept }

-- what is left past recorded events in the program
abbrev pub passed_of : recorded.Passed → List Left × ℕ
passed_of t = (t.left.items, t.spare)

-- a worker of this number, or of this rank where a search forgets, runs nothing
abbrev pub runs_none : Option ℕ → State → ℕ → Bool
runs_none None s worker = is_none (run_by s worker)
runs_none (Some n) s rank = is_none (runner s rank)

-- no event that is offered leads on: a worker would finish that runs nothing, there is no deadline to wait for, or no poll that may last so long
abbrev pub has_none : Option ℕ → State → Offer → Bool
has_none forget s (Step (event.Finish number)) = runs_none forget s number
has_none forget s Wait = is_none (deadline_at s.place)
has_none forget s (WaitFor ms) = not (may_last s ms)
has_none forget s offer = false

-- an offer is spent, or has no event that leads on
abbrev pub is_idle : Option ℕ → State → Option Offered → Option Left → Bool
is_idle forget s (Some offered) (Some x) = if may_take x then has_none forget s offered.offer else true
is_idle forget s _ _ = true

-- an offer is taken in this event
abbrev pub offer_taken : Place → ℕ → Event → Choice
offer_taken p number e = record { event = e; left = lessened p.left number; kept = p.kept }

-- the move of this number was made: it is this choice, whose step appended this line, and the session then
abbrev pub Makes : Terms → Shown → List Left → Kept → ℕ → Choice → Option Seen → Shown → Type 0
Makes terms s left kept number c line t =
    let r = rules_by s.program terms in
    Stands s (s.standing ++ c.event ∷ []) t × (choice_at r (place_by s left kept) number ≡ Some c)
    × (reached r.most (next s.program (state_in s) c.event) ≡ Some (state_in t, line))

-- the move of this number leads nowhere, and the session stays
abbrev pub MakesNone : Terms → Shown → List Left → Kept → ℕ → Shown → Type 0
MakesNone terms s left kept number t = Stands s s.standing t × (led (rules_by s.program terms) (place_by s left kept) number ≡ None)

-- what may be answered where a move is to be made, and the session then
abbrev pub MakesMove : {E : Type 0} → Terms → Shown → List Left → Kept → ℕ → Result (Option moved.Moved) E → Shown → Type 0
MakesMove terms s left kept number (Ok (Some m)) t = Makes terms s left kept number (choice_of m.choice) m.outcome.seen t
MakesMove terms s left kept number (Ok None) t = MakesNone terms s left kept number t
MakesMove terms s left kept number (Err fault) t = Stands s s.standing t

-- what may be answered where an offer is to be taken, and the session then
abbrev pub TakesOffer : {E : Type 0} → Terms → Shown → List Left → Kept → ℕ → Result (Option taken.Taken) E → Shown → Type 0
TakesOffer terms s left kept number (Ok (Some m)) t =
    Makes terms s left kept number (offer_taken (place_by s left kept) number m.event) m.outcome.seen t
TakesOffer terms s left kept number (Ok None) t = MakesNone terms s left kept number t
TakesOffer terms s left kept number (Err fault) t = Stands s s.standing t

-- what may be answered where a move is to be made, and the search then
abbrev pub Takes : {E : Type 0} → Searched → ℕ → Result (Option Outcome) E → Searched → Type 0
Takes s number (Ok (Some outcome)) t =
    (l : Led) × ((led s.rules s.spot.place number ≡ Some l) × (l.line ≡ outcome.seen) × (t.rules ≡ s.rules)
    × (t.spot ≡ record { place = l.place; steps = s.spot.steps ++ l.event ∷ [] }) × (t.before ≡ s.spot ∷ s.before))
Takes s number (Ok None) t = (led s.rules s.spot.place number ≡ None) × (t ≡ s)
Takes s number (Err fault) t = t ≡ s
