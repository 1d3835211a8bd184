-- Lists of events that may come in this order.
use Rattle.std.specs.Prelude.{◌≡◌, ◌+◌, ℕ, length, true, false, ◌⊎◌, List, [], ◌∷◌, ◌++◌, Some}
use Rattle.uv_ids.specs.declared.event.Event.{Event}
use Rattle.uv_model.specs.Next.{Moves, next}
use Rattle.uv_search.specs.Keys.{Has}
use Rattle.uv_find.specs.Orders.{Rules, Place, Choice, Led, choice_at, taken, is_within}
use Rattle.uv_find.specs.Questions.{answers, place_answers}
use Rattle.uv_find.specs.Spots.{Spot, is_told, place_code}

-- from a place an event leads on: it is offered there, the loop accepts it, and the bounds hold then
pub record LeadsOn (r : Rules) (p : Place) (l : Led) : Type 0 where
  pub number : ℕ
  pub choice : Choice
  pub offered : choice_at r p number ≡ Some choice
  pub event : l.event ≡ choice.event
  pub accepted : next r.program p.state l.event ≡ Moves l.place.state l.line
  pub within : is_within r.most l.place.state ≡ true
  pub taken : l.place ≡ taken r choice l.place.state l.line

-- the event is offered at a place
pub record IsOffered (r : Rules) (p : Place) (e : Event) : Type 0 where
  pub number : ℕ
  pub choice : Choice
  pub offered : choice_at r p number ≡ Some choice
  pub event : choice.event ≡ e

-- these events, one after another, lead from one place to another
abbrev pub Course : Rules → Place → List Event → Place → Type 0
Course r p [] q = q ≡ p
Course r p (e ∷ es) q = (l : Led) × (l.event ≡ e) × LeadsOn r p l × Course r l.place es q

-- the same, where each place from which one of them leads on has its key among these
abbrev pub KeptCourse : Rules → List (List ℕ) → Place → List Event → Place → Type 0
KeptCourse r keys p [] q = q ≡ p
KeptCourse r keys p (e ∷ es) q = Has keys (place_code r p) × ((l : Led) × (l.event ≡ e) × LeadsOn r p l × KeptCourse r keys l.place es q)

-- behind these events this one leads on, and answers the question
pub record Answers (r : Rules) (p : Place) (es : List Event) (l : Led) : Type 0 where
  pub place : Place
  pub course : Course r p es place
  pub leads : LeadsOn r place l
  pub answers : answers r place l ≡ true

-- the place doesn't answer the question, and behind no events is one that does: however many they are, or where a search forgets, with those
-- before them as many at most as is told
abbrev pub NeverAnswered : Rules → Spot → Type 0
NeverAnswered r s =
    (place_answers r s.place r.question ≡ false)
    × ((es : List Event) (l : Led) → is_told r (length s.steps + length es + 1) ≡ true → Answers r s.place es l → ⊥)

-- the last of these events answers the question, and leads here
abbrev pub LastAnswers : Rules → Place → List Event → Place → Type 0
LastAnswers r p es q = (before : List Event) × (l : Led) × (es ≡ before ++ l.event ∷ []) × Answers r p before l × (q ≡ l.place)

-- the last of these events answers the question, and each place from which one of them leads on has its key among these
pub record AnswersBy (r : Rules) (p : Place) (keys : List (List ℕ)) : Type 0 where
  pub events : List Event
  pub place : Place
  pub course : KeptCourse r keys p events place
  pub kept : Has keys (place_code r place)
  pub led : Led
  pub leads : LeadsOn r place led
  pub answers : answers r place led ≡ true

-- no event is wanted, since the place answers the question
abbrev pub AnswersAlready : Rules → Place → List Event → Place → Type 0
AnswersAlready r p es q = (es ≡ []) × (q ≡ p) × (place_answers r p r.question ≡ true)

-- these events answer the question
abbrev pub IsAnswer : Rules → Place → List Event → Place → Type 0
IsAnswer r p es q = LastAnswers r p es q ⊎ AnswersAlready r p es q
