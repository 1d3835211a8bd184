-- What a search of orders finds.
use Rattle.std.specs.Prelude.{◌≡◌, true, Some, None, ℕ, ◌+◌, ◌<◌, ◌≤◌, Option, List, ◌++◌, length, nat_eq, false, ◌⊎◌}
use Rattle.std.specs.List.{IsDistinct}
use Rattle.std.specs.Cmp.Lexicographic.{pointwise}
use Rattle.uv_ids.specs.declared.event.Event.{Event}
use Rattle.uv_ids.specs.declared.event.Event.TheVariants.{Finish}
use Rattle.uv_ids.specs.declared.id.Id.{Id}
use Rattle.uv_ids.specs.declared.id.Var.{Var}
use Rattle.uv_script.specs.Program.{Program, arena_size}
use Rattle.uv_model.specs.After.{after, STEPS}
use Rattle.uv_model.specs.Queries.{run_by}
use Rattle.uv_shift.specs.Shift.{IsShort}
use Rattle.uv_slots.specs.Tidy.{AreDeclared}
use Rattle.uv_tale.specs.Alike.{IsRegular}
use Rattle.uv_search.specs.Keys.{Has}
use Rattle.uv_find.specs.declared.finding.Answer.{Answer}
use Rattle.uv_find.specs.declared.finding.Answer.TheVariants as answer
use Rattle.uv_find.specs.declared.latest.Rung.{Rung}
use Rattle.uv_find.specs.declared.latest.Rung.TheVariants as rung
use Rattle.uv_asking.specs.Asked.{Asked}
use Rattle.uv_find.specs.Forgetting.{LONG, LONGEST}
use Rattle.uv_find.specs.Orders.{Rules, Place, Led, asked_late, led, beginning}
use Rattle.uv_find.specs.Mates.{is_covered}
use Rattle.uv_find.specs.Questions.{place_answers}
use Rattle.uv_find.specs.Courses.{Course, LeadsOn, AnswersBy, NeverAnswered, IsAnswer, IsOffered}
use Rattle.uv_find.specs.Spots.{Spot, told, place_code, is_few, is_apart, holds_back, MayForget, IsDeep, rules_of}

-- these are the keys of places that events lead to, so many, no two of them the same
pub record AreReached (r : Rules) (p : Place) (number : ℕ) (keys : List (List ℕ)) : Type 0 where
  pub count : length keys ≡ number
  pub distinct : IsDistinct (pointwise nat_eq) keys
  pub each : (k : List ℕ) → Has keys k → (es : List Event) × (q : Place) × Course r p es q × (place_code r q ≡ k)

-- each event that leads on from here leads to a place that has one of these keys, except where it finishes a request of which one like it, of
-- the rank before, is run too
abbrev pub AllLead : Rules → List (List ℕ) → Place → Type 0
AllLead r keys p = (l : Led) (on : LeadsOn r p l) → is_covered r p on.number ≡ false → Has keys (place_code r l.place)

-- one that is apart from all others does: the others are held back
abbrev pub OneLeads : Rules → List (List ℕ) → Place → Type 0
OneLeads r keys p = (number : ℕ) × (l : Led) × (is_apart r p number ≡ true) × (led r p number ≡ Some l) × Has keys (place_code r l.place)

-- these are the keys of the place and of those that were tried from there: each is of a place that events lead to, from which all that leads on
-- leads to places that have one, or one event that holds back the others. Where a search forgets, of events that are fewer than a slot's
-- generations
pub record AreClosed (r : Rules) (s : Spot) (keys : List (List ℕ)) : Type 0 where
  pub begins : Has keys (place_code r s.place)
  pub each : (k : List ℕ) → Has keys k → (es : List Event) × (q : Place) × Course r s.place es q × (place_code r q ≡ k)
      × (is_few r.forget (length s.steps + length es + 1) ≡ true → AllLead r keys q ⊎ OneLeads r keys q)

-- no events, however many, answer the question, and the places that they lead to are told apart by so many keys; where a search forgets, of
-- events that are fewer than a slot's generations. Where moves are held back, so many places were kept of those that events lead to: all that
-- were tried
pub record IsNever (r : Rules) (s : Spot) (number : ℕ) : Type 0 where
  pub never : NeverAnswered r s
  pub keys : List (List ℕ)
  pub are : AreReached r s.place number keys
  pub closed : AreClosed r s keys
  pub all : holds_back r ≡ false → (es : List Event) (q : Place) → is_few r.forget (length s.steps + length es) ≡ true → Course r s.place es q
      → Has keys (place_code r q)

-- events lead to more places than so many
pub record IsMore (r : Rules) (p : Place) (number : ℕ) : Type 0 where
  pub keys : List (List ℕ)
  pub are : AreReached r p number keys
  pub more : (es : List Event) × (q : Place) × Course r p es q × (Has keys (place_code r q) → ⊥)

-- events lead to where no more of them may be taken: a session holds these, and one more
abbrev pub IsDeepest : Rules → Place → Type 0
IsDeepest r p = (es : List Event) × (q : Place) × Course r p es q × (STEPS ≤ length es + 1)

-- what is found from here, with so many places kept at most, and where the search stands then
abbrev pub Finds : Rules → Spot → ℕ → Answer → Spot → Type 0
Finds r s limit (answer.Found number) t =
    (number ≤ limit) × ((es : List Event) × ((t.steps ≡ s.steps ++ es) × IsAnswer r s.place es t.place))
    × ((keys : List (List ℕ)) × AreReached r s.place number keys × (AnswersBy r s.place keys ⊎ (place_answers r s.place r.question ≡ true)))
Finds r s limit (answer.Never number) t = (number ≤ limit) × IsNever r s number
Finds r s limit answer.Unsettled t = IsMore r s.place limit
Finds r s limit (answer.OutOfMemory number) t = (number ≤ limit) × ((keys : List (List ℕ)) × AreReached r s.place number keys)
Finds r s limit answer.TooDeep t = (u : Spot) × (es : List Event) × (u.steps ≡ s.steps ++ es) × Course r s.place es u.place × IsDeep u

-- what a look tells of how late the timer is called that the rules ask about: it is so, or never, or that isn't settled
abbrev pub Looks : Rules → Spot → ℕ → Rung → Type 0
Looks r s limit (rung.Late ms) = Unit {0}
Looks r s limit (rung.Never number) = (number ≤ limit) × IsNever r s number
Looks r s limit rung.Unsettled = Unit {0}

-- it stands where it stood, where it goes on from there
abbrev pub GoesBack : Rung → Spot → Spot → Type 0
GoesBack (rung.Late ms) s t = t ≡ s
GoesBack (rung.Never number) s t = t ≡ s
GoesBack rung.Unsettled s t = Unit {0}

-- from so many ms on the timer is called in no order, however many events it has, where that is settled
abbrev pub RisesTo : Rules → Spot → Var → ℕ → ℕ → Option ℕ → Type 0
RisesTo r s name limit ms None = Unit {0}
RisesTo r s name limit ms (Some number) = (number ≤ limit) × IsNever (asked_late r name ms) s number

-- of the places that events lead to, the key tells all that decides what comes after
abbrev pub KeysTell : Type 0
KeysTell = (r : Rules) (es fs : List Event) (p q : Place) → MayForget r → is_few r.forget (length es) ≡ true → is_few r.forget (length fs) ≡ true
    → Course r (beginning r) es p → Course r (beginning r) fs q → place_code r p ≡ place_code r q → told r p ≡ told r q

-- where a script's ops name declared names, its times are short, and no slot's generations run out, the state that so many events lead to is
-- regular: so what is said of regular states holds of each that a search may forget
abbrev pub AreRegular : Type 0
AreRegular = (p : Program) (es : List Event) → AreDeclared p → IsShort LONG p → LONGEST < (arena_size p).last_generation → length es ≤ LONGEST
    → IsRegular p (after p es)

-- wherever events lead, each worker that runs a request may finish it, whichever of the workers it is
abbrev pub EachFinishes : Type 0
EachFinishes = (p : Program) (asked : Asked) (es : List Event) (q : Place) (worker : ℕ) (id : Id) → asked.differ ≡ None
    → Course (rules_of p asked) (beginning (rules_of p asked)) es q → run_by q.state worker ≡ Some id → IsOffered (rules_of p asked) q (Finish worker)
