-- How the lines behind `begin` are read, as functions that the code computes. They serve private clauses; that they agree with the grammar is
-- proved.
use Rattle.std.specs.Prelude.{◌≡◌, ℕ, ◌+◌, ◌==◌, ◌&&◌, ◌||◌, Bool, true, false, not, nat_lt, nat_eq, List, length, Option, Some, None, is_none, is_some, Result, Ok, Err, if◌then◌else◌}
use Rattle.std.specs.Option.{option_eq}
use Rattle.std.specs.List.{list_any, list_all}
use Rattle.uv_ids.specs.declared.event.Event.{Event}
use Rattle.uv_ids.specs.declared.event.Event.TheVariants as event
use Rattle.uv_ids.specs.declared.fault.Fault.{Fault}
use Rattle.uv_ids.specs.declared.fault.Fault.TheVariants as fault
use Rattle.uv_script.specs.Lines.{lines_of}
use Rattle.uv_asking.specs.declared.asking.Offer.{Offer}
use Rattle.uv_asking.specs.declared.asking.Offer.TheVariants.{Step, SendDuring, Take, Wait, WaitFor}
use Rattle.uv_asking.specs.declared.asking.Offered.{Offered}
use Rattle.uv_asking.specs.declared.asking.Takes as asking
use Rattle.uv_asking.specs.declared.asking.Most.{Most}
use Rattle.uv_asking.specs.declared.asking.Asking.{Asking}
use Rattle.uv_asking.specs.declared.part.Part.{Part}
use Rattle.uv_asking.specs.declared.part.Part.TheVariants.{Offers, Differ, Recorded, Takes, Clock, Calls, States, Full, Finds, Latest}
use Rattle.uv_asking.specs.declared.part.Said.{Said}
use Rattle.uv_asking.specs.declared.part.Said.TheVariants.{Nothing, One, Bad}
use Rattle.uv_asking.specs.Limits.{MOST_OFFERS}
use Rattle.uv_asking.specs.Tests.{said_of}
use Rattle.uv_asking.specs.Asked.{asked_in}
use Rattle.uv_inquiry.specs.Drafts.{Draft, with_part, unsaid}
use Rattle.uv_inquiry.specs.Grammar.{ReadsAll, IsBadAsking, Asks}

-- whether one step is the other
abbrev pub same_step : Event → Event → Bool
same_step event.Loop event.Loop = true
same_step (event.Take m) (event.Take n) = m == n
same_step (event.Finish m) (event.Finish n) = m == n
same_step (event.Cancel v) (event.Cancel w) = v.0 == w.0
same_step (event.Send v) (event.Send w) = v.0 == w.0
same_step (event.Io v) (event.Io w) = v.0 == w.0
same_step (event.Tick m) (event.Tick n) = m == n
same_step a b = false

-- whether one offer is the other
abbrev pub same_offer : Offer → Offer → Bool
same_offer (Step a) (Step b) = same_step a b
same_offer (SendDuring v i) (SendDuring w j) = (v.0 == w.0) && (i.0 == j.0)
same_offer Take Take = true
same_offer Wait Wait = true
same_offer (WaitFor m) (WaitFor n) = m == n
same_offer a b = false

abbrev pub has_offer : Offer → List Offered → Bool
has_offer o offers = list_any (λ (p : Offered). same_offer p.offer o) offers

-- whether the time of these calls was said
abbrev pub same_calls : asking.Takes → asking.Takes → Bool
same_calls a b = (a.name.0 == b.name.0) && option_eq nat_eq a.call b.call

abbrev pub has_time : asking.Takes → List asking.Takes → Bool
has_time t takes = list_any (λ (u : asking.Takes). same_calls u t) takes

abbrev pub has_bound : ℕ → List Most → Bool
has_bound v most = list_any (λ (m : Most). m.name.0 == v) most

-- whether that is said for the first time, and there is room for it
abbrev pub is_new : Draft → Part → Bool
is_new d (Offers o) = nat_lt (length d.offers) MOST_OFFERS && not (has_offer o.offer d.offers) && (is_none d.differ || same_offer o.offer Wait)
is_new d (Differ k) = is_none d.differ && list_all (λ (p : Offered). same_offer p.offer Wait) d.offers
is_new d (Recorded e) = is_some d.differ
is_new d (Takes t) = not (has_time t d.takes)
is_new d (Clock ms) = is_none d.clock
is_new d (Calls m) = not (has_bound m.name.0 d.most)
is_new d (States n) = is_none d.states
is_new d Full = not d.full
is_new d (Finds q) = is_none d.question
is_new d (Latest v) = is_none d.question

abbrev pub after_said : Draft → Said → Option Draft
after_said d Nothing = Some d
after_said d (One part) = if is_new d part then Some (with_part d part) else None
after_said d Bad = None

-- what was said after one more line
abbrev pub after_line : List (List ℕ) → Draft → List ℕ → Option Draft
after_line names d line = after_said d (said_of names line)

-- what reading a line of this number answers
abbrev pub ReadsLine : List (List ℕ) → Draft → List ℕ → ℕ → Result (Unit {0}) Fault → Draft → Type 0
ReadsLine names d line number (Ok done) e = after_line names d line ≡ Some e
ReadsLine names d line number (Err (fault.Script bad)) e = (bad ≡ number) × (after_line names d line ≡ None)
ReadsLine names d line number (Err fault.Memory) e = Unit {0}
ReadsLine names d line number (Err _) e = ⊥

-- a bad line of the text, where so many stand before the text
pub record IsBadBehind (names : List (List ℕ)) (text : List ℕ) (before line : ℕ) : Type 0 where
  pub number : ℕ
  pub bad : IsBadAsking names text number
  pub counted : line ≡ before + number

-- what reading all lines of the text answers
abbrev pub ReadsLines : List (List ℕ) → List ℕ → ℕ → Result Draft Fault → Type 0
ReadsLines names text before (Ok d) = ReadsAll names unsaid (lines_of text) d
ReadsLines names text before (Err (fault.Script line)) = IsBadBehind names text before line
ReadsLines names text before (Err fault.Memory) = Unit {0}
ReadsLines names text before (Err _) = ⊥

-- and the text itself
abbrev pub ReadsAsking : List (List ℕ) → List ℕ → ℕ → Result Asking Fault → Type 0
ReadsAsking names text before (Ok a) = Asks names text (asked_in a)
ReadsAsking names text before (Err (fault.Script line)) = IsBadBehind names text before line
ReadsAsking names text before (Err fault.Memory) = Unit {0}
ReadsAsking names text before (Err _) = ⊥
