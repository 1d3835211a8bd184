-- What a search reads of a state is read off its tale.
use Rattle.uv_find.proofs.Names.{◌≡◌, ℕ, ◌+◌, ◌-◌, ◌≤◌, Bool, true, false, List, [], ◌∷◌, Option, Some, None, is_some, slice_get, refl, ap, ◌∙◌, arith, if◌then◌else◌, min, map, option_map, unwrap_or, slice_get-map, Id, Var, Callback, Named, Slot, is_timer, count_of, unbound, held, Program, Content, Stage, State, named, retimed_content, retimed_stage, retimed_place, By, later, shift, capped_place, count_capped, Bound, Nothing, Gone, Told, Tale, Reads, Takes, takes_end, has_ended, is_over, is_in_timers, said_time, time_taken, or_time, is_quiet, is_closing, closes, deadline_at, is_in_poll, is_poll_stage}
use Rattle.uv_work.specs.declared.content.Content.TheVariants as content
use Rattle.uv_model.specs.declared.place.Place.{Place}
use Rattle.uv_shift.proofs.Slots.{held_shift}
use Rattle.uv_tale.specs.Tale.{Holds}
use Rattle.uv_tale.proofs.Told.{name_now}

-- ---- names

-- what is told of a name that isn't declared
abbrev none_told : Told
none_told = record { bound = Nothing; calls = unbound.calls }

abbrev told_of : Tale → Var → Told
told_of t v = unwrap_or (slice_get t.names v.0) none_told

name_told : (n : ℕ) (slots : List (Slot Content)) (names : List Named) (v : Var) →
    unwrap_or (slice_get (map (name_now n slots) names) v.0) none_told ≡ name_now n slots (unwrap_or (slice_get names v.0) unbound)
name_told n slots names v = grind (arith, slice_get-map)

-- what is read of what is told of a name
reads_name : {X : Type 0} (R : State → X) (f : Told → X) (n : ℕ) (v : Var) → ((s : State) → f (name_now n s.arena.slots (named s v)) ≡ R s) →
    ((d : By) (s : State) → R (shift d s) ≡ R s) → Reads n R
reads_name R f n v now shifts = record {
  told = λ t. f (told_of t v);
  now = λ s. ap f (name_told n s.arena.slots s.names v) ∙ now s;
  shifts = shifts;
}

abbrev pub is_bound : Var → State → Bool
is_bound v s = is_some (named s v).id

abbrev bound_in : Bound → Bool
bound_in Nothing = false
bound_in Gone = true
bound_in (Holds x) = true

pub reads_bound : (n : ℕ) (v : Var) → Reads n (is_bound v)
reads_bound n v = reads_name (is_bound v) (λ t. bound_in t.bound) n v (λ s. now s (named s v)) (λ d s. refl) where
  now : (s : State) (x : Named) → bound_in (name_now n s.arena.slots x).bound ≡ is_some x.id
  now s x = grind arith

abbrev pub is_shut : Var → State → Bool
is_shut v s = closes s (named s v).id

abbrev shut_in : Bound → Bool
shut_in Nothing = false
shut_in Gone = is_closing None
shut_in (Holds x) = is_closing (Some x)

pub reads_shut : (n : ℕ) (v : Var) → Reads n (is_shut v)
reads_shut n v = reads_name (is_shut v) (λ t. shut_in t.bound) n v (λ s. now s (named s v)) (λ d s. shifts d s (named s v).id) where
  now : (s : State) (x : Named) → shut_in (name_now n s.arena.slots x).bound ≡ closes s x.id
  now s x = grind arith

  closing : (d : By) (o : Option Content) → is_closing (option_map (retimed_content (later d)) o) ≡ is_closing o
  closing d o = grind arith

  shifts : (d : By) (s : State) (o : Option Id) → closes (shift d s) o ≡ closes s o
  shifts d s None = refl
  shifts d s (Some id) = ap is_closing (held_shift d s.arena.slots id) ∙ closing d (held s.arena.slots id)

-- ---- counts

abbrev pub count : Callback → Var → State → ℕ
count kind v s = count_of kind (named s v).calls

-- by a function that tells no numbers from n on
pub reads_count : {X : Type 0} (f : ℕ → X) (n : ℕ) → ((c : ℕ) → f (min c n) ≡ f c) → (kind : Callback) (v : Var) → Reads n (λ s. f (count kind v s))
reads_count f n same kind v = reads_name (λ s. f (count kind v s)) (λ t. f (count_of kind t.calls)) n v
    (λ s. ap f (count_capped n kind (named s v).calls) ∙ same (count kind v s)) (λ d s. refl)

said_time_capped : (takes : List Takes) (v : Var) (n : ℕ) → takes_end takes ≤ n → (c : ℕ) →
    said_time takes v (Some (min c n)) ≡ said_time takes v (Some c)
said_time_capped [] v n below c = refl
said_time_capped (t ∷ ts) v n below c = grind (arith, (said_time_capped ts v n (omega (arith, below)) c))

pub taken_capped : (takes : List Takes) (v : Var) (n : ℕ) → takes_end takes ≤ n → (c : ℕ) → time_taken takes v (min c n) ≡ time_taken takes v c
taken_capped takes v n below c = ap (λ o. or_time o (said_time takes v None)) (said_time_capped takes v n below c)

-- ---- where the loop stands

-- by a function that sees no deadline, and no number of a call
pub reads_place : {X : Type 0} (f : Place → X) (n : ℕ) → ((place : Place) → f (capped_place n place) ≡ f place) →
    ((d : By) (place : Place) → f (retimed_place (later d) place) ≡ f place) → Reads n (λ s. f s.place)
reads_place f n capped timed = record { told = λ t. f t.place; now = λ s. capped s.place; shifts = λ d s. timed d s.place }

pub reads_quiet : (n : ℕ) → Reads n (λ s. is_quiet s.place)
reads_quiet n = reads_place is_quiet n capped later_too where
  capped : (place : Place) → is_quiet (capped_place n place) ≡ is_quiet place
  capped place = grind arith

  later_too : (d : By) (place : Place) → is_quiet (retimed_place (later d) place) ≡ is_quiet place
  later_too d place = grind arith

pub reads_timers : (n : ℕ) → Reads n (λ s. is_in_timers s.place)
reads_timers n = reads_place is_in_timers n capped later_too where
  capped : (place : Place) → is_in_timers (capped_place n place) ≡ is_in_timers place
  capped place = grind arith

  later_too : (d : By) (place : Place) → is_in_timers (retimed_place (later d) place) ≡ is_in_timers place
  later_too d place = grind arith

pub reads_over : (n : ℕ) → Reads n (λ s. is_over s.place)
reads_over n = reads_place is_over n capped later_too where
  capped : (place : Place) → is_over (capped_place n place) ≡ is_over place
  capped place = grind arith

  later_too : (d : By) (place : Place) → is_over (retimed_place (later d) place) ≡ is_over place
  later_too d place = grind arith

pub reads_ended : (n : ℕ) (p : Program) → Reads n (λ s. has_ended p s.place)
reads_ended n p = reads_place (has_ended p) n capped later_too where
  capped : (place : Place) → has_ended p (capped_place n place) ≡ has_ended p place
  capped place = grind arith

  later_too : (d : By) (place : Place) → has_ended p (retimed_place (later d) place) ≡ has_ended p place
  later_too d place = grind arith

-- ---- the deadline of a poll

-- how long it is until then
abbrev pub until : ℕ → Option ℕ → Option ℕ
until clock deadline = option_map (λ d. d - clock) deadline

abbrev pub wait_of : State → Option ℕ
wait_of s = until s.clock (deadline_at s.place)

pub reads_wait : (n : ℕ) → Reads n wait_of
reads_wait n = record {
  told = λ t. until t.numbers.clock (deadline_at t.place);
  now = λ s. ap (until s.clock) (capped s.place);
  shifts = λ d s. shifted s.clock d s.place;
} where
  capped : (place : Place) → deadline_at (capped_place n place) ≡ deadline_at place
  capped place = grind arith

  shifted : (clock : ℕ) (d : By) (place : Place) → until (clock + d.ms) (deadline_at (retimed_place (later d) place))
      ≡ until clock (deadline_at place)
  shifted clock d place = grind arith

-- ---- the poll

pub reads_in_poll : (n : ℕ) → Reads n (λ s. is_in_poll s.place)
reads_in_poll n = reads_place is_in_poll n capped later_too where
  capped : (place : Place) → is_in_poll (capped_place n place) ≡ is_in_poll place
  capped place = grind arith

  stage_later : (d : By) (x : Stage) → is_poll_stage (retimed_stage (later d) x) ≡ is_poll_stage x
  stage_later d x = grind arith

  later_too : (d : By) (place : Place) → is_in_poll (retimed_place (later d) place) ≡ is_in_poll place
  later_too d place = grind arith

-- ---- when a timer is due

-- how late the clock is for an active timer, and how early
-- an active timer is due, so many ms ago and in so many; it isn't active; something waits for its callback, or nothing does
pub data Waits : Type 0 where
  due : ℕ → ℕ → Waits
  idle : Waits
  waits : Waits
  none : Waits

abbrev pub lag_by : Bool → Bool → Bool → ℕ → ℕ → Waits
lag_by timer active pending ago ahead = if timer then (if active then due ago ahead else idle) else (if pending then waits else none)

abbrev pub lag_of : ℕ → Option Content → Waits
lag_of clock (Some (content.Handle h)) = lag_by (is_timer h.kind) h.active h.pending (clock - h.due.at) (h.due.at - clock)
lag_of clock (Some (content.Request r)) = waits
lag_of clock None = none

abbrev pub lag_under : State → Option Id → Waits
lag_under s None = none
lag_under s (Some id) = lag_of s.clock (held s.arena.slots id)

abbrev pub lag : Var → State → Waits
lag v s = lag_under s (named s v).id

content_lag : (clock : ℕ) (d : By) (o : Option Content) → lag_of (clock + d.ms) (option_map (retimed_content (later d)) o) ≡ lag_of clock o
content_lag clock d each = grind arith

abbrev lag_in : ℕ → Bound → Waits
lag_in clock Nothing = none
lag_in clock Gone = lag_of clock None
lag_in clock (Holds x) = lag_of clock (Some x)

pub reads_lag : (n : ℕ) (v : Var) → Reads n (lag v)
reads_lag n v = record {
  told = λ t. lag_in t.numbers.clock (told_of t v).bound;
  now = λ s. ap (λ t. lag_in s.clock t.bound) (name_told n s.arena.slots s.names v) ∙ now s (named s v);
  shifts = λ d s. shifts d s (named s v).id;
} where
  now : (s : State) (x : Named) → lag_in s.clock (name_now n s.arena.slots x).bound ≡ lag_under s x.id
  now s x = grind arith

  shifts : (d : By) (s : State) (o : Option Id) → lag_under (shift d s) o ≡ lag_under s o
  shifts d s None = refl
  shifts d s (Some id) = ap (lag_of (s.clock + d.ms)) (held_shift d s.arena.slots id) ∙ content_lag s.clock d (held s.arena.slots id)
