-- Steps that are run again, breaks, and a run up to a break or back to one.
use Rattle.std.specs.Prelude.{◌≡◌, ℕ, suc, ◌+◌, ◌-◌, ◌<◌, ◌≤◌, List, [], ◌∷◌, ◌++◌, length, take, drop, Bool, true, false, Option, None, Result, Ok, Err, slice_get, unwrap_or}
use Rattle.uv_ids.specs.declared.event.Event.{Event}
use Rattle.uv_ids.specs.declared.fault.Fault.{Fault}
use Rattle.uv_ids.specs.declared.fault.Fault.TheVariants.{Memory, Refused, Limit}
use Rattle.uv_ids.specs.declared.fault.Why.TheVariants.{Range}
use Rattle.uv_ids.specs.declared.seen.Seen.{Seen}
use Rattle.uv_model.specs.declared.machine.Outcome.{Outcome}
use Rattle.uv_model.specs.After.{seen_by}
use Rattle.uv_session.specs.declared.breaks.Break.{Break}
use Rattle.uv_session.specs.declared.breaks.Stop.{Stop}
use Rattle.uv_session.specs.declared.breaks.Stop.TheVariants as stop
use Rattle.uv_session.specs.Shown.{Shown, TakesEvent, moved_back}
use Rattle.uv_session.specs.Breaks.{stops, stop_of}

-- the first n steps taken back go to the end of the standing ones
abbrev pub moved_forward : ℕ → Shown → Shown
moved_forward n s = record s { standing = s.standing ++ take n s.taken_back; taken_back = drop n s.taken_back }

-- what may be answered to `forward n`, and the session after it; after want of memory some of the steps, and not all, may be run again
abbrev pub MovesForward : Shown → ℕ → Result (Unit {0}) Fault → Shown → Type 0
MovesForward s n (Ok done) t = (n ≤ length s.taken_back) × (t ≡ moved_forward n s)
MovesForward s n (Err Memory) t = (k : ℕ) × ((k < n) × (n ≤ length s.taken_back) × (t ≡ moved_forward k s))
MovesForward s n (Err (Refused Range)) t = (length s.taken_back < n) × (t ≡ s)
MovesForward s n (Err _) t = ⊥

-- the most breaks that a session has
abbrev pub BREAKS : ℕ
BREAKS = 256

-- what may be answered to one break more, and the session after it
abbrev pub AddsBreak : Shown → Break → Result (Unit {0}) Fault → Shown → Type 0
AddsBreak s b (Ok done) t = (length s.breaks < BREAKS) × (t ≡ record s { breaks = s.breaks ++ b ∷ [] })
AddsBreak s b (Err Memory) t = (length s.breaks < BREAKS) × (t ≡ s)
AddsBreak s b (Err Limit) t = (BREAKS ≤ length s.breaks) × (t ≡ s)
AddsBreak s b (Err _) t = ⊥

-- ---- a run up to a break

-- one event is repeated until so many are done, a step matches a break, or the event isn't taken; those that were taken stand
pub data RunsTo (e : Event) : ℕ → Shown → Result Stop Fault → Shown → Type 0 where
  all : {s : Shown} → RunsTo e 0 s (Ok stop.All) s
  matches : {n : ℕ} {s t : Shown} {o : Outcome} → TakesEvent s e (Ok o) t → stops s.breaks o.seen ≡ true →
      RunsTo e (suc n) s (Ok (stop.Break (length t.standing))) t
  ends : {n : ℕ} {s t : Shown} {f : Fault} → TakesEvent s e (Err f) t → RunsTo e (suc n) s (stop_of f) t
  on : {n : ℕ} {s u t : Shown} {o : Outcome} {r : Result Stop Fault} → TakesEvent s e (Ok o) u → stops s.breaks o.seen ≡ false →
      RunsTo e n u r t → RunsTo e (suc n) s r t

-- ---- back to a break

-- what the standing steps appended
abbrev pub seen_in : Shown → List (Option Seen)
seen_in s = seen_by s.program s.standing

-- the step of this number matches a break
abbrev pub stops_at : Shown → ℕ → Bool
stops_at s step = stops s.breaks (unwrap_or (slice_get (seen_in s) (step - 1)) None)

-- of the steps before the last one, none from this one on matches
abbrev pub NoneFrom : Shown → ℕ → Type 0
NoneFrom s from = (step : ℕ) → from ≤ step → step < length s.standing → stops_at s step ≡ false

-- the last step that matches, except the present one
pub record IsLastBreak (s : Shown) (step : ℕ) : Type 0 where
  pub first : 1 ≤ step
  pub before : step < length s.standing
  pub matches : stops_at s step ≡ true
  pub last : NoneFrom s (step + 1)

-- what may be answered to going back to a break, and the session after it; after want of memory some of the steps may be taken back
abbrev pub GoesToBreak : Shown → Result ℕ Fault → Shown → Type 0
GoesToBreak s (Ok step) t = IsLastBreak s step × (t ≡ moved_back (length s.standing - step) s)
GoesToBreak s (Err Memory) t = (step : ℕ) × (k : ℕ) × (IsLastBreak s step × (k < length s.standing - step) × (t ≡ moved_back k s))
GoesToBreak s (Err (Refused Range)) t = NoneFrom s 1 × (t ≡ s)
GoesToBreak s (Err _) t = ⊥
