-- Where the times of a later state fit, those of the state itself do.
use Rattle.uv_shift.proofs.Names.{◌≡◌, ℕ, ◌+◌, List, [], ◌∷◌, ◌&&◌, Bool, true, refl, ap, sym, ◌∙◌, arith, Id, Due, Op, Program, State, subst, is_timer, inl, inr, map, option_map, Before, InOrder, Has, IsTimer, AreTimers, By, shift, FitsOp, TimesFit, base, earliest, IsTimed}
use Rattle.uv_shift.proofs.Later.{shift_due, shift_if, shift_handle, shift_entry}
use Rattle.uv_shift.proofs.Slots.{handle_shift}
use Rattle.uv_shift.proofs.Steps.{can_shift}
use Rattle.uv_shift.proofs.Base.{earliest_later}

-- ---- the order of timers

pub has_later : (d : By) (ts : List (Due × Id)) (due : Due) (id : Id) → Has ts due id → Has (map (shift_entry d) ts) (shift_due d due) id
has_later d [] due id h = h
has_later d (t ∷ ts) due id (inl is) = inl (ap (shift_due d) is.0, is.1)
has_later d (t ∷ ts) due id (inr rest) = inr (has_later d ts due id rest)

has_earlier : (d : By) (ts : List (Due × Id)) (due : Due) (id : Id) → Has (map (shift_entry d) ts) (shift_due d due) id → Has ts due id
has_earlier d [] due id h = h
has_earlier d (t ∷ ts) due id (inl is) = inl (grind arith)
has_earlier d (t ∷ ts) due id (inr rest) = inr (has_earlier d ts due id rest)

before_earlier : (d : By) (a : Due) (ts : List (Due × Id)) → Before (shift_due d a) (map (shift_entry d) ts) → Before a ts
before_earlier d a [] h = tt
before_earlier d a (t ∷ ts) h = (sym (grind arith) ∙ h.0, before_earlier d a ts h.1)

order_earlier : (d : By) (ts : List (Due × Id)) → InOrder (map (shift_entry d) ts) → InOrder ts
order_earlier d [] h = tt
order_earlier d (t ∷ ts) h = (before_earlier d t.0 ts h.0, order_earlier d ts h.1)

shifted : (d : By) (b : Bool) (due : Due) → b ≡ true → shift_if b d due ≡ shift_due d due
shifted d b due e = rw e refl

timer_earlier : (d : By) (s : State) (due : Due) (id : Id) → IsTimer (shift d s) (shift_due d due) id → IsTimer s due id
timer_earlier d s due id k = grind (arith, handle_shift, shifted)

timer_later : (d : By) (s : State) (due : Due) (id : Id) → IsTimer s due id → IsTimer (shift d s) (shift_due d due) id
timer_later d s due id k = record {
  its = shift_handle d k.its;
  holds = handle_shift d s id ∙ ap (option_map (shift_handle d)) k.holds;
  kind = k.kind;
  active = k.active;
  due = shifted d (k.its.active && is_timer k.its.kind) k.its.due (grind arith) ∙ ap (shift_due d) k.due;
}

pub timers_earlier : (d : By) (s : State) → AreTimers (shift d s) (shift d s).timers → AreTimers s s.timers
timers_earlier d s k = record {
  each = λ due id h. timer_earlier d s due id (k.each (shift_due d due) id (has_later d s.timers due id h));
  all = λ due id h. has_earlier d s.timers due id (k.all (shift_due d due) id (timer_later d s due id h));
  sorted = order_earlier d s.timers k.sorted;
}

-- ---- the times

fits_earlier : (time ms : ℕ) (o : Op) → FitsOp (time + ms) o → FitsOp time o
fits_earlier time ms o h = grind arith

pub times_earlier : (p : Program) (d : By) (s : State) → TimesFit p (shift d s) → TimesFit p s
times_earlier p d s h = let k = can_shift p d s h in record {
  starts = λ site o is. fits_earlier s.time d.ms o (k.starts site o is);
  repeats = λ id its is. (let l = k.repeats id its is in omega (arith, l));
  ready = k.ready;
  first = k.first;
}

pub timed_earlier : (p : Program) (d : By) (s : State) → IsTimed p (shift d s) → IsTimed p s
timed_earlier p d s h = record { timers = timers_earlier d s h.timers; fits = times_earlier p d s h.fits }

pub earliest_timed : (p : Program) (s : State) → IsTimed p s → IsTimed p (earliest s)
earliest_timed p s h = timed_earlier p (base s) (earliest s) (subst (IsTimed p) (sym (earliest_later s h.timers)) h)
