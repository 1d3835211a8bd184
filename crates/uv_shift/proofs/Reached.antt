-- Each state that steps lead to can be moved, where the script's numbers are small.
use Rattle.uv_shift.proofs.Names.{◌≡◌, ℕ, suc, ◌+◌, ◌<◌, true, List, [], ◌∷◌, refl, ap, ◌∙◌, arith, Some, Id, Due, Event, Program, Op, HandleRecord, State, handle, front, ◌≤◌, ◌^◌, elements, first_due, fresh, goes_on, state_of, is_timer, Next, inl, LATEST, Has, IsTimer, FitsOp, IsShort, IsShortOp, IsTimed, AreSetAside}
use Rattle.uv_ids.specs.declared.phase.Kind.TheVariants as kind
use Rattle.uv_model.specs.After.{after}
use Rattle.uv_model.specs.Next.{next}
use Rattle.uv_model.proofs.Bounded.{next_bounded}
use Rattle.uv_model.proofs.Counting.{IsBounded, StaysBounded}
use Rattle.uv_order.proofs.Reaching.{reached}
use Rattle.uv_shift.proofs.Short.{held_short, after_short}
use Rattle.uv_shift.proofs.Slots.{first_due_held}

-- ---- the loop's time, after however many steps

pub state_bounded : (p : Program) (n : ℕ) (s : State) (e : Event) → IsBounded n s → IsBounded (suc n) (state_of s (next p s e))
state_bounded p n s e h = kept (next p s e) (next_bounded p n s e h) where
  kept : (x : Next) → StaysBounded (suc n) x → IsBounded (suc n) (state_of s x)
  kept x k = grind arith

goes_on_early : (p : Program) (n : ℕ) (s : State) (es : List Event) → IsBounded n s → (goes_on p s es).time ≤ LATEST
goes_on_early p n s [] h = h.time
goes_on_early p n s (e ∷ es) h = goes_on_early p (suc n) (state_of s (next p s e)) es (state_bounded p n s e h)

after_early : (p : Program) (es : List Event) → (after p es).time ≤ LATEST
unfolding after
after_early p es = goes_on_early p 0 (fresh p) es (grind (arith, elements))

-- ---- who is called as a timer

timer_kind : (s : State) (id : Id) (its h : HandleRecord) → handle s id ≡ Some its → its.kind ≡ kind.Timer → handle s id ≡ Some h →
    is_timer h.kind ≡ true
timer_kind s id its h holds is there = cc

ready_timers : (s : State) (ids : List Id) (t : Id × HandleRecord) → AreSetAside s ids → front s ids ≡ Some t → is_timer t.1.kind ≡ true
ready_timers s [] t h e = cc e
ready_timers s (id ∷ ids) t h e = grind (arith, timer_kind)

first_timers : (s : State) (ts : List (Due × Id)) (t : Id × HandleRecord) → ((due : Due) (id : Id) → Has ts due id → IsTimer s due id) →
    first_due s ts ≡ Some t → is_timer t.1.kind ≡ true
first_timers s [] t h e = cc e
first_timers s (u ∷ ts) t h e =
    let k = h u.0 u.1 (inl (refl, refl)) in
    timer_kind s u.1 k.its t.1 k.holds k.kind (ap (handle s) (grind arith) ∙ first_due_held s (u ∷ ts) t e)

-- ---- the whole

fits_op : (n time : ℕ) (o : Op) → IsShortOp n o → time + n ≤ 2 ^ 64 → FitsOp time o
fits_op n time o b l = grind arith

-- for every list of steps, however long
pub after_timed : (p : Program) (n : ℕ) (es : List Event) → 0 < n → n + LATEST ≤ 2 ^ 64 → IsShort n p → IsTimed p (after p es)
after_timed p n es some few short =
    let s = after p es in
    let k = reached p es in
    let time = after_early p es in
    let kept = after_short p n es some short in
    record {
      timers = k.timers;
      fits = record {
        starts = λ site o is. fits_op n s.time o (short site o is) (omega (arith, time, few));
        repeats = λ id h is. (let l = held_short n s id h kept is in omega (arith, time, few, l));
        ready = λ t is. ready_timers s s.ready t k.ready is;
        first = λ t is. first_timers s s.timers t k.timers.each is;
      };
    }
