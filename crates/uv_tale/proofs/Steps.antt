-- States of which the same is told go on alike, and those with the same pooled form: each goes on as a form of it does, and of the two forms the
-- workers alone are others.
use Rattle.uv_tale.proofs.Names.{◌≡◌, ℕ, ◌+◌, List, false, Option, refl, ap, sym, ◌∙◌, arith, length, slice_get, Event, Seen, Program, State, Moves, Slots, Content, ◌≤◌, subst, option_map, Next, Refuses, next, ClockFits, IsTimed, IsYoung, earliest, surplus, By, shift, Frees, more, IsOrder, arranged, buried, Fits, earliest_later, by_frees, in_order, AreBefore, names_buried, HasUsed, next_grows, next_arranged, StaysKept, is_of_worker, line_by, next_by, orderly, reduced, normal, pooled, bare_line, calls_timer, told_line, IsRegular, LeadsRegular, NextAlike, run_names, tale, Take, Finish, next_map, state_map, relabeled_line, shift_line}
use Rattle.uv_shift.specs.Earliest as early
use Rattle.uv_shift.proofs.Alike.{earliest_next}
use Rattle.uv_generations.proofs.Alike.{youngest_next}
use Rattle.uv_generations.proofs.Early.{earliest_young}
use Rattle.uv_workers.proofs.Steps as workers
use Rattle.uv_tale.proofs.Pooled.{IsUnused, NextUnused, pooled_moved, pooled_orderly, unused_behind}
use Rattle.uv_tale.proofs.Aside.{aside_timed, aside_young, clock_same}
use Rattle.uv_tale.proofs.Reduced.{next_reduced}
use Rattle.uv_tale.proofs.Settled.{dead_of, settled, order_in, fits_in, settled_timed, settled_young}
use Rattle.uv_tale.proofs.Lines.{moved_line, told_arranged, calls_arranged, told_moved, bare_moved, calls_moved, told_by, bare_by, calls_by}
use Rattle.uv_tale.proofs.Made.{place_id}
use Rattle.uv_tale.proofs.Form.{run_made, tales_tell}
use Rattle.uv_tale.proofs.Told.{tale_arranged, tale_buried, tale_later, tale_more, tale_orderly, tale_reduced}

-- which line calls a timer, the slots tell
calls_same : (a b : State) (line : Option Seen) → a.arena ≡ b.arena → calls_timer a line ≡ calls_timer b line
calls_same a b line same = grind arith

-- a form of states, and one of lines, leave out how often more than n times something was called, how late it is, how often slots were freed, and
-- which worker runs which request
record LeavesOut {F : Type 0} (p : Program) (n : ℕ) (form : State → F) (tells : Seen → Seen) : Type 0 where
  moved : (d : By) (k : Frees) (a b : State) → IsUnused k b → reduced n (shift d (more k b)) ≡ reduced n a → form a ≡ form b
  orders : (s : State) → form (orderly s) ≡ form s
  says_moved : (d : By) (k : Frees) (line : Option Seen) → option_map tells (moved_line p d k line) ≡ option_map tells line
  says_by : (j : ℕ) (line other : Option Seen) → option_map tells line ≡ option_map tells other →
      option_map tells (option_map (line_by j) line) ≡ option_map tells (option_map (line_by j) other)

module _ {F : Type 0} (p : Program) (n : ℕ) (form : State → F) (tells : Seen → Seen) (out : LeavesOut p n form tells) where
  abbrev Alike : State → State → Next → Next → Type 0
  Alike s t x y = NextAlike form tells s t x y

  -- ---- one of two, and a third

  turned : (s t : State) (x y : Next) → Alike s t x y → Alike t s y x
  turned s t (Moves a line) (Moves b other) h =
      record { same = sym h.same; same_line = sym h.same_line; clocks = sym h.clocks; timers = sym h.timers }
  turned s t (Refuses why) (Refuses other) h = sym h
  turned s t (Moves a line) (Refuses other) h = absurd h
  turned s t (Refuses why) (Moves b other) h = absurd h

  joined : (s t u : State) (x y z : Next) → Alike s t x y → Alike t u y z → Alike s u x z
  joined s t u (Moves a line) (Moves b other) (Moves c third) h k = record {
    same = h.same ∙ k.same;
    same_line = h.same_line ∙ k.same_line;
    clocks = (let e = h.clocks in let f = k.clocks in omega (arith, e, f));
    timers = h.timers ∙ k.timers;
  }
  joined s t u (Refuses why) (Refuses other) (Refuses third) h k = h ∙ k
  joined s t u (Moves a line) (Moves b other) (Refuses third) h k = absurd k
  joined s t u (Moves a line) (Refuses other) z h k = absurd h
  joined s t u (Refuses why) (Moves b other) z h k = absurd h
  joined s t u (Refuses why) (Refuses other) (Moves c third) h k = absurd k

  by_worker : (s t : State) (j : ℕ) (x y : Next) → Alike s t x y → Alike s t (next_by j x) (next_by j y)
  by_worker s t j (Moves a line) (Moves b other) h = record {
    same = h.same;
    same_line = out.says_by j line other h.same_line;
    clocks = h.clocks;
    timers = calls_by j a line ∙ h.timers ∙ sym (calls_by j b other);
  }
  by_worker s t j (Refuses why) (Refuses other) h = h
  by_worker s t j (Moves a line) (Refuses other) h = absurd h
  by_worker s t j (Refuses why) (Moves b other) h = absurd h

  -- ---- calls are counted up to a number, times are earlier, and slots were freed less often

  moved_alike : (d : By) (k : Frees) (s u : State) (x y : Next) → s.clock ≡ u.clock + d.ms → NextUnused k y →
      state_map (reduced n) (next_map (shift d) (shift_line p d) (next_map (more k) (relabeled_line (by_frees k)) y))
      ≡ state_map (reduced n) x → Alike s u x y
  moved_alike d k s u (Moves a line) (Moves b says) clock unused e =
      let same : reduced n (shift d (more k b)) ≡ reduced n a = cc in
      let same_line : moved_line p d k says ≡ line = cc in
      record {
        same = out.moved d k a b unused same;
        same_line = ap (option_map tells) (sym same_line) ∙ out.says_moved d k says;
        clocks = (let after = ap (λ (v : State). v.clock) same in omega (arith, clock, after));
        timers = calls_same a (shift d (more k b)) line (ap (λ (v : State). v.arena) (sym same))
            ∙ ap (calls_timer (shift d (more k b))) (sym same_line) ∙ calls_moved p d k b says;
      }
  moved_alike d k s u (Refuses why) (Refuses other) clock unused e = (let same : other ≡ why = cc in sym same)
  moved_alike d k s u (Moves a line) (Refuses other) clock unused e = absurd (let f : ⊥ = cc in f)
  moved_alike d k s u (Refuses why) (Moves b says) clock unused e = absurd (let f : ⊥ = cc in f)

  normal_alike : (s : State) (e : Event) → AreBefore n p → IsTimed p s → IsYoung p s → ClockFits s e →
      Alike s (normal n s) (next p s e) (next p (normal n s) e)
  normal_alike s e before timed young fits =
      let r = reduced n s in
      let d = early.base r in
      let k = surplus (earliest r) in
      let old = aside_timed p s r timed in
      let fresh = earliest_young p r old (aside_young p s r young) in
      moved_alike d k s (normal n s) (next p s e) (next p (normal n s) e) (ap (λ (x : State). x.clock) (sym (earliest_later r old.timers)))
      (unused_behind p (earliest r) e)
      (ap (λ x. state_map (reduced n) (next_map (shift d) (shift_line p d) x)) (sym (youngest_next p (earliest r) e fresh))
      ∙ ap (state_map (reduced n)) (sym (earliest_next p r e old (clock_same s r e refl fits)))
      ∙ next_reduced n p s e before)

  -- ---- workers run the same, whichever of them runs which

  orderly_alike : (s t : State) (x y : Next) → s.clock ≡ t.clock → state_map orderly x ≡ state_map orderly y → Alike s t x y
  orderly_alike s t (Moves a line) (Moves b other) clock e =
      let same : orderly a ≡ orderly b = cc in
      let same_line : line ≡ other = cc in
      record {
        same = sym (out.orders a) ∙ ap form same ∙ out.orders b;
        same_line = ap (option_map tells) same_line;
        clocks = (let after = ap (λ (v : State). v.clock) same in omega (arith, clock, after));
        timers = calls_same a b line (ap (λ (v : State). v.arena) same) ∙ ap (calls_timer b) same_line;
      }
  orderly_alike s t (Refuses why) (Refuses other) clock e = (let same : why ≡ other = cc in same)
  orderly_alike s t (Moves a line) (Refuses other) clock e = absurd (let f : ⊥ = cc in f)
  orderly_alike s t (Refuses why) (Moves b other) clock e = absurd (let f : ⊥ = cc in f)

  -- ---- the steps of two states, by those of a form of each

  module _ (s t a b : State) (same : orderly a ≡ orderly b) where
    -- where the one takes a step as its form does, and the forms take it alike, and the other takes it as its form does
    between : (e f : Event) (x y : Next) → Alike s a x y → state_map orderly y ≡ state_map orderly (next p b f) →
        Alike t b (next p t f) (next p b f) →
        Alike s t x (next p t f)
    between e f x y here alike there =
        joined s a t x y (next p t f) here
        (joined a b t y (next p b f) (next p t f) (orderly_alike a b y (next p b f) (ap (λ (u : State). u.clock) same) alike)
        (turned t b (next p t f) (next p b f) there))

    others : (e : Event) → is_of_worker e ≡ false → Alike s a (next p s e) (next p a e) → Alike t b (next p t e) (next p b e) →
        Alike s t (next p s e) (next p t e)
    others e other here there = between e e (next p s e) (next p a e) here (workers.others_alike p a b e other same) there

    takes : (k j : ℕ) → slice_get a.running k ≡ slice_get b.running j → Alike s a (next p s (Take k)) (next p a (Take k)) →
        Alike t b (next p t (Take j)) (next p b (Take j)) → Alike s t (next_by j (next p s (Take k))) (next p t (Take j))
    takes k j runs here there =
        between (Take k) (Take j) (next_by j (next p s (Take k))) (next_by j (next p a (Take k)))
        (by_worker s a j (next p s (Take k)) (next p a (Take k)) here) (sym (workers.takes_alike p a b k j same runs)) there

    finishes : (k j : ℕ) → slice_get a.running k ≡ slice_get b.running j → Alike s a (next p s (Finish k)) (next p a (Finish k)) →
        Alike t b (next p t (Finish j)) (next p b (Finish j)) → Alike s t (next_by j (next p s (Finish k))) (next p t (Finish j))
    finishes k j runs here there =
        between (Finish k) (Finish j) (next_by j (next p s (Finish k))) (next_by j (next p a (Finish k)))
        (by_worker s a j (next p s (Finish k)) (next p a (Finish k)) here) (sym (workers.finishes_alike p a b k j same runs)) there

-- ---- the pooled form

module _ (p : Program) (n : ℕ) where
  pooled_out : LeavesOut p n (pooled n) (bare_line p)
  pooled_out = record { moved = pooled_moved n; orders = pooled_orderly n; says_moved = bare_moved p; says_by = bare_by p }

  -- a state, and its normal form
  as_normal : (s : State) (e : Event) → AreBefore n p → IsTimed p s → IsYoung p s → ClockFits s e →
      NextAlike (pooled n) (bare_line p) s (normal n s) (next p s e) (next p (normal n s) e)
  as_normal = normal_alike p n (pooled n) (bare_line p) pooled_out

  module _ (s t : State) (before : AreBefore n p) (timed : IsTimed p s) (young : IsYoung p s) (timely : IsTimed p t) (youth : IsYoung p t)
      (same : pooled n s ≡ pooled n t) where
    abbrev Pooled : Next → Next → Type 0
    Pooled x y = NextAlike (pooled n) (bare_line p) s t x y

    pub pooled_others : (e : Event) → is_of_worker e ≡ false → ClockFits s e → ClockFits t e → Pooled (next p s e) (next p t e)
    pooled_others e other fits too = others p n (pooled n) (bare_line p) pooled_out s t (normal n s) (normal n t) same e other
        (as_normal s e before timed young fits) (as_normal t e before timely youth too)

    pub pooled_takes : (k j : ℕ) → slice_get (normal n s).running k ≡ slice_get (normal n t).running j →
        Pooled (next_by j (next p s (Take k))) (next p t (Take j))
    pooled_takes k j runs = takes p n (pooled n) (bare_line p) pooled_out s t (normal n s) (normal n t) same k j runs
        (as_normal s (Take k) before timed young tt) (as_normal t (Take j) before timely youth tt)

    pub pooled_finishes : (k j : ℕ) → slice_get (normal n s).running k ≡ slice_get (normal n t).running j →
        Pooled (next_by j (next p s (Finish k))) (next p t (Finish j))
    pooled_finishes k j runs = finishes p n (pooled n) (bare_line p) pooled_out s t (normal n s) (normal n t) same k j runs
        (as_normal s (Finish k) before timed young tt) (as_normal t (Finish j) before timely youth tt)

-- ---- what is told of a state

module _ (p : Program) (n : ℕ) where
  abbrev Tells : State → State → Next → Next → Type 0
  Tells s t x y = NextAlike (tale n) (told_line p) s t x y

  told_out : LeavesOut p n (tale n) (told_line p)
  told_out = record {
    moved = λ d k a b unused same. sym (tale_reduced n a) ∙ ap (tale n) (sym same) ∙ tale_reduced n (shift d (more k b))
        ∙ tale_later n d (more k b) ∙ tale_more n k b;
    orders = tale_orderly n;
    says_moved = told_moved p;
    says_by = told_by p;
  }

  -- names forget in which slot that was which is gone
  buried_alike : (s : State) (x y : Next) → LeadsRegular p x → state_map (buried (dead_of p)) y ≡ state_map (buried (dead_of p)) x →
      Tells s (buried (dead_of p) s) x y
  buried_alike s (Moves a line) (Moves b says) regular e =
      let same : buried (dead_of p) b ≡ buried (dead_of p) a = cc in
      let same_line : says ≡ line = cc in
      let arena = ap (λ (u : State). u.arena) same in
      let within = regular.buries.beyond in
      record {
        same = sym (tale_buried n (dead_of p) a within) ∙ ap (tale n) (sym same)
            ∙ tale_buried n (dead_of p) b (subst (λ (it : Slots Content). length it.slots + it.unused ≤ dead_of p) (sym arena) within);
        same_line = ap (option_map (told_line p)) (sym same_line);
        clocks = (let clock = ap (λ (u : State). u.clock) same in omega (arith, clock));
        timers = calls_same a b line (sym arena) ∙ ap (calls_timer b) (sym same_line);
      }
  buried_alike s (Refuses why) (Refuses other) regular e = (let same : other ≡ why = cc in sym same)
  buried_alike s (Moves a line) (Refuses other) regular e = absurd (let f : ⊥ = cc in f)
  buried_alike s (Refuses why) (Moves b says) regular e = absurd (let f : ⊥ = cc in f)

  -- slots stand in another order
  arranged_alike : (o : List ℕ) (s : State) (y : Next) → IsOrder o → StaysKept (HasUsed (length o)) y →
      Tells s (arranged o s) y (next_map (arranged o) (relabeled_line (in_order o)) y)
  arranged_alike o s (Moves b says) order grows =
      let fits : Fits o b.arena.slots = record { order = order; within = grows } in
      record {
        same = sym (tale_arranged n o b fits);
        same_line = sym (told_arranged p o says);
        clocks = refl;
        timers = sym (calls_arranged o b says fits);
      }
  arranged_alike o s (Refuses why) order grows = refl

  form_alike : (s : State) (e : Event) → AreBefore n p → IsRegular p s → ClockFits s e → LeadsRegular p (next p s e) →
      Tells s (normal n (settled p s)) (next p s e) (next p (normal n (settled p s)) e)
  form_alike s e before regular fits leads =
      let u = buried (dead_of p) s in
      let o = order_in p s in
      let v = settled p s in
      let x = next p s e in
      let y = next p u e in
      let z = next p v e in
      let w = next p (normal n v) e in
      let stands = fits_in p s regular in
      joined p n (tale n) (told_line p) told_out s u (normal n v) x y w (buried_alike s x y leads (names_buried p (dead_of p) s e regular.buries))
      (joined p n (tale n) (told_line p) told_out u v (normal n v) y z w
      (subst (Tells u v y) (sym (next_arranged p o u e stands)) (arranged_alike o u y stands.order (next_grows p (length o) u e stands.within)))
      (normal_alike p n (tale n) (told_line p) told_out v e before (settled_timed p s regular) (settled_young p s regular)
      (clock_same s v e refl fits)))

  module _ (s t : State) (before : AreBefore n p) (regular : IsRegular p s) (good : IsRegular p t) (same : tale n s ≡ tale n t) where
    abbrev a : State
    a = normal n (settled p s)

    abbrev b : State
    b = normal n (settled p t)

    form : orderly a ≡ orderly b
    form = tales_tell p n s t regular good same

    pub others_alike : (e : Event) → is_of_worker e ≡ false → ClockFits s e → ClockFits t e → LeadsRegular p (next p s e) →
        LeadsRegular p (next p t e) → Tells s t (next p s e) (next p t e)
    others_alike e other fits too leads goes = others p n (tale n) (told_line p) told_out s t a b form e other
        (form_alike s e before regular fits leads) (form_alike t e before good too goes)

    -- workers that run the same by name run the same in the forms
    runs_alike : (k j : ℕ) → slice_get (run_names s.arena.slots s.running) k ≡ slice_get (run_names t.arena.slots t.running) j →
        slice_get a.running k ≡ slice_get b.running j
    runs_alike k j here = run_made p n s regular k
        ∙ (λ i. option_map (option_map (place_id (same i).names)) (here i)) ∙ sym (run_made p n t good j)

    pub takes_alike : (k j : ℕ) → slice_get (run_names s.arena.slots s.running) k ≡ slice_get (run_names t.arena.slots t.running) j →
        LeadsRegular p (next p s (Take k)) → LeadsRegular p (next p t (Take j)) →
        Tells s t (next_by j (next p s (Take k))) (next p t (Take j))
    takes_alike k j here leads goes = takes p n (tale n) (told_line p) told_out s t a b form k j (runs_alike k j here)
        (form_alike s (Take k) before regular tt leads) (form_alike t (Take j) before good tt goes)

    pub finishes_alike : (k j : ℕ) → slice_get (run_names s.arena.slots s.running) k ≡ slice_get (run_names t.arena.slots t.running) j →
        LeadsRegular p (next p s (Finish k)) → LeadsRegular p (next p t (Finish j)) →
        Tells s t (next_by j (next p s (Finish k))) (next p t (Finish j))
    finishes_alike k j here leads goes = finishes p n (tale n) (told_line p) told_out s t a b form k j (runs_alike k j here)
        (form_alike s (Finish k) before regular tt leads) (form_alike t (Finish j) before good tt goes)
