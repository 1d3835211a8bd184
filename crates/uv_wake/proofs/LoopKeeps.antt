-- Each step of the loop's seat keeps the rule of the board.
use Rattle.uv_wake.proofs.ProofNames.{◌≡◌, ◌≢◌, ℕ, ◌+◌, ◌*◌, ◌%◌, ◌<◌, ◌≤◌, List, [], ◌∷◌, ◌++◌, get_or, set, sym, refl, ap, ◌∙◌, subst, ⊎_elim, arith, true, Some, None, Contains, length-set, get_or-set_same, get_or-set_other, set-get_or, get_or_past, eq-eqb, eqb-true, eqb-false, Contains-append_left, Contains-append_right, Contains-append_cases, dite, some, some-injective, ℕ_discrete, dec_le, get_elem?, State, set_else, at_longer, Var, Ticket, LoopView, SenderView, View, Loop, Sender, Joined, ticket, list_of, Has, NameKept, NoneIsAhead, Kept, AllCarried, HasEach, after_absorb, sender_of, is_odd, Looked}
use Rattle.uv_wake.proofs.Lists.{var_ext, set_there, none_in, has_after, has_before, has_longer, has_shorter, count_set, count_push, alone_set, alone_push, ahead_set, ahead_push, all_home}
use Rattle.uv_wake.proofs.Names.{odd_word, stays, absorbed_name}

module _ (names : ℕ) (s : State ℕ View) (kept : Kept names s) where
  abbrev word_of : Var → ℕ
  word_of v = get_or s.words (v.0 + 1) 0

  abbrev count_of : Var → ℕ
  count_of v = get_or kept.loop.counts v.0 0

  pub none_is_left : (v : Var) → v.0 < names → word_of v % 2 ≡ 0 → AllCarried kept.loop v
  none_is_left v small even t is c = let p = (kept.each v small).is_past t is (0, Loop kept.loop, kept.first, c) in
      let below : t.epoch < count_of v = dite (ℕ_discrete t.epoch (count_of v)) (λ e. let odd = p.1 e in absurd (omega arith))
      (λ n. let h = p.0 in omega arith) in
      subst (λ (x : Var). t.epoch < count_of x) (sym is) below

  home : (t : Ticket) → kept.loop.splits ≡ kept.loop.joins → Has s.views t → Contains kept.loop.tickets t
  home t all = let k = kept.senders in all_home s.views kept.loop t kept.first kept.alone (omega arith)

  pub complete : HasEach kept.loop
  complete all v e lt = let counted = kept.counted in dite (dec_le (v.0 + 1) names)
      (λ small. home (ticket v e) all ((kept.each v (omega arith)).was_asked e lt))
      (λ far. let none = get_or_past kept.loop.counts v.0 0 (omega arith) in absurd (omega arith))

  -- what a look finds
  pub look_finds : (v : Var) → v.0 < names → Looked kept.loop v (is_odd (word_of v))
  look_finds v small = let ok = kept.each v small in record {
    still = λ e. let odd = ok.is_seen e in eq-eqb _ _ (omega arith);
    carried = λ even. let other = eqb-false (word_of v % 2) 1 even in none_is_left v small (omega arith);
    asked = λ odd all. let is = eqb-true (word_of v % 2) 1 odd in home (ticket v (count_of v)) all
        (ok.is_asked (odd_word (count_of v) (word_of v) ok.is_word (omega arith)));
    each = complete;
  }

  -- the loop's view becomes l, with the same list
  module _ (l : LoopView) (same : l.tickets ≡ kept.loop.tickets) where
    more : (t : Ticket) → Has s.views t → Has (set s.views 0 (Loop l)) t
    more t h = has_after s.views 0 (Loop kept.loop) (Loop l) t kept.first (λ c. subst (λ (ts : List Ticket). Contains ts t) (sym same) c) h

    less : (t : Ticket) → Has (set s.views 0 (Loop l)) t → Has s.views t
    less t h = ⊎_elim (λ (c : Contains l.tickets t). (0, Loop kept.loop, kept.first, subst (λ (ts : List Ticket). Contains ts t) same c))
        (λ (old : Has s.views t). old) (has_before s.views 0 (Loop l) t h)

  ahead : (l : LoopView) (u : Var) → u.0 < names → NoneIsAhead (set s.views 0 (Loop l)) u (count_of u)
  ahead l u lt = ahead_set s.views 0 (Loop l) u (count_of u) (λ x e. absurd (cc)) (kept.each u lt).is_ahead

  pub look_keeps : (v : Var) → v.0 < names → word_of v % 2 ≢ 0
      → Kept names (record {
        words = set s.words (v.0 + 1) (word_of v);
        homes = s.homes;
        views = set s.views 0
            (Loop (record kept.loop { seen = Some v }));
      })
  look_keeps v small odd = let l : LoopView = record kept.loop { seen = Some v } in record {
    loop = l;
    first = set_there s.views 0 (Loop l) (Loop kept.loop) kept.first;
    alone = alone_set s.views 0 (Loop l) (λ _ _. refl) kept.alone;
    wide = length-set s.words (v.0 + 1) _ ∙ kept.wide;
    further = ap (λ (ws : List ℕ). get_or ws 0 0) (set-get_or s.words (v.0 + 1) 0) ∙ kept.further;
    counted = kept.counted;
    each = λ u lt. subst (λ (ws : List ℕ). NameKept (set s.views 0 (Loop l)) (Some v) u (count_of u) (get_or ws (u.0 + 1) 0))
        (sym (set-get_or s.words (v.0 + 1) 0))
        (stays s.views (set s.views 0 (Loop l)) kept.loop.seen (Some v) u (count_of u) (word_of u) (λ t _. more l refl t) (λ t _. less l refl t)
        (λ e. let same : v ≡ u = cc in subst (λ (x : Var). word_of x ≡ 2 * count_of x + 1) same (odd_word _ _ (kept.each v small).is_word odd))
        (ahead l u lt) (kept.each u lt));
    senders = let c = count_set s.views 0 (Loop kept.loop) (Loop l) kept.first in let k = kept.senders in omega arith;
  }

  pub absorb_keeps : (v : Var) → v.0 < names → word_of v ≡ 2 * count_of v + 1
      → Kept names (record {
        words = set s.words (v.0 + 1) (word_of v + 1);
        homes = s.homes;
        views = set s.views 0
            (Loop (after_absorb kept.loop v true));
      })
  absorb_keeps v small odd = let l : LoopView = after_absorb kept.loop v true in record {
    loop = l;
    first = set_there s.views 0 (Loop l) (Loop kept.loop) kept.first;
    alone = alone_set s.views 0 (Loop l) (λ _ _. refl) kept.alone;
    wide = length-set s.words (v.0 + 1) _ ∙ kept.wide;
    further = get_or-set_other s.words (v.0 + 1) 0 _ 0 (λ e. omega arith) ∙ kept.further;
    counted = length-set kept.loop.counts v.0 _ ∙ kept.counted;
    each = λ u lt. dite (ℕ_discrete u.0 v.0)
        (λ e. let wide = kept.wide in let counted = kept.counted in let same = var_ext u v e in
        subst (λ (x : Var). NameKept (set s.views 0 (Loop l)) None x (get_or l.counts x.0 0)
        (get_or (set s.words (v.0 + 1) (word_of v + 1)) (x.0 + 1) 0)) (sym same)
        (subst (λ (n : ℕ × ℕ). NameKept (set s.views 0 (Loop l)) None v n.0 n.1)
        (λ i. (
          sym (get_or-set_same kept.loop.counts v.0 (count_of v + 1) 0 (omega arith)) i,
          sym
              (get_or-set_same s.words (v.0 + 1) (word_of v + 1) 0 (omega arith)) i,
        ))
        (absorbed_name s.views (set s.views 0 (Loop l)) kept.loop.seen v (count_of v) (word_of v) (more l refl) (less l refl) odd
        (λ seat x at. let h = ahead l v small seat x at in omega arith) (kept.each v small))))
        (λ n. subst (λ (n : ℕ × ℕ). NameKept (set s.views 0 (Loop l)) None u n.0 n.1)
        (λ i. (
          sym (get_or-set_other kept.loop.counts v.0 u.0 (count_of v + 1) 0 n) i,
          sym
              (get_or-set_other s.words (v.0 + 1) (u.0 + 1) (word_of v + 1) 0 (λ e. n (omega arith))) i,
        ))
        (stays s.views (set s.views 0 (Loop l)) kept.loop.seen None u (count_of u) (word_of u) (λ t _. more l refl t) (λ t _. less l refl t)
        (λ e. absurd (cc)) (ahead l u lt) (kept.each u lt)));
    senders = let c = count_set s.views 0 (Loop kept.loop) (Loop l) kept.first in let k = kept.senders in omega arith;
  }

  abbrev pub new_sender : View
  new_sender = Sender (record { since = kept.loop.counts; tickets = [] })

  pub split_keeps : Kept names (record {
    words = s.words;
    homes = s.homes;
    views = set s.views 0
        (Loop (record kept.loop { splits = kept.loop.splits + 1 })) ++ new_sender ∷ [];
  })
  split_keeps = let l : LoopView = record kept.loop { splits = kept.loop.splits + 1 } in let views : List View = set s.views 0 (Loop l) in record {
    loop = l;
    first = at_longer views (new_sender ∷ []) 0 (Loop l) (set_there s.views 0 (Loop l) (Loop kept.loop) kept.first);
    alone = alone_push views new_sender (λ k e. absurd (cc)) (alone_set s.views 0 (Loop l) (λ _ _. refl) kept.alone);
    wide = kept.wide;
    further = kept.further;
    counted = kept.counted;
    each = λ u lt. stays s.views (views ++ new_sender ∷ []) kept.loop.seen kept.loop.seen u (count_of u) (word_of u)
        (λ t _ h. has_longer views new_sender t (more l refl t h))
        (λ t _ h. ⊎_elim (λ (c : Contains [] t). absurd (none_in t c)) (λ (old : Has views t). less l refl t old) (has_shorter views new_sender t h))
        (kept.each u lt).is_seen
        (ahead_push views new_sender u (count_of u)
        (λ x e. subst (λ (y : SenderView). get_or y.since u.0 0 ≤ count_of u) (ap sender_of e) (omega arith)) (ahead l u lt))
        (kept.each u lt);
    senders = let c = count_set s.views 0 (Loop kept.loop)
        (Loop l) kept.first in let d = count_push views new_sender in let k = kept.senders in omega arith;
  }

  module _ (other : ℕ) (k : SenderView) (apart : other ≢ 0) (at : get_elem? s.views other ≡ some (Sender k)) where
    abbrev pub both : LoopView
    both = record kept.loop { joins = kept.loop.joins + 1; tickets = kept.loop.tickets ++ k.tickets }

    abbrev first_step : List View
    first_step = set s.views 0 (Loop both)

    abbrev pub joined_views : List View
    joined_views = set first_step other Joined

    loop_there : get_elem? joined_views 0 ≡ some (Loop both)
    loop_there = set_else first_step other 0 Joined (λ z. apart (sym z)) ∙ set_there s.views 0 (Loop both) (Loop kept.loop) kept.first

    still : get_elem? first_step other ≡ some (Sender k)
    still = set_else s.views 0 other (Loop both) apart ∙ at

    more_joined : (t : Ticket) → Has s.views t → Has joined_views t
    more_joined t h = dite (ℕ_discrete h.0 other)
        (λ e. let same : h.1 ≡ Sender k = some-injective h.1 (Sender k) (sym h.2 ∙ (λ i. get_elem? s.views (e i)) ∙ at) in
        (0, Loop both, loop_there, Contains-append_right kept.loop.tickets k.tickets t (subst (λ (x : View). Contains (list_of x) t) same h.3)))
        (λ n. dite (ℕ_discrete h.0 0)
        (λ e. let same : h.1 ≡ Loop kept.loop = some-injective h.1 (Loop kept.loop) (sym h.2 ∙ (λ i. get_elem? s.views (e i)) ∙ kept.first) in
        (0, Loop both, loop_there, Contains-append_left kept.loop.tickets k.tickets t (subst (λ (x : View). Contains (list_of x) t) same h.3)))
        (λ m. (h.0, h.1, set_else first_step other h.0 Joined n ∙ (set_else s.views 0 h.0 (Loop both) m ∙ h.2), h.3)))

    less_joined : (t : Ticket) → Has joined_views t → Has s.views t
    less_joined t h = ⊎_elim (λ (c : Contains [] t). absurd (none_in t c))
        (λ (g : Has first_step t). ⊎_elim
        (λ (c : Contains (kept.loop.tickets ++ k.tickets) t). ⊎_elim
        (λ (a : Contains kept.loop.tickets t). let r : Has s.views t = (0, Loop kept.loop, kept.first, a) in r)
        (λ (b : Contains k.tickets t). let r : Has s.views t = (other, Sender k, at, b) in r)
        (Contains-append_cases kept.loop.tickets k.tickets t c))
        (λ (old : Has s.views t). old) (has_before s.views 0 (Loop both) t g))
        (has_before first_step other Joined t h)

    pub join_keeps : Kept names (record { words = s.words; homes = s.homes; views = joined_views })
    join_keeps = record {
      loop = both;
      first = loop_there;
      alone = alone_set first_step other Joined (λ l e. absurd (cc)) (alone_set s.views 0 (Loop both) (λ _ _. refl) kept.alone);
      wide = kept.wide;
      further = kept.further;
      counted = kept.counted;
      each = λ u lt. stays s.views joined_views kept.loop.seen kept.loop.seen u (count_of u) (word_of u) (λ t _. more_joined t) (λ t _. less_joined t)
          (kept.each u lt).is_seen
          (ahead_set first_step other Joined u (count_of u) (λ x e. absurd (cc)) (ahead both u lt)) (kept.each u lt);
      senders = let c = count_set s.views 0 (Loop kept.loop) (Loop both) kept.first in let d = count_set first_step other
          (Sender k) Joined still in let k = kept.senders in omega arith;
    }
