-- What the table asks of each step of a sender's seat, and what its seat then is.
use Rattle.uv_wake.proofs.ProofNames.{◌≡◌, ◌⊎◌, ℕ, ◌+◌, ◌/◌, ◌<◌, ◌≤◌, [], ◌∷◌, ◌++◌, get_or, set, sym, ap, ◌∙◌, subst, inl, inr, ⊎_elim, arith, Contains, length-set, get_or-set_same, get_or-set_other, Contains-append_left, Contains-push, Contains-push_cases, dite, none, some, some-injective, ℕ_discrete, bit_or, get_elem?, State, Me, step, keeps, Allows, set_else, Var, Ticket, SenderView, View, Loop, Sender, ticket, Has, NameKept, NoneIsAhead, Kept, sender_of, sent, after_send, IsSends}
use Rattle.uv_wake.proofs.Lists.{var_ext, set_there, has_after, has_before, count_set, alone_set, ahead_set}
use Rattle.uv_wake.proofs.Names.{or_one, stays, sent_name}

module _ (names : ℕ) (s : State ℕ View) (kept : Kept names s) where
  abbrev pub word_of : Var → ℕ
  word_of v = get_or s.words (v.0 + 1) 0

  -- a sender's seat with the view k, and a name
  module _ (id : ℕ) (k : SenderView) (at : get_elem? s.views id ≡ some (Sender k)) (v : Var) (small : v.0 < names) where
    abbrev new : Ticket
    new = ticket v (word_of v / 2)

    abbrev pub after : View
    after = Sender (after_send k new)

    not_first : id ≡ 0 → ⊥
    not_first z = let e : Sender k ≡ Loop kept.loop = some-injective _ _ (sym at ∙ (λ i. get_elem? s.views (z i)) ∙ kept.first) in absurd (cc)

    more : (t : Ticket) → Has s.views t → Has (set s.views id after) t
    more t h = has_after s.views id (Sender k) after t at (Contains-append_left k.tickets (new ∷ []) t) h

    less : (t : Ticket) → Has (set s.views id after) t → (t ≡ new) ⊎ Has s.views t
    less t h = ⊎_elim (λ (c : Contains (k.tickets ++ new ∷ []) t). ⊎_elim
        (λ (old : Contains k.tickets t). inr (id, Sender k, at, old)) (λ (e : new ≡ t). inl (sym e))
        (Contains-push_cases k.tickets new t c)) (λ (old : Has s.views t). inr old) (has_before s.views id after t h)

    epoch_is : word_of v / 2 ≡ get_or kept.loop.counts v.0 0
    epoch_is = (or_one _ _ (kept.each v small).is_word).1

    none_is_ahead : (u : Var) → u.0 < names → NoneIsAhead (set s.views id after) u (get_or kept.loop.counts u.0 0)
    none_is_ahead u lt = let ok = (kept.each u lt).is_ahead in ahead_set s.views id after u (get_or kept.loop.counts u.0 0)
        (λ x e. subst (λ (y : SenderView). get_or y.since u.0 0 ≤ get_or kept.loop.counts u.0 0) (ap sender_of e) (ok id k at)) ok

    pub is_latest : (t : Ticket) → t.var ≡ v → Contains k.tickets t → t.epoch ≤ word_of v / 2
    is_latest t is c = let p = ((kept.each v small).is_past t is (id, Sender k, at, c)).0 in let e = epoch_is in omega arith

    pub is_since : get_or k.since v.0 0 ≤ word_of v / 2
    is_since = let h = (kept.each v small).is_ahead id k at in let e = epoch_is in omega arith

    pub send_keeps : Kept names (record { words = set s.words (v.0 + 1) (bit_or (word_of v) 1); homes = s.homes; views = set s.views id after })
    send_keeps = record {
      loop = kept.loop;
      first = set_else s.views id 0 after (λ z. not_first (sym z)) ∙ kept.first;
      alone = alone_set s.views id after (λ l e. absurd (cc)) kept.alone;
      wide = length-set s.words (v.0 + 1) _ ∙ kept.wide;
      further = get_or-set_other s.words (v.0 + 1) 0 _ 0 (λ e. omega arith) ∙ kept.further;
      counted = kept.counted;
      each = λ u lt. dite (ℕ_discrete u.0 v.0)
          (λ e. let wide = kept.wide in let same = var_ext u v e in let ok = kept.each v small in
          subst (λ (x : Var). NameKept (set s.views id after) kept.loop.seen x (get_or kept.loop.counts x.0 0)
          (get_or (set s.words (v.0 + 1) (bit_or (word_of v) 1)) (x.0 + 1) 0)) (sym same)
          (subst (λ (n : ℕ). NameKept (set s.views id after) kept.loop.seen v (get_or kept.loop.counts v.0 0) n)
          (sym (get_or-set_same s.words (v.0 + 1) (bit_or (word_of v) 1) 0 (omega arith)))
          (sent_name s.views (set s.views id after) kept.loop.seen v (get_or kept.loop.counts v.0 0) (word_of v) more (
            id,
            after,
            set_there s.views id after (Sender k) at,
            subst (λ (n : ℕ). Contains (k.tickets ++ new ∷ []) (ticket v n)) epoch_is
                (Contains-push k.tickets new),
          )
          (λ t h. ⊎_elim (λ (e : t ≡ new). inl (e ∙ ap (ticket v) epoch_is)) (λ (old : Has s.views t). inr old) (less t h))
          (none_is_ahead v small) ok)))
          (λ n. subst (λ (w : ℕ). NameKept (set s.views id after) kept.loop.seen u (get_or kept.loop.counts u.0 0) w)
          (sym (get_or-set_other s.words (v.0 + 1) (u.0 + 1) (bit_or (word_of v) 1) 0 (λ e. n (omega arith))))
          (stays s.views (set s.views id after) kept.loop.seen kept.loop.seen u _ _ (λ t is h. more t h)
          (λ t is h. ⊎_elim (λ (e : t ≡ new). absurd (n (ap (λ (x : Var). x.0) (sym is ∙ ap (λ (x : Ticket). x.var) e))))
          (λ (old : Has s.views t). old) (less t h))
          (kept.each u lt).is_seen (none_is_ahead u lt) (kept.each u lt)));
      senders = let c = count_set s.views id (Sender k) after at in let k = kept.senders in omega arith;
    }

seat_at : (s : State ℕ View) (id : ℕ) (me : Me ℕ View) → IsSends me → get_elem? s.views id ≡ some me.0
    → get_elem? s.views id ≡ some (Sender (sender_of me.0))
seat_at s id me is at = at ∙ ap (λ (m : Me ℕ View). some m.0) is

pub sends : (names slots id : ℕ) (me : Me ℕ View) (v : Var) → IsSends me → v.0 < names
    → Allows (Kept names) slots id me (v.0 + 1) (λ n. bit_or n 1) (sent (step slots (v.0 + 1) 1 0 none) me)
sends names slots id me v is small s kept deep at fits =
    let k : SenderView = sender_of me.0 in
    let seat = seat_at s id me is at in
    let n : ℕ = get_or s.words (v.0 + 1) 0 in (
      after names s kept id k seat v small,
      keeps,
      tt,
      send_keeps names s kept id k seat v small,
      λ u e. let same : v ≡ u = var_ext v u (omega arith) in (
        (λ i. (Sender (after_send k (ticket (same i) (n / 2))), (is i).1)),
        (λ t of c. is_latest names s kept id k seat v small t (of ∙ sym same) c),
        subst (λ (x : Var). get_or k.since x.0 0 ≤ n / 2) same (is_since names s kept id k seat v small),
      ),
    )

pub is_sends : (me : Me ℕ View) (k : SenderView) → me ≡ (Sender k, []) → IsSends me
is_sends me k e = e ∙ ap (λ (x : SenderView). (Sender x, [])) (sym (ap (λ (m : Me ℕ View). sender_of m.0) e))
