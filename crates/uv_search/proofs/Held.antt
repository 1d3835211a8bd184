-- Where a move is apart from all others these may be held back: an answer behind them is one behind it.
use Rattle.uv_search.proofs.Names.{◌≡◌, ℕ, zero, suc, ◌+◌, ◌-◌, ◌==◌, ◌<◌, ◌≤◌, Bool, true, false, ◌||◌, ◌⊎◌, inl, inr, List, [], ◌∷◌, ◌++◌, length, refl, sym, ap, subst, ◌∙◌, Option, Some, None, arith, LeadTo, CoversMoves, CoversStep, Meet, IsApart}
use Rattle.std.proofs.lemmas.Bool.{eq-eqb, eqb-true}
use Rattle.uv_search.specs.Ways as ways

module _ {P : Type 0} (moves : P → ℕ) (next : P → ℕ → Option (P × Bool)) where
  abbrev pub Ends : P → List ℕ → Type 0
  Ends p is = ways.Ends moves next p is

  ends_more : (p : P) (i : ℕ) (m : P) (b : Bool) (is : List ℕ) → i < moves p → next p i ≡ Some (m, b) → Ends m is → Ends p (i ∷ is)
  ends_more p i m b [] offered goes ends = absurd ends
  ends_more p i m b (j ∷ js) offered goes ends = (m, b, offered, goes, ends)

  pub ends_by : (p : P) (is : List ℕ) (s : P) (i : ℕ) (q : P) → LeadTo moves next p is s → i < moves s → next s i ≡ Some (q, true)
      → Ends p (is ++ i ∷ [])
  ends_by p [] s i q led offered goes =
      (q, subst (λ x. i < moves x) led offered, subst (λ x. next x i ≡ Some (q, true)) led goes)
  ends_by p (j ∷ js) s i q (m, b, o, g, rest) offered goes = ends_more p j m b (js ++ i ∷ []) o g (ends_by m js s i q rest offered goes)

  same_next : (p m n : P) (i : ℕ) (b c : Bool) → next p i ≡ Some (m, b) → next p i ≡ Some (n, c) → (m ≡ n) × (b ≡ c)
  same_next p m n i b c e f =
      let one : ◌≡◌ {A = Option (P × Bool)} (Some (m, b)) (Some (n, c)) = sym e ∙ f in
      let pair : ◌≡◌ {A = P × Bool} (m, b) (n, c) = cc in
      (ap (λ x. x.0) pair, ap (λ x. x.1) pair)

  module _ (key : P → List ℕ) where
    -- a step that does the same as one that leads somewhere
    pub same_step : (m : P) (b : Bool) (o : Option (P × Bool)) → CoversStep key (Some (m, b)) o
        → (n : P) × (c : Bool) × (o ≡ Some (n, c)) × (key m ≡ key n) × (b ≡ c)
    same_step m b (Some (n, c)) s = (n, c, refl, s.0, s.1)
    same_step m b None s = elim s [ ]

    module _ (apart : P → ℕ → Bool) (HasRoom : ℕ → P → Type 0) (fewer : (n : ℕ) (p : P) → HasRoom (suc n) p → HasRoom n p)
        (follows : (n : ℕ) (p : P) (i : ℕ) (q : P) (b : Bool) → HasRoom (suc n) p → i < moves p → next p i ≡ Some (q, b) → HasRoom n q)
        (same : (n : ℕ) (p q : P) → HasRoom (suc n) p → HasRoom (suc n) q → key p ≡ key q → CoversMoves moves next key p q)
        (meet : (n : ℕ) (p : P) (k i : ℕ) → HasRoom (suc (suc n)) p → apart p k ≡ true → k < moves p → i < moves p → (i ≡ k → ⊥)
        → IsApart moves next key apart p k i) where
      pub room_for : (k n : ℕ) (p : P) → HasRoom (k + n) p → HasRoom n p
      room_for zero n p room = let none : 0 + n ≡ n = omega arith in subst (λ k. HasRoom k p) none room
      room_for (suc k) n p room = let one : suc k + n ≡ suc (k + n) = omega arith in room_for k n p
          (fewer (k + n) p (subst (λ m. HasRoom m p) one room))

      -- what moves do at a place, they do at one that has the same key
      pub ends_alike : (is : List ℕ) (p q : P) → HasRoom (length is) p → HasRoom (length is) q → key p ≡ key q → Ends p is → Ends q is
      ends_alike [] p q rp rq e ends = ends
      ends_alike (i ∷ []) p q rp rq e (m, offered, goes) =
          let c = same 0 p q rp rq e in
          let s = same_step m true (next q i) (subst (λ o. CoversStep key o (next q i)) goes (c.1 i offered)) in
          (s.0, subst (λ x. i < x) c.0 offered, s.2 ∙ ap (λ b. Some (s.0, b)) (sym s.4))
      ends_alike (i ∷ j ∷ js) p q rp rq e (m, b, offered, goes, rest) =
          let n = length js in
          let c = same (suc n) p q rp rq e in
          let s = same_step m b (next q i) (subst (λ o. CoversStep key o (next q i)) goes (c.1 i offered)) in
          let there = subst (λ x. i < x) c.0 offered in (
            s.0,
            s.1,
            there,
            s.2,
            ends_alike (j ∷ js) m s.0 (follows (suc n) p i m b rp offered goes) (follows (suc n) q i s.0 s.1 rq there s.2) s.3
                rest,
          )

      -- the first move answers, or the other one does behind it
      or_behind : (m q : P) (b c : Bool) (x : Meet moves next key apart m b q c) → (c || x.d) ≡ true → (n : ℕ)
          → (b ≡ true) ⊎ ((js : List ℕ) × (length js ≤ suc n) × Ends m js)
      or_behind m q true c x some n = inl refl
      or_behind m q false c x some n =
          inr (x.behind ∷ [], omega arith, (x.end, x.stays, x.comes ∙ ap (λ e. Some (x.end, e)) (x.answers some)))

      true_or : (b : Bool) → (b || true) ≡ true
      true_or true = refl
      true_or false = refl

      one_or_other : (i k : ℕ) → (i ≡ k) ⊎ (i ≡ k → ⊥)
      one_or_other i k = by (i == k) refl where
        by : (b : Bool) → (i == k) ≡ b → (i ≡ k) ⊎ (i ≡ k → ⊥)
        by true e = inl (eqb-true i k e)
        by false e = inr (λ f. (let t : true ≡ false = sym (eq-eqb i k f) ∙ e in cc))

      -- a move that is apart answers, or behind it as many moves do
      pub ends_behind : (is : List ℕ) (p m : P) (k : ℕ) (b : Bool) → HasRoom (suc (length is)) p → apart p k ≡ true → k < moves p
          → next p k ≡ Some (m, b) → Ends p is → (b ≡ true) ⊎ ((js : List ℕ) × (length js ≤ length is) × Ends m js)
      ends_behind [] p m k b room first offered goes ends = absurd ends
      ends_behind (i ∷ []) p m k b room first offered goes (q, o, g) = elim (one_or_other i k) [
        | inl one ↦ inl (same_next p m q k b true goes (subst (λ j. next p j ≡ Some (q, true)) one g)).1
        | inr two ↦ or_behind m q b true (meet 0 p k i room first offered o two m q b true goes g) refl 0
      ]
      ends_behind (i ∷ j ∷ js) p m k b room first offered goes (q, c, o, g, rest) = elim (one_or_other i k) [
        | inl one ↦ (let there = subst (λ x. next p x ≡ Some (q, c)) one g in
            inr (j ∷ js, omega arith, subst (λ x. Ends x (j ∷ js)) (sym (same_next p m q k b c goes there).0) rest))
        | inr two ↦ (let n = length js in
            let x = meet (suc n) p k i room first offered o two m q b c goes g in
            let there = follows (suc (suc n)) p i q c room o g in
            let here = follows (suc (suc n)) p k m b room offered goes in
            by x there here (ends_behind (j ∷ js) q x.last x.late x.d there x.still x.offered x.goes rest))
      ]
        where
          by : (x : Meet moves next key apart m b q c) → HasRoom (suc (suc (length js))) q → HasRoom (suc (suc (length js))) m
              → ((x.d ≡ true) ⊎ ((ks : List ℕ) × (length ks ≤ suc (length js)) × Ends x.last ks))
              → (b ≡ true) ⊎ ((ks : List ℕ) × (length ks ≤ suc (suc (length js))) × Ends m ks)
          by x there here (inl last) = or_behind m q b c x (ap (λ d. c || d) last ∙ true_or c) (suc (length js))
          by x there here (inr (ks, few, ends)) =
              let n = length js in
              let most = suc n in
              let behind_other : HasRoom most x.last = follows most q x.late x.last x.d there x.offered x.goes in
              let behind_first : HasRoom most x.end = follows most m x.behind x.end x.e here x.stays x.comes in
              inr (
                x.behind ∷ ks,
                omega (arith, few),
                ends_more m x.behind x.end x.e ks x.stays x.comes
                    (ends_alike ks x.last x.end (less most ks x.last few behind_other) (less most ks x.end few behind_first) x.same ends),
              )
            where
              less : (most : ℕ) (ks : List ℕ) (w : P) → length ks ≤ most → HasRoom most w → HasRoom (length ks) w
              less most ks w few room =
                  let more : (most - length ks) + length ks ≡ most = omega (arith, few) in
                  room_for (most - length ks) (length ks) w (subst (λ n. HasRoom n w) (sym more) room)
