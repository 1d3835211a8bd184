-- Moves that are made one after another, and taken back.
use Rattle.uv_search.proofs.Names.{◌≡◌, ℕ, zero, suc, ◌+◌, ◌<◌, ◌≤◌, Bool, true, false, List, [], ◌∷◌, ◌++◌, length, take, drop, refl, sym, ap, ap₂, subst, length-append, ◌∙◌, Option, Some, None, arith, get_or, inl, inr, take_more, LeadTo, LeadPast, IsMade, Tries, Has, IsPassed, IsWay}
use Rattle.uv_search.specs.declared.shortening.Tried.TheVariants as tried

module _ {X : Type 0} where
  -- one more is dropped
  drop_suc : (n : ℕ) (xs : List X) (x y : X) (rest more : List X) → drop n xs ≡ x ∷ rest → rest ≡ y ∷ more → drop (suc n) xs ≡ y ∷ more
  drop_suc zero [] x y rest more e is = cc
  drop_suc zero (z ∷ zs) x y rest more e is = let tail : zs ≡ rest = cc in tail ∙ is
  drop_suc (suc n) [] x y rest more e is = cc
  drop_suc (suc n) (z ∷ zs) x y rest more e is = drop_suc n zs x y rest more e is

  pub drop_next : (n : ℕ) (xs : List X) (x y : X) (rest more : List X) → drop n xs ≡ x ∷ rest → rest ≡ y ∷ more → drop (n + 1) xs ≡ y ∷ more
  drop_next n xs x y rest more e is =
      let one : n + 1 ≡ suc n = omega arith in
      rw one (drop_suc n xs x y rest more e is)

  -- how many are left
  pub some_left : (n : ℕ) (y : X) (xs rest : List X) → drop n xs ≡ y ∷ rest → length rest + n + 1 ≡ length xs
  some_left zero y [] rest e = absurd (let f : ⊥ = cc in f)
  some_left zero y (x ∷ xs) rest e = let tail : xs ≡ rest = cc in rw tail (omega arith)
  some_left (suc n) y [] rest e = absurd (let f : ⊥ = cc in f)
  some_left (suc n) y (x ∷ xs) rest e = let more = some_left n y xs rest e in omega arith

-- two that are behind the same
pub went_back : {X : Type 0} {all xs ys : List X} {x y : X} → all ≡ x ∷ xs → all ≡ y ∷ ys → (x ≡ y) × (xs ≡ ys)
went_back e f = (cc, cc)

pub take_whole : (xs : List ℕ) (n : ℕ) → length xs ≤ n → take n xs ≡ xs
take_whole [] zero l = refl
take_whole [] (suc n) l = refl
take_whole (x ∷ xs) zero l = absurd (omega arith)
take_whole (x ∷ xs) (suc n) l = ap (λ ys. x ∷ ys) (take_whole xs n (omega arith))

-- two lists with one more at their ends
last_same : (xs ys : List ℕ) (x y : ℕ) → xs ++ x ∷ [] ≡ ys ++ y ∷ [] → (xs ≡ ys) × (x ≡ y)
last_same [] [] x y e = let same : x ≡ y = cc in (refl, same)
last_same [] (b ∷ bs) x y e =
    let tail : [] ≡ bs ++ y ∷ [] = cc in
    absurd (omega (arith, ap length tail, length-append bs (y ∷ [])))
last_same (a ∷ as1) [] x y e =
    let tail : as1 ++ x ∷ [] ≡ [] = cc in
    absurd (omega (arith, ap length tail, length-append as1 (x ∷ [])))
last_same (a ∷ as1) (b ∷ bs) x y e =
    let head : a ≡ b = cc in
    let tail : as1 ++ x ∷ [] ≡ bs ++ y ∷ [] = cc in
    let more = last_same as1 bs x y tail in
    (ap₂ (λ h t. h ∷ t) head more.0, more.1)

module _ {P : Type 0} (moves : P → ℕ) (next : P → ℕ → Option (P × Bool)) where
  -- one move more behind
  pub leads_on : (a : P) (is : List ℕ) (q m : P) (j : ℕ) (b : Bool) → LeadTo moves next a is q → j < moves q → next q j ≡ Some (m, b)
      → LeadTo moves next a (is ++ j ∷ []) m
  leads_on a [] q m j b e l n = (m, b, subst (λ x. j < moves x) e l, subst (λ x. next x j ≡ Some (m, b)) e n, refl)
  leads_on a (i ∷ is) q m j b (r, c, at, goes, rest) l n = (r, c, at, goes, leads_on r is q m j b rest l n)

  -- where one stands after moves that were made from a place, each of which can be taken back
  pub record Stands (p : P) (ps : List P) (is : List ℕ) (q : P) (qs : List P) : Type 0 where
    pub led : LeadTo moves next p is q
    pub before : drop (length is) (q ∷ qs) ≡ p ∷ ps

  one_longer : (is : List ℕ) (i : ℕ) → length (is ++ i ∷ []) ≡ suc (length is)
  one_longer is i = omega (arith, length-append is (i ∷ []))

  -- a move more behind them
  pub stands_on : (b : Bool) (p : P) (ps : List P) (is : List ℕ) (q : P) (qs : List P) (i : ℕ) (s : P) (ss : List P) (js : List ℕ)
      → Stands p ps is q qs → IsMade moves next b i q qs is s ss js → Stands p ps js s ss
  stands_on b p ps is q qs i s ss js st m = rw (m.made, m.before) record {
    led = leads_on p is q s i b st.led m.offered m.leads;
    before = rw (one_longer is i) st.before;
  }

  pub stands_after : (IsDeep : P → Type 0) (p : P) (ps : List P) (is : List ℕ) (q : P) (qs : List P) (i : ℕ) (s : P) (ss : List P) (js : List ℕ)
      → Stands p ps is q qs → Tries moves next IsDeep tried.GoesOn i q qs is s ss js → Stands p ps js s ss × (length js ≤ length is + 1)
  stands_after IsDeep p ps is q qs i s ss js st (inl m) =
      (stands_on false p ps is q qs i s ss js st m, omega (arith, ap length m.made, one_longer is i))
  stands_after IsDeep p ps is q qs i s ss js st (inr (refused, (place, before, made))) =
      (rw (place, before, made) st, omega (arith, ap length made))

  pub past_after : (IsDeep : P → Type 0) (p : P) (way : List ℕ) (q : P) (qs : List P) (is : List ℕ) (i : ℕ) (s : P) (ss : List P) (js : List ℕ)
      → LeadPast moves next p way q → Tries moves next IsDeep tried.GoesOn i q qs is s ss js → LeadPast moves next p (way ++ i ∷ []) s
  past_after IsDeep p [] q qs is i s ss js e (inl m) =
      inl (s, subst (λ x. i < moves x) e m.offered, subst (λ x. next x i ≡ Some (s, false)) e m.leads, refl)
  past_after IsDeep p [] q qs is i s ss js e (inr (refused, (place, before, made))) =
      inr (subst (λ x. i < moves x → next x i ≡ None) e refused, place ∙ e)
  past_after IsDeep p (k ∷ ks) q qs is i s ss js (inl (m, offered, goes, rest)) t =
      inl (m, offered, goes, past_after IsDeep m ks q qs is i s ss js rest t)
  past_after IsDeep p (k ∷ ks) q qs is i s ss js (inr (refused, rest)) t = inr (refused, past_after IsDeep p ks q qs is i s ss js rest t)

  -- the first moves of a way, with one more
  pub leads_further : (a : P) (way : List ℕ) (n : ℕ) (q m : P) (b : Bool) → n < length way → LeadTo moves next a (take n way) q
      → get_or way n 0 < moves q → next q (get_or way n 0) ≡ Some (m, b) → LeadTo moves next a (take (n + 1) way) m
  leads_further a way n q m b l led offered goes =
      subst (λ is. LeadTo moves next a is m) (sym (take_more way n 0 l)) (leads_on a (take n way) q m (get_or way n 0) b led offered goes)

  pub answers_further : (key : P → List ℕ) (IsDeep : P → Type 0) (a : P) (way : List ℕ) (n : ℕ) (q m : P) → n < length way
      → LeadTo moves next a (take n way) q → get_or way n 0 < moves q → next q (get_or way n 0) ≡ Some (m, true)
      → IsWay moves next key IsDeep a (take (n + 1) way) m
  answers_further key IsDeep a way n q m l led offered goes =
      (take n way, get_or way n 0, take_more way n 0 l, record { place = q; way = led; offered = offered; answers = goes })

  -- ---- a way that answers is gone again

  same_next : (p m n : P) (i : ℕ) (b c : Bool) → next p i ≡ Some (m, b) → next p i ≡ Some (n, c) → (m ≡ n) × (b ≡ c)
  same_next p m n i b c e f =
      let one : ◌≡◌ {A = Option (P × Bool)} (Some (m, b)) (Some (n, c)) = sym e ∙ f in
      let pair : ◌≡◌ {A = P × Bool} (m, b) (n, c) = cc in
      (ap (λ x. x.0) pair, ap (λ x. x.1) pair)

  -- the same moves lead to the same place
  same_place : (p : P) (is : List ℕ) (m n : P) → LeadTo moves next p is m → LeadTo moves next p is n → m ≡ n
  same_place p [] m n e f = e ∙ sym f
  same_place p (i ∷ is) m n (s, b, o, goes, rest) (t, c, q, went, more) =
      same_place t is m n (subst (λ x. LeadTo moves next x is m) (same_next p s t i b c goes went).0 rest) more

  -- where the first moves of a way led, the next one is offered and accepted
  lead_at : (p : P) (way : List ℕ) (n : ℕ) (m q : P) → LeadTo moves next p way q → n < length way → LeadTo moves next p (take n way) m
      → (get_or way n 0 < moves m) × ((s : P) × (b : Bool) × (next m (get_or way n 0) ≡ Some (s, b)))
  lead_at p [] n m q way l led = absurd (omega arith)
  lead_at p (i ∷ is) zero m q (s, b, offered, goes, rest) l led =
      (subst (λ x. i < moves x) (sym led) offered, (s, b, subst (λ x. next x i ≡ Some (s, b)) (sym led) goes))
  lead_at p (i ∷ is) (suc n) m q (s, b, offered, goes, rest) l (t, c, o, went, more) =
      lead_at s is n m q rest (omega arith) (subst (λ x. LeadTo moves next x (take n is) m) (sym (same_next p s t i b c goes went).0) more)

  module _ (key : P → List ℕ) (IsDeep : P → Type 0) where
    pub whole : (p : P) (way : List ℕ) (q : P) → IsWay moves next key IsDeep p way q → LeadTo moves next p way q
    whole p way q (is, i, e, a) =
        subst (λ xs. LeadTo moves next p xs q) (sym e) (leads_on p is a.place q i true a.way a.offered a.answers)

    pub not_refused : (p : P) (way : List ℕ) (n : ℕ) (m q : P) → n < length way → LeadTo moves next p (take n way) m
        → next m (get_or way n 0) ≡ None → IsWay moves next key IsDeep p way q → ⊥
    not_refused p way n m q l led none w =
        let at = lead_at p way n m q (whole p way q w) l led in
        let e : ◌≡◌ {A = Option (P × Bool)} None (Some (at.1.0, at.1.1)) = sym none ∙ at.1.2 in
        cc

    pub not_beyond : (p : P) (way : List ℕ) (n : ℕ) (m q : P) → n < length way → LeadTo moves next p (take n way) m
        → moves m ≤ get_or way n 0 → IsWay moves next key IsDeep p way q → ⊥
    not_beyond p way n m q l led beyond w =
        let at = lead_at p way n m q (whole p way q w) l led in
        omega (arith, at.0)

    -- moves with one more that doesn't answer
    pub mute_more : (p : P) (way : List ℕ) (n : ℕ) (m s q : P) → n < length way → LeadTo moves next p (take n way) m
        → next m (get_or way n 0) ≡ Some (s, false) → IsWay moves next key IsDeep p (take (n + 1) way) q → ⊥
    mute_more p way n m s q l led goes (is, i, e, a) =
        let one = last_same (take n way) is (get_or way n 0) i (sym (take_more way n 0 l) ∙ e) in
        let place = same_place p (take n way) m a.place led (subst (λ xs. LeadTo moves next p xs a.place) (sym one.0) a.way) in
        let went : next a.place i ≡ Some (s, false) = subst (λ x. next x i ≡ Some (s, false)) place
        (subst (λ j. next m j ≡ Some (s, false)) one.1 goes) in
        let no : true ≡ false = (same_next a.place q s i true false a.answers went).1 in
        cc

    -- one move more, away from a place whose key was seen
    pub passed_more : (seen : List (List ℕ)) (a : P) (is : List ℕ) (q : P) (j : ℕ) → LeadTo moves next a is q
        → IsPassed moves next key IsDeep seen a is → Has seen (key q) → IsPassed moves next key IsDeep seen a (is ++ j ∷ [])
    passed_more seen a [] q j e passed has = (subst (λ x. Has seen (key x)) e has, λ m b goes. tt)
    passed_more seen a (i ∷ is) q j (r, c, at, goes, rest) passed has = (
      passed.0,
      λ m b other.
          let one : Some (r, c) ≡ Some (m, b) = sym goes ∙ other in
          let pair : ◌≡◌ {A = P × Bool} (r, c) (m, b) = cc in
          subst (λ x. IsPassed moves next key IsDeep seen x (is ++ j ∷ [])) (ap (λ x. x.0) pair)
          (passed_more seen r is q j rest (passed.1 r c goes) has),
    )

    -- with more keys
    pub passed_kept : (seen more : List (List ℕ)) → ((k : List ℕ) → Has seen k → Has more k) → (a : P) (is : List ℕ)
        → IsPassed moves next key IsDeep seen a is → IsPassed moves next key IsDeep more a is
    passed_kept seen more all a [] passed = tt
    passed_kept seen more all a (i ∷ is) passed = (all (key a) passed.0, λ m b goes. passed_kept seen more all m is (passed.1 m b goes))

    pub passed_further : (seen : List (List ℕ)) (a : P) (way : List ℕ) (n : ℕ) (q : P) → n < length way → LeadTo moves next a (take n way) q
        → IsPassed moves next key IsDeep seen a (take n way) → Has seen (key q) → IsPassed moves next key IsDeep seen a (take (n + 1) way)
    passed_further seen a way n q l led passed has =
        subst (λ is. IsPassed moves next key IsDeep seen a is) (sym (take_more way n 0 l))
        (passed_more seen a (take n way) q (get_or way n 0) led passed has)
