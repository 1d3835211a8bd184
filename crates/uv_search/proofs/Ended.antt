-- What the keys tell that were seen, where all that has to be is done.
use Rattle.uv_search.proofs.Names.{◌≡◌, ℕ, zero, suc, ◌+◌, ◌-◌, ◌<◌, ◌≤◌, Bool, true, false, ◌⊎◌, inl, inr, List, [], ◌∷◌, ◌++◌, length, refl, sym, subst, length-append, ◌∙◌, Option, Some, nat_eq, arith, pointwise, Has, LeadTo, Answers, CoversMoves, CoversStep, IsApart, IsCovered, AllLead, OneLeads, Never, HoldsNone}
use Rattle.std.specs.List.{IsDistinct}
use Rattle.uv_search.proofs.KeyLists.{number_of}
use Rattle.uv_search.proofs.Held.{Ends, ends_by, same_step, room_for, ends_alike, ends_behind}
use Rattle.uv_search.proofs.Standing.{Done, IsDone, Keeps, here_done, none_made, are_keys}

module _ {P : Type 0} (moves : P → ℕ) (next : P → ℕ → Option (P × Bool)) (key : P → List ℕ) (IsPlace IsDeep : P → Type 0)
    (apart covered : P → ℕ → Bool) (begin : P) (first : List P) (seen : List (List ℕ)) where
  -- the place of a key that was seen, at which all is done
  record IsClosed (k : List ℕ) : Type 0 where
    place : P
    is : key place ≡ k
    good : IsPlace place
    way : List ℕ
    leads : LeadTo moves next begin way place
    done : IsDone moves next key IsPlace IsDeep apart covered begin first seen place

  -- each move there leads to a place whose key was seen, and doesn't answer the question
  abbrev AllTried : P → Type 0
  AllTried w = (i : ℕ) (q : P) (b : Bool) → i < moves w → next w i ≡ Some (q, b) → (b ≡ false) × Has seen (key q)

  -- ---- where no move is held back

  module _ (IsReached : P → Type 0) (alike : (p q : P) → IsReached p → IsPlace q → key p ≡ key q → CoversMoves moves next key p q)
      (leads : (p : P) (i : ℕ) (q : P) (b : Bool) → IsReached p → i < moves p → next p i ≡ Some (q, b) → IsReached q)
      (closed : (k : List ℕ) → Has seen k → (w : P) × (key w ≡ k) × IsPlace w × AllTried w) where
    -- a move from a place with a key that was seen leads to one, and doesn't answer the question
    step : (p : P) (i : ℕ) (q : P) (b : Bool) → IsReached p → Has seen (key p) → i < moves p → next p i ≡ Some (q, b) → (b ≡ false) × Has seen (key q)
    step p i q b good has offered goes =
        let w = closed (key p) has in
        let same = alike p w.0 good w.2 (sym w.1) in
        let s = same_step moves next key q b (next w.0 i) (subst (λ o. CoversStep key o (next w.0 i)) goes (same.1 i offered)) in
        let t = w.3 i s.0 s.1 (subst (λ x. i < x) same.0 offered) s.2 in
        (s.4 ∙ t.0, subst (λ x. Has seen x) (sym s.3) t.1)

    walk : (p : P) (is : List ℕ) (q : P) → IsReached p → Has seen (key p) → LeadTo moves next p is q → IsReached q × Has seen (key q)
    walk p [] q good has e = (subst IsReached (sym e) good, subst (λ x. Has seen (key x)) (sym e) has)
    walk p (i ∷ is) q good has (m, b, offered, goes, rest) =
        walk m is q (leads p i m b good offered goes) (step p i m b good has offered goes).1 rest

    none : (p : P) (is : List ℕ) (i : ℕ) (q : P) → IsReached p → Has seen (key p) → Answers moves next p is i q → ⊥
    none p is i q good has a =
        let w = walk p is a.place good has a.way in
        let t : true ≡ false = (step a.place i q true w.0 w.1 a.offered a.answers).0 in
        cc

  -- ---- where some are

  module _ (IsTold : ℕ → Type 0) (HasRoom : ℕ → P → Type 0) (room : (n : ℕ) (p : P) → IsPlace p → IsTold n → HasRoom n p)
      (fewer : (n : ℕ) (p : P) → HasRoom (suc n) p → HasRoom n p)
      (follows : (n : ℕ) (p : P) (i : ℕ) (q : P) (b : Bool) → HasRoom (suc n) p → i < moves p → next p i ≡ Some (q, b) → HasRoom n q)
      (same : (n : ℕ) (p q : P) → HasRoom (suc n) p → HasRoom (suc n) q → key p ≡ key q → CoversMoves moves next key p q)
      (meet : (n : ℕ) (p : P) (k i : ℕ) → HasRoom (suc (suc n)) p → apart p k ≡ true → k < moves p → i < moves p → (i ≡ k → ⊥)
      → IsApart moves next key apart p k i)
      (covers : (n : ℕ) (p : P) (i : ℕ) → HasRoom (suc n) p → covered p i ≡ true → i < moves p → IsCovered moves next n p i)
      (closed : (k : List ℕ) → Has seen k → IsClosed k) (most : ℕ) (told : IsTold (suc most)) where
    abbrev AreDone : ℕ → P → Type 0
    AreDone h p = Done moves next key IsPlace IsDeep apart covered begin first seen h p

    -- from a kept place so many moves may be made, and one more
    room_at : (n : ℕ) (p : P) → IsPlace p → n ≤ most → HasRoom (suc n) p
    room_at n p good few =
        let more : (most - n) + suc n ≡ suc most = omega (arith, few) in
        room_for moves next key apart HasRoom fewer follows same meet (most - n) (suc n) p
        (subst (λ m. HasRoom m p) (sym more) (room (suc most) p good told))

    less : (k n : ℕ) (w : P) → n ≤ k → HasRoom k w → HasRoom n w
    less k n w few have =
        let more : (k - n) + n ≡ k = omega (arith, few) in
        room_for moves next key apart HasRoom fewer follows same meet (k - n) n w (subst (λ m. HasRoom m w) (sym more) have)

    -- no moves answer from a place that is done, where none do that are fewer
    by : (n : ℕ) → n ≤ most → ((h : ℕ) (p : P) (is : List ℕ) → length is < n → IsPlace p → AreDone h p → Ends moves next p is → ⊥)
        → (h : ℕ) (p : P) (is : List ℕ) → length is ≤ n → IsPlace p → AreDone h p → Ends moves next p is → ⊥
    by n few before zero p [] l good d ends = ends
    by n few before zero p (i ∷ is) l good d ends = over (suc i) i (omega arith) is l ends where
      offered_of : (j : ℕ) (js : List ℕ) → Ends moves next p (j ∷ js) → j < moves p
      offered_of j [] e = e.1
      offered_of j (k ∷ ks) e = e.2

      -- a move that isn't covered was tried
      bare : (j : ℕ) (js : List ℕ) → length (j ∷ js) ≤ n → covered p j ≡ false → Ends moves next p (j ∷ js) → ⊥
      bare j [] l un (q, offered, goes) =
          let no : true ≡ false = (d j offered offered un q true goes).0 in
          cc
      bare j (k ∷ ks) l un (q, b, offered, goes, rest) =
          let w = closed (key q) (d j offered offered un q b goes).1 in
          let m = length ks in
          let from : HasRoom (suc (suc m)) p = less (suc n) (suc (suc m)) p (omega (arith, l)) (room_at n p good few) in
          let there : HasRoom (suc m) q = follows (suc m) p j q b from offered goes in
          let here : HasRoom (suc m) w.place = less (suc n) (suc m) w.place (omega (arith, l)) (room_at n w.place w.good few) in
          before w.done.0 w.place (k ∷ ks) (omega (arith, l)) w.good w.done.1
          (ends_alike moves next key apart HasRoom fewer follows same meet (k ∷ ks) q w.place there here (sym w.is) rest)

      -- one that is covered is by one of a smaller number
      over : (most j : ℕ) → j < most → (js : List ℕ) → length (j ∷ js) ≤ n → Ends moves next p (j ∷ js) → ⊥
      over zero j below js l ends = absurd (omega (arith, below))
      over (suc most) j below js l ends = by_cover (over most) (covered p j) refl where
        by_cover : ((i : ℕ) → i < most → (is : List ℕ) → length (i ∷ is) ≤ n → Ends moves next p (i ∷ is) → ⊥) → (c : Bool) → covered p j ≡ c → ⊥
        by_cover again false is = bare j js l is ends
        by_cover again true is =
            let k = length js in
            let from : HasRoom (suc k) p = less (suc n) (suc k) p (omega (arith, l)) (room_at n p good few) in
            let other = covers k p j from is (offered_of j js ends) js (omega arith) ends in
            again other.0 (omega (arith, below, other.2)) other.1 (omega (arith, l, other.3)) other.4
    by n few before (suc h) p is l good (number, m, w, first_apart, offered, goes, alike, fine, d, has) ends =
        let k = length is in
        let from : HasRoom (suc k) p = less (suc n) (suc k) p (omega (arith, l)) (room_at n p good few) in
        let there : HasRoom k m = follows k p number m false from offered goes in
        let here : HasRoom k w = less (suc n) k w (omega (arith, l)) (room_at n w fine few) in
        behind (by n few before h) k l there here alike fine d
        (ends_behind moves next key apart HasRoom fewer follows same meet is p m number false from first_apart offered goes ends)
      where
        behind : ((v : P) (js : List ℕ) → length js ≤ n → IsPlace v → AreDone h v → Ends moves next v js → ⊥) → (k : ℕ) → k ≤ n → HasRoom k m →
            HasRoom k w → key m ≡ key w → IsPlace w → AreDone h w
            → ((false ≡ true) ⊎ ((js : List ℕ) × (length js ≤ k) × Ends moves next m js)) → ⊥
        behind again k l there here alike fine d (inl answers) = absurd (let f : false ≡ true = answers in cc)
        behind again k l there here alike fine d (inr (js, short, more)) =
            again w js (omega (arith, l, short)) fine d
            (ends_alike moves next key apart HasRoom fewer follows same meet js m w (less k (length js) m short there)
            (less k (length js) w short here)
            alike more)

    none_told : (n : ℕ) → n ≤ suc most → (h : ℕ) (p : P) (is : List ℕ) → length is < n → IsPlace p → AreDone h p → Ends moves next p is → ⊥
    none_told zero few h p is l = absurd (omega (arith, l))
    none_told (suc n) few h p is l = by n (omega (arith, few)) (none_told n (omega (arith, few))) h p is (omega (arith, l))

module _ {P : Type 0} (moves : P → ℕ) (next : P → ℕ → Option (P × Bool)) (key : P → List ℕ) (IsPlace IsDeep : P → Type 0)
    (apart covered : P → ℕ → Bool) (begin : P) (first : List P) (IsReached : P → Type 0)
    (alike : (p q : P) → IsReached p → IsPlace q → key p ≡ key q → CoversMoves moves next key p q)
    (stands : (p : P) → IsPlace p → IsReached p)
    (leads : (p : P) (i : ℕ) (q : P) (b : Bool) → IsReached p → i < moves p → next p i ≡ Some (q, b) → IsReached q)
    (IsTold : ℕ → Type 0) (HasRoom : ℕ → P → Type 0) (room : (n : ℕ) (p : P) → IsPlace p → IsTold n → HasRoom n p)
    (fewer : (n : ℕ) (p : P) → HasRoom (suc n) p → HasRoom n p)
    (follows : (n : ℕ) (p : P) (i : ℕ) (q : P) (b : Bool) → HasRoom (suc n) p → i < moves p → next p i ≡ Some (q, b) → HasRoom n q)
    (same : (n : ℕ) (p q : P) → HasRoom (suc n) p → HasRoom (suc n) q → key p ≡ key q → CoversMoves moves next key p q)
    (meet : (n : ℕ) (p : P) (k i : ℕ) → HasRoom (suc (suc n)) p → apart p k ≡ true → k < moves p → i < moves p → (i ≡ k → ⊥)
    → IsApart moves next key apart p k i)
    (covers : (n : ℕ) (p : P) (i : ℕ) → HasRoom (suc n) p → covered p i ≡ true → i < moves p → IsCovered moves next n p i) where
  -- all is done at the beginning, and so at each place that is kept
  pub ended : {seen : List (List ℕ)} {done : List Bool} {cs : List ℕ} {ps : List P} {p : P} {here n : ℕ}
      → Keeps moves next key IsPlace IsDeep apart covered begin first seen done [] cs ps p here n → moves p ≤ n → IsPlace p
      → IsDistinct (pointwise nat_eq) seen → Never moves next key IsDeep apart covered IsTold begin (length seen)
  ended {seen} {done} {cs} {ps} {p} {here} {n} k all good distinct = record {
    none = told;
    keys = seen;
    are = are_keys moves next key IsPlace IsDeep apart covered begin first k distinct;
    closed = record { begins = k.begun; each = λ x has. (let w = closed x has in (w.way, w.place, w.leads, w.is, looked w.place w.done)) };
    whole = λ holds. record {
      none = λ is i q. none moves next key IsPlace IsDeep apart covered begin first seen IsReached alike leads (tried holds) begin is i q
          (stands begin standing) k.begun;
      all = λ is q way. (walk moves next key IsPlace IsDeep apart covered begin first seen IsReached alike leads (tried holds) begin is q
          (stands begin standing) k.begun way).1;
    };
  }
    where
      at_begin : p ≡ begin
      at_begin = (none_made moves next key IsPlace IsDeep apart covered begin first k).0

      standing : IsPlace begin
      standing = subst IsPlace at_begin good

      done_here : IsDone moves next key IsPlace IsDeep apart covered begin first seen p
      done_here = here_done moves next key IsPlace IsDeep apart covered begin first k all

      closed : (x : List ℕ) → Has seen x → IsClosed moves next key IsPlace IsDeep apart covered begin first seen x
      closed x has =
          let at = number_of seen x has in
          let w = k.known at.0 x at.1 in
          record {
            place = w.place;
            is = w.is;
            good = w.good;
            way = w.way;
            leads = w.leads;
            done = elim w.done [
              | inl d ↦ d
              | inr on ↦ subst (IsDone moves next key IsPlace IsDeep apart covered begin first seen) (sym on.0) done_here
            ];
          }

      looked : (w : P) → IsDone moves next key IsPlace IsDeep apart covered begin first seen w
          → AllLead moves next key IsDeep apart covered IsTold seen w ⊎ OneLeads moves next key IsDeep apart covered IsTold seen w
      looked w (zero, d) = inl (λ i q b offered bare goes. d i offered offered bare q b goes)
      looked w (suc h, (i, m, v, is, offered, goes, same_key, fine, d, has)) = inr (i, m, offered, is, goes, has)

      tried : HoldsNone moves next key IsDeep apart covered IsTold begin → (x : List ℕ) → Has seen x
          → (w : P) × (key w ≡ x) × IsPlace w × AllTried moves next key IsPlace IsDeep apart covered begin first seen w
      tried holds x has =
          let w = closed x has in (w.place, w.is, w.good, by w.place (λ number. holds w.way w.place number w.leads) w.done)
        where
          by : (w : P) → ((number : ℕ) → (apart w number ≡ false) × (covered w number ≡ false))
              → IsDone moves next key IsPlace IsDeep apart covered begin first seen w
              → AllTried moves next key IsPlace IsDeep apart covered begin first seen w
          by w none (zero, d) = λ i q b offered goes. d i offered offered (none i).1 q b goes
          by w none (suc h, (number, m, v, is, offered, goes, same_key, good, d, has)) =
              absurd (let f : true ≡ false = sym is ∙ (none number).0 in cc)

      told : (is : List ℕ) (i : ℕ) (q : P) → IsTold (length is + 2) → Answers moves next begin is i q → ⊥
      told is i q t a =
          let w = closed (key begin) k.begun in
          let long : length (is ++ i ∷ []) ≡ length is + 1 = omega (arith, length-append is (i ∷ [])) in
          let most : length is + 2 ≡ suc (length is + 1) = omega arith in
          let ways = ends_by moves next begin is a.place i q a.way a.offered a.answers in
          let told_so = subst IsTold most t in
          let far : HasRoom (length (is ++ i ∷ [])) begin = fewer (length (is ++ i ∷ [])) begin
          (subst (λ m. HasRoom (suc m) begin) (sym long) (room (suc (length is + 1)) begin standing told_so)) in
          let near : HasRoom (length (is ++ i ∷ [])) w.place = fewer (length (is ++ i ∷ [])) w.place
          (subst (λ m. HasRoom (suc m) w.place) (sym long) (room (suc (length is + 1)) w.place w.good told_so)) in
          none_told moves next key IsPlace IsDeep apart covered begin first seen IsTold HasRoom room fewer follows same meet covers closed
          (length is + 1) told_so
          (suc (length is + 1)) (omega arith) w.done.0 w.place (is ++ i ∷ []) (omega (arith, long)) w.good w.done.1
          (ends_alike moves next key apart HasRoom fewer follows same meet (is ++ i ∷ []) begin w.place far near (sym w.is) ways)
