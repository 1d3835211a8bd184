-- Items in pieces, index by index.
use Rattle.uv_raw.proofs.Names.{◌≡◌, ℕ, ◌+◌, ◌*◌, ◌<◌, ◌≤◌, List, [], ◌∷◌, ◌++◌, length, take, set, slice_get, Some, refl, sym, ap, ◌∙◌, subst, arith, take-append-drop, length-drop, length-append, suc-mul, mul-suc, zero-mul, Row, flat, IsLaid}
use Rattle.std.proofs.Common.{zero, suc, drop}
use Rattle.uv_raw.specs.Row.{row}

module _ {X : Type 0} where
  get-take : (n : ℕ) (xs : List X) (i : ℕ) → i < n → slice_get (take n xs) i ≡ slice_get xs i
  get-take zero xs i h = absurd (omega arith)
  get-take (suc n) [] i h = refl
  get-take (suc n) (x ∷ xs) zero h = refl
  get-take (suc n) (x ∷ xs) (suc i) h = get-take n xs i (omega arith)

  get-drop : (n : ℕ) (xs : List X) (i m : ℕ) → i ≡ n + m → slice_get (drop n xs) m ≡ slice_get xs i
  get-drop zero xs i m e = let same : m ≡ i = omega arith in ap (slice_get xs) same
  get-drop (suc n) [] i m e = refl
  get-drop (suc n) (x ∷ xs) zero m e = absurd (omega arith)
  get-drop (suc n) (x ∷ xs) (suc i) m e = get-drop n xs i m (omega arith)

  take-set : (n : ℕ) (xs : List X) (i : ℕ) (v : X) → i < n → take n (set xs i v) ≡ set (take n xs) i v
  take-set zero xs i v h = absurd (omega arith)
  take-set (suc n) [] i v h = refl
  take-set (suc n) (x ∷ xs) zero v h = refl
  take-set (suc n) (x ∷ xs) (suc i) v h = ap (λ l. x ∷ l) (take-set n xs i v (omega arith))

  drop-set : (n : ℕ) (xs : List X) (i : ℕ) (v : X) → i < n → drop n (set xs i v) ≡ drop n xs
  drop-set zero xs i v h = absurd (omega arith)
  drop-set (suc n) [] i v h = refl
  drop-set (suc n) (x ∷ xs) zero v h = refl
  drop-set (suc n) (x ∷ xs) (suc i) v h = drop-set n xs i v (omega arith)

  take-set_past : (n : ℕ) (xs : List X) (i m : ℕ) (v : X) → i ≡ n + m → take n (set xs i v) ≡ take n xs
  take-set_past zero xs i m v e = refl
  take-set_past (suc n) [] i m v e = refl
  take-set_past (suc n) (x ∷ xs) zero m v e = absurd (omega arith)
  take-set_past (suc n) (x ∷ xs) (suc i) m v e = ap (λ l. x ∷ l) (take-set_past n xs i m v (omega arith))

  drop-set_past : (n : ℕ) (xs : List X) (i m : ℕ) (v : X) → i ≡ n + m → drop n (set xs i v) ≡ set (drop n xs) m v
  drop-set_past zero xs i m v e = let same : i ≡ m = omega arith in ap (λ k. set xs k v) same
  drop-set_past (suc n) [] i m v e = refl
  drop-set_past (suc n) (x ∷ xs) zero m v e = absurd (omega arith)
  drop-set_past (suc n) (x ∷ xs) (suc i) m v e = drop-set_past n xs i m v (omega arith)

  pub some_at : (xs : List X) (i : ℕ) → i < length xs → (x : X) × (slice_get xs i ≡ Some x)
  some_at [] i h = absurd (omega arith)
  some_at (x ∷ xs) zero h = (x, refl)
  some_at (x ∷ xs) (suc i) h = some_at xs i (omega arith)

  below : (xs : List X) (i : ℕ) (x : X) → slice_get xs i ≡ Some x → i < length xs
  below [] i x e = cc
  below (y ∷ ys) zero x e = omega arith
  below (y ∷ ys) (suc i) x e = omega (arith, below ys i x e)

  pub flat_laid : (n : ℕ) (rs : List (Row X)) (xs : List X) → IsLaid n rs xs → flat rs ≡ xs
  flat_laid n [] xs h = sym h
  flat_laid n (r ∷ rs) xs h = (λ i. (h.0 i).items ++ flat_laid n rs (drop n xs) h.1 i) ∙ take-append-drop n xs

  -- the piece of an index, and the place there
  pub piece_of : (n : ℕ) (rs : List (Row X)) (xs : List X) → IsLaid n rs xs → (k j i : ℕ) → i ≡ k * n + j → j < n → i < length xs → k < length rs
  piece_of n [] xs h k j i e lt in_it = absurd (omega (arith, ap length h))
  piece_of n (r ∷ rs) xs h zero j i e lt in_it = omega arith
  piece_of n (r ∷ rs) xs h (suc k) j i e lt in_it =
      let more : i ≡ n + (k * n + j) = omega (arith, suc-mul k n) in
      omega (arith, piece_of n rs (drop n xs) h.1 k j (k * n + j) refl lt (omega (arith, length-drop n xs)))

  pub in_piece : (n : ℕ) (rs : List (Row X)) (xs : List X) → IsLaid n rs xs → (k j i : ℕ) (r : Row X) → i ≡ k * n + j → j < n
      → slice_get rs k ≡ Some r → slice_get r.items j ≡ slice_get xs i
  in_piece n [] xs h k j i r e lt g = cc
  in_piece n (s ∷ rs) xs h zero j i r e lt g =
      let same : s ≡ r = cc in let at : j ≡ i = omega (arith, zero-mul n) in
      ap (λ (z : Row X). slice_get z.items j) (sym same ∙ h.0) ∙ get-take n xs j lt ∙ ap (slice_get xs) at
  in_piece n (s ∷ rs) xs h (suc k) j i r e lt g =
      let more : i ≡ n + (k * n + j) = omega (arith, suc-mul k n) in
      in_piece n rs (drop n xs) h.1 k j (k * n + j) r refl lt g ∙ get-drop n xs i (k * n + j) more

  pub set_laid : (n : ℕ) (rs : List (Row X)) (xs : List X) → IsLaid n rs xs → (k j i : ℕ) (r : Row X) (v : X) → i ≡ k * n + j → j < n
      → slice_get rs k ≡ Some r
      → IsLaid n (set rs k (row (set r.items j v) r.capacity)) (set xs i v)
  set_laid n [] xs h k j i r v e lt g = cc
  set_laid n (s ∷ rs) xs h zero j i r v e lt g =
      let same : s ≡ r = cc in let at : j ≡ i = omega (arith, zero-mul n) in (
        (λ q. row (set (sym same q).items j v) (sym same q).capacity) ∙ (λ q. row (set (h.0 q).items j v) (h.0 q).capacity)
            ∙ ap (λ l. row l n) (sym (take-set n xs j v lt) ∙ ap (λ q. take n (set xs q v)) at),
        subst (IsLaid n rs) (sym (drop-set n xs j v lt) ∙ ap (λ q. drop n (set xs q v)) at) h.1,
      )
  set_laid n (s ∷ rs) xs h (suc k) j i r v e lt g =
      let more : i ≡ n + (k * n + j) = omega (arith, suc-mul k n) in (
        h.0 ∙ ap (λ l. row l n) (sym (take-set_past n xs i (k * n + j) v more)),
        subst (IsLaid n (set rs k (row (set r.items j v) r.capacity))) (sym (drop-set_past n xs i (k * n + j) v more))
            (set_laid n rs (drop n xs) h.1 k j (k * n + j) r v refl lt g),
      )

  take-none : (n : ℕ) → let none : List X = [] in take n none ≡ none
  take-none zero = refl
  take-none (suc n) = refl

  drop-none : (n : ℕ) → let none : List X = [] in drop n none ≡ none
  drop-none zero = refl
  drop-none (suc n) = refl

  take-short : (n : ℕ) (xs : List X) (v : X) → length xs < n → take n (xs ++ v ∷ []) ≡ take n xs ++ v ∷ []
  take-short zero xs v h = absurd (omega arith)
  take-short (suc n) [] v h = ap (λ l. v ∷ l) (take-none n)
  take-short (suc n) (x ∷ xs) v h = ap (λ l. x ∷ l) (take-short n xs v (omega arith))

  drop-short : (n : ℕ) (xs : List X) (v : X) → length xs < n → drop n (xs ++ v ∷ []) ≡ drop n xs
  drop-short zero xs v h = absurd (omega arith)
  drop-short (suc n) [] v h = drop-none n
  drop-short (suc n) (x ∷ xs) v h = drop-short n xs v (omega arith)

  take-long : (n : ℕ) (xs ys : List X) → n ≤ length xs → take n (xs ++ ys) ≡ take n xs
  take-long zero xs ys h = refl
  take-long (suc n) [] ys h = absurd (omega arith)
  take-long (suc n) (x ∷ xs) ys h = ap (λ l. x ∷ l) (take-long n xs ys (omega arith))

  drop-long : (n : ℕ) (xs ys : List X) → n ≤ length xs → drop n (xs ++ ys) ≡ drop n xs ++ ys
  drop-long zero xs ys h = refl
  drop-long (suc n) [] ys h = absurd (omega arith)
  drop-long (suc n) (x ∷ xs) ys h = drop-long n xs ys (omega arith)

  length-short : (n : ℕ) (xs : List X) → length xs < n → length (take n xs) ≡ length xs
  length-short zero xs h = absurd (omega arith)
  length-short (suc n) [] h = refl
  length-short (suc n) (x ∷ xs) h = ap suc (length-short n xs (omega arith))

  -- a piece more
  pub grown_laid : (n : ℕ) (rs : List (Row X)) (xs : List X) → IsLaid n rs xs → IsLaid n (rs ++ row [] n ∷ []) xs
  grown_laid n [] xs h = (ap (λ l. row l n) (sym (ap (take n) h ∙ take-none n)), ap (drop n) h ∙ drop-none n)
  grown_laid n (r ∷ rs) xs h = (h.0, grown_laid n rs (drop n xs) h.1)

  -- the place after the last value
  pub next_piece : (n : ℕ) (rs : List (Row X)) (xs : List X) → IsLaid n rs xs → (k j : ℕ) → length xs ≡ k * n + j → j < n
      → length xs < length rs * n → k < length rs
  next_piece n [] xs h k j e lt room = absurd (omega (arith, zero-mul n))
  next_piece n (r ∷ rs) xs h zero j e lt room = omega arith
  next_piece n (r ∷ rs) xs h (suc k) j e lt room =
      let more = suc-mul k n in let all = suc-mul (length rs) n in let left = length-drop n xs in
      omega (arith, next_piece n rs (drop n xs) h.1 k j (omega arith) lt (omega arith))

  pub next_place : (n : ℕ) (rs : List (Row X)) (xs : List X) → IsLaid n rs xs → (k j : ℕ) (r : Row X) → length xs ≡ k * n + j → j < n
      → slice_get rs k ≡ Some r → (length r.items ≡ j) × (r.capacity ≡ n)
  next_place n [] xs h k j r e lt g = cc
  next_place n (s ∷ rs) xs h zero j r e lt g =
      let is : r ≡ row (take n xs) n = cc in let at : length xs ≡ j = omega (arith, zero-mul n) in
      (ap (λ (z : Row X). length z.items) is ∙ length-short n xs (omega arith) ∙ at, ap (λ (z : Row X). z.capacity) is)
  next_place n (s ∷ rs) xs h (suc k) j r e lt g =
      let more = suc-mul k n in let left = length-drop n xs in next_place n rs (drop n xs) h.1 k j r (omega arith) lt g

  pub push_laid : (n : ℕ) (rs : List (Row X)) (xs : List X) → IsLaid n rs xs → (k j : ℕ) (r : Row X) (v : X) → length xs ≡ k * n + j → j < n
      → slice_get rs k ≡ Some r
      → IsLaid n (set rs k (row (r.items ++ v ∷ []) r.capacity)) (xs ++ v ∷ [])
  push_laid n [] xs h k j r v e lt g = cc
  push_laid n (s ∷ rs) xs h zero j r v e lt g =
      let is : r ≡ row (take n xs) n = cc in let short : length xs < n = omega (arith, zero-mul n) in (
        (λ q. row ((is q).items ++ v ∷ []) (is q).capacity)
            ∙ ap (λ l. row l n) (sym (take-short n xs v short)),
        subst (IsLaid n rs) (sym (drop-short n xs v short)) h.1,
      )
  push_laid n (s ∷ rs) xs h (suc k) j r v e lt g =
      let more = suc-mul k n in let left = length-drop n xs in let long : n ≤ length xs = omega arith in (
        h.0 ∙ ap (λ l. row l n) (sym (take-long n xs (v ∷ []) long)),
        subst (IsLaid n (set rs k (row (r.items ++ v ∷ []) r.capacity))) (sym (drop-long n xs (v ∷ []) long))
            (push_laid n rs (drop n xs) h.1 k j r v (omega arith) lt g),
      )

  -- the last one less
  pub last_split : (xs : List X) → 0 < length xs → (ys : List X) × (y : X) × (xs ≡ ys ++ y ∷ [])
  last_split [] h = absurd (omega arith)
  last_split (x ∷ []) h = ([], x, refl)
  last_split (x ∷ y ∷ ys) h = let s = last_split (y ∷ ys) (omega arith) in (x ∷ s.0, s.1, ap (λ l. x ∷ l) s.2)

  same_front : (xs ys : List X) (x y : X) → xs ++ x ∷ [] ≡ ys ++ y ∷ [] → (xs ≡ ys) × (x ≡ y)
  same_front [] [] x y e = (refl, cc)
  same_front [] (z ∷ ys) x y e = let long = ap length e ∙ ap suc (length-append ys (y ∷ [])) in absurd (omega (arith, long))
  same_front (w ∷ xs) [] x y e = let long = ap length e in let left = length-append xs (x ∷ []) in absurd (omega (arith, long, left))
  same_front (w ∷ xs) (z ∷ ys) x y e = let same : w ≡ z = cc in let rest : xs ++ x ∷ [] ≡ ys ++ y ∷ [] = cc in
      let r = same_front xs ys x y rest in ((λ i. same i ∷ r.0 i), r.1)

  -- what is in the piece of the last item
  pub last_place : (n : ℕ) (rs : List (Row X)) (xs : List X) (v : X) → IsLaid n rs (xs ++ v ∷ []) → (k j : ℕ) (r : Row X) → length xs ≡ k * n + j
      → j < n
      → slice_get rs k ≡ Some r → 0 < length r.items
  last_place n [] xs v h k j r e lt g = cc
  last_place n (s ∷ rs) xs v h zero j r e lt g =
      let is : r ≡ row (take n (xs ++ v ∷ [])) n = cc in let short : length xs < n = omega (arith, zero-mul n) in
      let long = ap (λ (z : Row X). length z.items) is ∙ ap length (take-short n xs v short) ∙ length-append (take n xs) (v ∷ []) in
      omega (arith, long)
  last_place n (s ∷ rs) xs v h (suc k) j r e lt g =
      let more = suc-mul k n in let left = length-drop n xs in let long : n ≤ length xs = omega arith in
      last_place n rs (drop n xs) v (subst (IsLaid n rs) (drop-long n xs (v ∷ []) long) h.1) k j r (omega arith) lt g

  pub pop_laid : (n : ℕ) (rs : List (Row X)) (xs : List X) (v w : X) → IsLaid n rs (xs ++ v ∷ []) → (k j : ℕ) (r s : Row X) → length xs ≡ k * n + j
      → j < n
      → slice_get rs k ≡ Some r → r.items ≡ s.items ++ w ∷ [] → s.capacity ≡ r.capacity
      → IsLaid n (set rs k s) xs × (v ≡ w)
  pop_laid n [] xs v w h k j r s e lt g i c = cc
  pop_laid n (q ∷ rs) xs v w h zero j r s e lt g i c =
      let is : r ≡ row (take n (xs ++ v ∷ [])) n = cc in let short : length xs < n = omega (arith, zero-mul n) in
      let same = same_front (take n xs) s.items v w (sym (take-short n xs v short) ∙ sym (ap (λ (z : Row X). z.items) is) ∙ i) in
      let cap : s.capacity ≡ n = c ∙ ap (λ (z : Row X). z.capacity) is in
      (((λ l. row (sym same.0 l) (cap l)), subst (IsLaid n rs) (drop-short n xs v short) h.1), same.1)
  pop_laid n (q ∷ rs) xs v w h (suc k) j r s e lt g i c =
      let more = suc-mul k n in let left = length-drop n xs in let long : n ≤ length xs = omega arith in
      let rest = pop_laid n rs (drop n xs) v w (subst (IsLaid n rs) (drop-long n xs (v ∷ []) long) h.1) k j r s (omega arith) lt g i c in
      ((h.0 ∙ ap (λ l. row l n) (take-long n xs (v ∷ []) long), rest.0), rest.1)

  -- no more items than the pieces can hold
  pub all_laid : (n : ℕ) (rs : List (Row X)) (xs : List X) → IsLaid n rs xs → length xs ≤ n * length rs
  all_laid n [] xs h = let none = ap length h in omega (arith, none)
  all_laid n (r ∷ rs) xs h =
      let rest = all_laid n rs (drop n xs) h.1 in let left = length-drop n xs in let more = mul-suc n (length rs) in omega (arith, rest, left, more)
