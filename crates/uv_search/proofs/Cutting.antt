-- Byte strings in two parts: which one a pair is, and one pair more.
use Rattle.uv_search.proofs.Names.{◌≡◌, ℕ, zero, suc, ◌/◌, ◌<◌, ◌≤◌, Bool, true, false, List, [], ◌∷◌, ◌++◌, length, map, Result, IfOk, OnErr, refl, sym, ap, subst, ◌∙◌, inl, inr, Some, slice_get, slice_index_or, take, drop, nat_eq, arith, true≢false, slice_get-get_or, AllByRecursion, pointwise, bytes_decides, nat_list_eq_equiv, IsCut, IsEntered, IsOnce, KeepsNumbers, joined, Has}
use Rattle.std.specs.List.{IsDistinct}
use Rattle.uv_search.proofs.KeyLists.{get_below, get_before, get_either, number_of, map_last}
use Rattle.uv_search.proofs.Linking.{get_map}

one_value : {X : Type 0} {x y : X} → Some x ≡ Some y → x ≡ y
one_value e = cc

pub index_of : {X : Type 0} (xs : List X) (i : ℕ) (d x : X) → slice_get xs i ≡ Some x → slice_index_or xs i d ≡ x
index_of xs i d x e = one_value (sym (slice_get-get_or xs i d (get_below xs i x e)) ∙ e)

un_map : {X Y : Type 0} (f : X → Y) (xs : List X) (i : ℕ) (y : Y) → slice_get (map f xs) i ≡ Some y → (x : X) × (slice_get xs i ≡ Some x) × (f x ≡ y)
un_map f (x ∷ xs) (suc i) y e = un_map f xs i y e
un_map f each e2 y e = grind arith

take_front : (xs ys : List ℕ) → take (length xs) (xs ++ ys) ≡ xs
take_front [] ys = refl
take_front (x ∷ xs) ys = ap (λ zs. x ∷ zs) (take_front xs ys)

drop_front : (xs ys : List ℕ) → drop (length xs) (xs ++ ys) ≡ ys
drop_front [] ys = refl
drop_front (x ∷ xs) ys = drop_front xs ys

module _ (parts : List (List ℕ)) (pairs : List (ℕ × ℕ)) where
  -- which pair a byte string is
  pub in_parts : IsCut parts pairs → (i : ℕ) (key : List ℕ) → slice_get (map (joined parts) pairs) i ≡ Some key
      → (pair : ℕ × ℕ) × (slice_get pairs i ≡ Some pair) × (slice_get parts pair.0 ≡ Some (take (length key / 2) key))
      × (slice_get parts pair.1 ≡ Some (drop (length key / 2) key))
  in_parts cut i key e =
      let found = un_map (joined parts) pairs i key e in
      let pair = found.0 in
      let front = slice_index_or parts pair.0 [] in
      let back = slice_index_or parts pair.1 [] in
      let middle : length front ≡ length key / 2 = cut.middles i pair found.1 ∙ ap (λ k. length k / 2) found.2 in
      let is_front : front ≡ take (length key / 2) key =
      sym (take_front front back) ∙ ap (λ k. take (length front) k) found.2 ∙ ap (λ n. take n key) middle in
      let is_back : back ≡ drop (length key / 2) key =
      sym (drop_front front back) ∙ ap (λ k. drop (length front) k) found.2 ∙ ap (λ n. drop n key) middle in (
        pair,
        found.1,
        slice_get-get_or parts pair.0 [] (cut.fronts i pair found.1) ∙ ap Some is_front,
        slice_get-get_or parts pair.1 [] (cut.backs i pair found.1) ∙ ap Some is_back,
      )

  -- the byte string of a pair
  pub of_parts : (i a b : ℕ) (front back : List ℕ) → slice_get parts a ≡ Some front → slice_get parts b ≡ Some back → slice_get pairs i ≡ Some (a, b)
      → slice_get (map (joined parts) pairs) i ≡ Some (front ++ back)
  of_parts i a b front back is_front is_back is_pair =
      get_map (joined parts) pairs i (a, b) is_pair
      ∙ ap Some (ap (λ f. f ++ slice_index_or parts b []) (index_of parts a [] front is_front)
      ∙ ap (λ k. front ++ k) (index_of parts b [] back is_back))

  -- where its pair is missing, it is missing
  pub no_pair : IsOnce parts → IsCut parts pairs → (a b : ℕ) (key : List ℕ) → slice_get parts a ≡ Some (take (length key / 2) key)
      → slice_get parts b ≡ Some (drop (length key / 2) key) → ((i : ℕ) → slice_get pairs i ≡ Some (a, b) → ⊥)
      → (i : ℕ) → slice_get (map (joined parts) pairs) i ≡ Some key → ⊥
  no_pair parts_once cut a b key is_front is_back none i e =
      let at = in_parts cut i key e in
      let one : at.0.0 ≡ a = parts_once at.0.0 a (take (length key / 2) key) at.2 is_front in
      let two : at.0.1 ≡ b = parts_once at.0.1 b (drop (length key / 2) key) at.3 is_back in
      none i (at.1 ∙ ap (λ x. Some (x, at.0.1)) one ∙ ap (λ y. Some (a, y)) two)

  pub once : IsOnce parts → IsCut parts pairs → IsOnce (map (joined parts) pairs)
  once parts_once cut i j key here there =
      let p = in_parts cut i key here in
      let q = in_parts cut j key there in
      let one : q.0.0 ≡ p.0.0 = parts_once q.0.0 p.0.0 _ q.2 p.2 in
      let two : q.0.1 ≡ p.0.1 = parts_once q.0.1 p.0.1 _ q.3 p.3 in
      cut.pairs_once i j p.0 p.1 (q.1 ∙ ap (λ x. Some (x, q.0.1)) one ∙ ap (λ y. Some (p.0.0, y)) two)

  -- more parts
  module _ (more : List (List ℕ)) (kept : KeepsNumbers parts more) where
    same_part : (i : ℕ) → i < length parts → slice_index_or more i [] ≡ slice_index_or parts i []
    same_part i less = index_of more i [] (slice_index_or parts i []) (kept i (slice_index_or parts i []) (slice_get-get_or parts i [] less))

    below_more : (i : ℕ) → i < length parts → i < length more
    below_more i less = get_below more i _ (kept i (slice_index_or parts i []) (slice_get-get_or parts i [] less))

    same_joined : IsCut parts pairs → (i : ℕ) (pair : ℕ × ℕ) → slice_get pairs i ≡ Some pair → joined more pair ≡ joined parts pair
    same_joined cut i pair e =
        ap (λ f. f ++ slice_index_or more pair.1 []) (same_part pair.0 (cut.fronts i pair e))
        ∙ ap (λ b. slice_index_or parts pair.0 [] ++ b) (same_part pair.1 (cut.backs i pair e))

    pub still_cut : IsCut parts pairs → IsCut more pairs
    still_cut cut = record {
      fronts = λ i pair e. below_more pair.0 (cut.fronts i pair e);
      backs = λ i pair e. below_more pair.1 (cut.backs i pair e);
      middles = λ i pair e. ap length (same_part pair.0 (cut.fronts i pair e)) ∙ cut.middles i pair e
          ∙ ap (λ k. length k / 2) (sym (same_joined cut i pair e));
      pairs_once = cut.pairs_once;
    }

    pub same_keys : IsCut parts pairs → map (joined more) pairs ≡ map (joined parts) pairs
    same_keys cut = maps pairs (λ i pair e. same_joined cut i pair e) where
      maps : (ps : List (ℕ × ℕ)) → ((i : ℕ) (pair : ℕ × ℕ) → slice_get ps i ≡ Some pair → joined more pair ≡ joined parts pair)
          → map (joined more) ps ≡ map (joined parts) ps
      maps [] same = refl
      maps (p ∷ ps) same = ap (λ k. k ∷ map (joined more) ps) (same 0 p refl) ∙ ap (λ ks. joined parts p ∷ ks) (maps ps (λ i. same (suc i)))

  -- a pair behind the others
  pub one_more_cut : IsCut parts pairs → (a b : ℕ) (key : List ℕ) → slice_get parts a ≡ Some (take (length key / 2) key)
      → slice_get parts b ≡ Some (drop (length key / 2) key) → ((i : ℕ) → slice_get pairs i ≡ Some (a, b) → ⊥)
      → length (take (length key / 2) key) ≡ length key / 2 → take (length key / 2) key ++ drop (length key / 2) key ≡ key
      → IsCut parts (pairs ++ (a, b) ∷ [])
  one_more_cut cut a b key is_front is_back none long whole = record {
    fronts = λ i pair e. elim (get_either pairs (a, b) i pair e) [
      | inl h ↦ cut.fronts i pair h
      | inr h ↦ subst (λ p. p.0 < length parts) (sym h.1) (get_below parts a _ is_front)
    ];
    backs = λ i pair e. elim (get_either pairs (a, b) i pair e) [
      | inl h ↦ cut.backs i pair h
      | inr h ↦ subst (λ p. p.1 < length parts) (sym h.1) (get_below parts b _ is_back)
    ];
    middles = λ i pair e. elim (get_either pairs (a, b) i pair e) [
      | inl h ↦ cut.middles i pair h
      | inr h ↦ subst (λ p. length (slice_index_or parts p.0 []) ≡ length (joined parts p) / 2) (sym h.1)
          (ap length (index_of parts a [] _ is_front) ∙ long ∙ ap (λ k. length k / 2) (sym is_key))
    ];
    pairs_once = λ i j pair e f. elim (get_either pairs (a, b) i pair e) [
      | inl h ↦ elim (get_either pairs (a, b) j pair f) [
        | inl g ↦ cut.pairs_once i j pair h g
        | inr g ↦ absurd (none i (h ∙ ap Some g.1))
      ]
      | inr h ↦ elim (get_either pairs (a, b) j pair f) [
        | inl g ↦ absurd (none j (g ∙ ap Some h.1))
        | inr g ↦ h.0 ∙ sym g.0
      ]
    ];
  } where
    is_key : joined parts (a, b) ≡ key
    is_key =
        ap (λ f. f ++ slice_index_or parts b []) (index_of parts a [] _ is_front)
        ∙ ap (λ k. take (length key / 2) key ++ k) (index_of parts b [] _ is_back) ∙ whole

  pub one_key_more : (a b : ℕ) (key : List ℕ) → slice_get parts a ≡ Some (take (length key / 2) key)
      → slice_get parts b ≡ Some (drop (length key / 2) key) → take (length key / 2) key ++ drop (length key / 2) key ≡ key
      → map (joined parts) (pairs ++ (a, b) ∷ []) ≡ map (joined parts) pairs ++ key ∷ []
  one_key_more a b key is_front is_back whole =
      map_last (joined parts) pairs (a, b)
      ∙ ap (λ k. map (joined parts) pairs ++ k ∷ []) (ap (λ f. f ++ slice_index_or parts b []) (index_of parts a [] _ is_front)
      ∙ ap (λ k. take (length key / 2) key ++ k) (index_of parts b [] _ is_back) ∙ whole)

-- ---- what is entered

halves_of : (n : ℕ) (key : List ℕ) → take n key ++ drop n key ≡ key
halves_of (suc n) (x ∷ xs) = ap (λ k. x ∷ k) (halves_of n xs)
halves_of each e1 = assumption

half_long : (n : ℕ) (key : List ℕ) → n ≤ length key → length (take n key) ≡ n
half_long (suc n) (x ∷ xs) less = ap suc (half_long n xs (omega (arith, less)))
half_long each e1 less = grind arith

half_below : (n : ℕ) → n / 2 ≤ n
half_below n = omega arith

module _ (parts more : List (List ℕ)) (pairs : List (ℕ × ℕ)) (kept : KeepsNumbers parts more) (cut : IsCut parts pairs) where
  -- the same keys over more parts
  pub keeps_over : KeepsNumbers (map (joined parts) pairs) (map (joined more) pairs)
  keeps_over i x e = ap (λ ks. slice_get ks i) (same_keys parts pairs more kept cut) ∙ e

  module _ (a b : ℕ) (key : List ℕ) (is_front : slice_get more a ≡ Some (take (length key / 2) key))
      (is_back : slice_get more b ≡ Some (drop (length key / 2) key)) where
    pub cut_more : ((i : ℕ) → slice_get pairs i ≡ Some (a, b) → ⊥) → IsCut more (pairs ++ (a, b) ∷ [])
    cut_more none = one_more_cut more pairs (still_cut parts pairs more kept cut) a b key is_front is_back none
        (half_long (length key / 2) key (half_below (length key))) (halves_of (length key / 2) key)

    pub keys_more : map (joined more) (pairs ++ (a, b) ∷ []) ≡ map (joined parts) pairs ++ key ∷ []
    keys_more = one_key_more more pairs a b key is_front is_back (halves_of (length key / 2) key)
        ∙ ap (λ ks. ks ++ key ∷ []) (same_keys parts pairs more kept cut)

    module _ (pairs' : List (ℕ × ℕ)) where
      pub entered_cut : IsEntered pairs (a, b) pairs' → IsCut more pairs'
      entered_cut (inl same) = subst (IsCut more) (sym same) (still_cut parts pairs more kept cut)
      entered_cut (inr h) = subst (IsCut more) (sym h.0) (cut_more h.1)

      pub entered_keeps : IsEntered pairs (a, b) pairs' → KeepsNumbers (map (joined parts) pairs) (map (joined more) pairs')
      entered_keeps (inl same) i x e = subst (λ ps. slice_get (map (joined more) ps) i ≡ Some x) (sym same) (keeps_over i x e)
      entered_keeps (inr h) i x e =
          subst (λ ps. slice_get (map (joined more) ps) i ≡ Some x) (sym h.0)
          (ap (λ ks. slice_get ks i) keys_more ∙ get_before (map (joined parts) pairs) key i x e)

-- the number of a byte string
pub number_there : (parts : List (List ℕ)) (pairs : List (ℕ × ℕ)) (i a b : ℕ) (key : List ℕ) → slice_get parts a ≡ Some (take (length key / 2) key)
    → slice_get parts b ≡ Some (drop (length key / 2) key) → slice_get pairs i ≡ Some (a, b) → slice_get (map (joined parts) pairs) i ≡ Some key
number_there parts pairs i a b key is_front is_back e =
    of_parts parts pairs i a b _ _ is_front is_back e ∙ ap Some (halves_of (length key / 2) key)

pub if_ok_so : {E : Type 0} (r : Result ℕ E) {P Q : ℕ → Type 0} → ((n : ℕ) → P n → Q n) → IfOk r P → IfOk r Q
if_ok_so r f p = grind arith

pub on_err : {X E : Type 0} (r : Result X E) {P : Type 0} → P → OnErr r P
on_err r p = grind arith

-- ---- lists in which each is there once

never : (y : List ℕ) (zs : List (List ℕ)) → AllByRecursion (λ z. pointwise nat_eq y z ≡ false) zs → (j : ℕ) (x : List ℕ) → slice_get zs j ≡ Some x
    → y ≡ x → ⊥
never y [] all j x e same = absurd cc
never y (z ∷ zs) all zero x e same = true≢false (sym (ap (pointwise nat_eq y) (one_value e ∙ sym same) ∙ nat_list_eq_equiv.refl y) ∙ all.0)
never y (z ∷ zs) all (suc j) x e same = never y zs all.1 j x e same

pub once_distinct : (xs : List (List ℕ)) → IsDistinct (pointwise nat_eq) xs → IsOnce xs
unfolding IsDistinct
once_distinct (y ∷ ys) h zero (suc j) x e f = absurd (never y ys h.0 j x f (one_value e))
once_distinct (y ∷ ys) h (suc i) zero x e f = absurd (never y ys h.0 i x e (one_value f))
once_distinct (y ∷ ys) h (suc i) (suc j) x e f = ap suc (once_distinct ys h.1 i j x e f)
once_distinct each h e2 e3 x e f = grind arith

pub distinct_once : (xs : List (List ℕ)) → IsOnce xs → IsDistinct (pointwise nat_eq) xs
unfolding IsDistinct
distinct_once [] once = tt
distinct_once (y ∷ ys) once = (
  all ys (λ j e. absurd (zero_suc j (once 0 (suc j) y refl e))),
  distinct_once ys (λ i j x e f. below i j (once (suc i) (suc j) x e f)),
) where
  zero_suc : (j : ℕ) → zero ≡ suc j → ⊥
  zero_suc j e = omega (arith, e)

  below : (i j : ℕ) → suc i ≡ suc j → i ≡ j
  below i j e = omega (arith, e)

  all : (zs : List (List ℕ)) → ((j : ℕ) → slice_get zs j ≡ Some y → ⊥) → AllByRecursion (λ z. pointwise nat_eq y z ≡ false) zs
  all [] none = tt
  all (z ∷ zs) none = (no (pointwise nat_eq y z) (λ same. none 0 (ap Some (sym ((bytes_decides y z).0 same)))), all zs (λ j. none (suc j))) where
    no : (b : Bool) → (b ≡ true → ⊥) → b ≡ false
    no b not = grind arith

pub has_none : (xs : List (List ℕ)) (key : List ℕ) → ((i : ℕ) → slice_get xs i ≡ Some key → ⊥) → Has xs key → ⊥
has_none xs key none has = let at = number_of xs key has in none at.0 at.1

pub kept_twice : {X : Type 0} (xs ys zs : List X) → KeepsNumbers xs ys → KeepsNumbers ys zs → KeepsNumbers xs zs
kept_twice xs ys zs first second i x e = second i x (first i x e)
