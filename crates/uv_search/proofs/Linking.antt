-- Rows that are linked by their places: one more, and the walk from the last row of a place to the first one.
use Rattle.uv_search.proofs.Names.{◌≡◌, ℕ, zero, suc, ◌<◌, ◌≤◌, List, [], ◌∷◌, ◌++◌, length, map, refl, sym, ap, subst, ◌∙◌, inl, inr, ◌⊎◌, Some, slice_get, slice_set, arith, ◌+◌, ◌-◌, length-append, length-map, AreLinked, Leads, Linked, place_of}
use Rattle.uv_search.proofs.KeyLists.{get_last, get_below, get_other, map_last, set_long}

pub get_map : {X Y : Type 0} (f : X → Y) (xs : List X) (i : ℕ) (x : X) → slice_get xs i ≡ Some x → slice_get (map f xs) i ≡ Some (f x)
get_map f (y ∷ ys) (suc i) x e = get_map f ys i x e
get_map f each e2 x e = grind arith

pub get_set : {X : Type 0} (xs : List X) (i : ℕ) (x y : X) → slice_get xs i ≡ Some x → slice_get (slice_set xs i y) i ≡ Some y
get_set (z ∷ zs) (suc i) x y e = get_set zs i x y e
get_set each e1 x y e = grind arith

get_of : {X : Type 0} (xs : List X) (i : ℕ) → i < length xs → (x : X) × (slice_get xs i ≡ Some x)
get_of [] i less = absurd (omega (arith, less))
get_of (x ∷ xs) zero less = (x, refl)
get_of (x ∷ xs) (suc i) less = get_of xs i (omega (arith, less))

one_value : {X : Type 0} {x y : X} → Some x ≡ Some y → x ≡ y
one_value e = cc

same_or_not : (a b : ℕ) → (a ≡ b) ⊎ (a ≡ b → ⊥)
same_or_not a b = grind arith

below_or_at : (n i : ℕ) → i < suc n → (i < n) ⊎ (i ≡ n)
below_or_at n i less = grind arith

leads_still : {places more : List ℕ} {place n at : ℕ} → ((i : ℕ) → i < n → slice_get more i ≡ slice_get places i) → Leads places place n at
    → Leads more place n at
leads_still alike old = grind arith

-- one row more
pub one_more : {last before places before' places' : List ℕ} {n place at : ℕ} → Linked last before places n
    → ((i : ℕ) → i < n → slice_get places' i ≡ slice_get places i) → ((i : ℕ) → i < n → slice_get before' i ≡ slice_get before i)
    → slice_get places' n ≡ Some place → slice_get before' n ≡ Some at → slice_get last place ≡ Some at
    → Linked (slice_set last place (suc n)) before' places' (suc n)
one_more {last} {before} {places} {before'} {places'} {n} {place} {at} old alike alike_before is_place is_before is_last = record {
  lasts = λ p a e. elim (same_or_not p place) [
    | inl same ↦ this p a e same
    | inr other ↦ that p a (sym (get_other last place p (suc n) other) ∙ e) other
  ];
  befores = λ i p a less is_at e. elim (below_or_at n i less) [
    | inl below ↦ leads_still (λ j j_less. alike j (omega (arith, below, j_less)))
        (old.befores i p a below (sym (alike i below) ∙ is_at) (sym (alike_before i below) ∙ e))
    | inr same ↦ here i p a is_at e same
  ];
} where
  this : (p a : ℕ) → slice_get (slice_set last place (suc n)) p ≡ Some a → p ≡ place → Leads places' p (suc n) a
  this p a e same = grind (arith, one_value, get_set)

  that : (p a : ℕ) → slice_get last p ≡ Some a → (p ≡ place → ⊥) → Leads places' p (suc n) a
  that p a e other = grind arith

  here : (i p a : ℕ) → slice_get places' i ≡ Some p → slice_get before' i ≡ Some a → i ≡ n → Leads places' p i a
  here i p a is_at e same = grind arith

-- a row that is linked anew
pub linked_anew : {X : Type 0} (f : X → ℕ) (xs : List X) (last before : List ℕ) (n at : ℕ) (x : X) → Linked last before (map f xs) n
    → slice_get xs n ≡ Some x → slice_get last (f x) ≡ Some at → length before ≡ length xs
    → Linked (slice_set last (f x) (n + 1)) (slice_set before n at) (map f xs) (n + 1)
linked_anew f xs last before n at x old is_x is_last long =
    let below = get_below xs n x is_x in
    let was = get_of before n (omega (arith, below, long)) in
    let more : suc n ≡ n + 1 = omega arith in
    subst (λ m. Linked (slice_set last (f x) m) (slice_set before n at) (map f xs) m) more
    (one_more old (λ i less. refl) (λ i less. get_other before n i at (λ e. omega (arith, e, less))) (get_map f xs n x is_x)
    (get_set before n was.0 at was.1) is_last)

get_front : {X : Type 0} (xs : List X) (y : X) (i : ℕ) → i < length xs → slice_get (xs ++ y ∷ []) i ≡ slice_get xs i
get_front (x ∷ xs) y (suc i) less = get_front xs y i (omega (arith, less))
get_front each y e2 less = grind arith

-- a pair behind the others
pub linked_more : {last before : List ℕ} {pairs : List (ℕ × ℕ)} (pair : ℕ × ℕ) (at : ℕ) → AreLinked last before pairs → length pairs < length last
    → slice_get last (place_of (length last) pair) ≡ Some at
    → AreLinked (slice_set last (place_of (length last) pair) (length pairs + 1)) (before ++ at ∷ []) (pairs ++ pair ∷ [])
linked_more {last} {before} {pairs} pair at old room is_last =
    let f = place_of (length last) in
    let n = length pairs in
    let more : suc n ≡ n + 1 = omega arith in
    let long : length (pairs ++ pair ∷ []) ≡ n + 1 = length-append pairs (pair ∷ []) in
    let wide = set_long last (f pair) (n + 1) in
    let places_long : length (map f pairs) ≡ n = length-map pairs f in
    let linked = one_more {before' = before ++ at ∷ []} {places' = map f pairs ++ f pair ∷ []} old.linked
    (λ i less. get_front (map f pairs) (f pair) i (omega (arith, places_long, less)))
    (λ i less. get_front before at i (omega (arith, old.long, less)))
    (subst (λ m. slice_get (map f pairs ++ f pair ∷ []) m ≡ Some (f pair)) places_long (get_last (map f pairs) (f pair)))
    (subst (λ m. slice_get (before ++ at ∷ []) m ≡ Some at) old.long (get_last before at)) is_last in
    record {
      linked = subst
          (λ c. Linked (slice_set last (f pair) (n + 1)) (before ++ at ∷ []) (map (place_of c) (pairs ++ pair ∷ [])) (length (pairs ++ pair ∷ [])))
          (sym wide)
          (subst (λ m. Linked (slice_set last (f pair) (n + 1)) (before ++ at ∷ []) (map f (pairs ++ pair ∷ [])) m) (sym long)
          (subst (λ ps. Linked (slice_set last (f pair) (n + 1)) (before ++ at ∷ []) ps (n + 1)) (sym (map_last f pairs pair))
          (subst (λ m. Linked (slice_set last (f pair) m) (before ++ at ∷ []) (map f pairs ++ f pair ∷ []) m) more linked)));
      long = length-append before (at ∷ []) ∙ omega (arith, old.long, long);
      room = omega (arith, long, wide, room);
    }

-- ---- the walk

module _ {X : Type 0} (f : X → ℕ) (xs : List X) (q : X) where
  -- so far it wasn't found
  pub record Walks (at : ℕ) : Type 0 where
    pub within : at ≤ length xs
    pub none_behind : (i : ℕ) → at ≤ i → slice_get xs i ≡ Some q → ⊥
    pub is_there : (i : ℕ) → at ≡ suc i → slice_get (map f xs) i ≡ Some (f q)

  pub begins : {last before : List ℕ} {at : ℕ} → Linked last before (map f xs) (length xs) → slice_get last (f q) ≡ Some at → Walks at
  begins {last} {before} {at} linked is_last =
      let leads = linked.lasts (f q) at is_last in
      record {
        within = leads.within;
        none_behind = λ i from is_q. leads.none_behind i from (get_below xs i q is_q) (get_map f xs i q is_q);
        is_there = leads.is_there;
      }

  pub goes_on : {last before : List ℕ} {row at : ℕ} (x : X) → Linked last before (map f xs) (length xs) → Walks (suc row)
      → slice_get xs row ≡ Some x → (x ≡ q → ⊥) → slice_get before row ≡ Some at → Walks at × (at ≤ row)
  goes_on {last} {before} {row} {at} x linked walks is_x other is_before =
      let leads = linked.befores row (f q) at (omega (arith, walks.within)) (walks.is_there row refl) is_before in (
        record {
          within = omega (arith, leads.within, walks.within);
          none_behind = λ i from is_q. elim (below_or_at row i (below i from is_q)) [
            | inl less ↦ leads.none_behind i from less (get_map f xs i q is_q)
            | inr same ↦ other (one_value (sym is_x ∙ sym (ap (slice_get xs) same) ∙ is_q))
          ];
          is_there = leads.is_there;
        },
        leads.within,
      )
    where
      below : (i : ℕ) → at ≤ i → slice_get xs i ≡ Some q → i < suc row
      below i from is_q = omega (arith, λ (more : suc row ≤ i). walks.none_behind i more is_q)

  pub goes_back : {last before : List ℕ} {was at : ℕ} (x : X) → Linked last before (map f xs) (length xs) → Walks was → 0 < was
      → slice_get xs (was - 1) ≡ Some x → (x ≡ q → ⊥) → slice_get before (was - 1) ≡ Some at → Walks at × (at < was)
  goes_back {last} {before} {was} {at} x linked walks some is_x other is_before =
      let went = goes_on x linked (subst Walks (omega (arith, some)) walks) is_x other is_before in
      (went.0, omega (arith, some, went.1))
