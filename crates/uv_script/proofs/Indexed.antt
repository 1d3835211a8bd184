-- The index of a callback's lines.
use Rattle.uv_script.proofs.ProofNames.{◌≡◌, ◌≢◌, ◌⊎◌, ℕ, suc, ◌+◌, ◌-◌, ◌<◌, ◌≤◌, Bool, true, false, if◌then◌else◌, List, [], ◌∷◌, ◌++◌, length, drop, Option, Some, None, IfSome, slice_get, refl, sym, ap, ◌∙◌, subst, arith, none-some, nat_eq, Ordering, Equal, nat_cmp, ordering_then, is_gt, option_cmp, option_eq, BTreeSet, contains, IsKeyInRange, IsKeyRangeOf, IsLeBy, Included, Unbounded, CallbackLine, next_line, Spot, spot_cmp, is_of, is_line_of, LOOKED_AT, IsIndex, IsNoted, next_of, earlier, nat_tests}
use Rattle.std.proofs.lemmas.Map.Keys.{le_from_not_gt}

-- ---- one more line

-- what stands at a place once there is one line more
there : (lines : List CallbackLine) (line : CallbackLine) (p : ℕ) →
    ((p ≡ length lines) × (slice_get lines (length lines) ≡ None) × (slice_get (lines ++ line ∷ []) (length lines) ≡ Some line))
    ⊎ ((length lines ≢ p) × (slice_get (lines ++ line ∷ []) p ≡ slice_get lines p))
there (x ∷ lines) line (suc p) = grind (arith, (there lines line p))
there each line e2 = grind arith

pub index_more : (lines : List CallbackLine) (line : CallbackLine) (old new : BTreeSet Spot) → IsIndex lines old →
    IsNoted (line.call, length lines) old new → IsIndex (lines ++ line ∷ []) new
index_more lines line old new is noted spot far = grind (arith, there)

-- ---- the first line of a call

get-drop : {A : Type 0} (n : ℕ) (xs : List A) (k : ℕ) → slice_get (drop n xs) k ≡ slice_get xs (n + k)
get-drop (suc n) (x ∷ xs) k = let at : suc (n + k) ≡ suc n + k = omega arith in get-drop n xs k ∙ ap (λ (m : ℕ). slice_get (x ∷ xs) m) at
get-drop each e1 k = grind arith

next_some : (call : Option ℕ) (n : ℕ) (lines : List CallbackLine) (p : ℕ) → is_line_of call (slice_get lines p) ≡ true →
    ((k : ℕ) → k < p → is_line_of call (slice_get lines k) ≡ false) → next_of call n lines ≡ Some (n + p)
next_some call n (x ∷ lines) (suc p) here none =
    let at : n + 1 + p ≡ n + suc p = omega arith in
    rw (none 0 (omega arith)) (next_some call (n + 1) lines p here (λ k below. none (suc k) (omega (arith, below))) ∙ ap Some at)
next_some call n each e3 here none = grind arith

next_none : (call : Option ℕ) (n : ℕ) (lines : List CallbackLine) → ((k : ℕ) → is_line_of call (slice_get lines k) ≡ false) →
    next_of call n lines ≡ None
next_none call n [] none = refl
next_none call n (x ∷ lines) none = rw (none 0) (next_none call (n + 1) lines (λ k. none (suc k)))

-- the same from a line on
first_is : (call : Option ℕ) (from : ℕ) (lines : List CallbackLine) (p : ℕ) → from ≤ p → is_line_of call (slice_get lines p) ≡ true →
    ((k : ℕ) → from ≤ k → k < p → is_line_of call (slice_get lines k) ≡ false) → Some p ≡ next_of call from (drop from lines)
first_is call from lines p behind here none =
    let at : from + (p - from) ≡ p = omega (arith, behind) in
    grind (arith, next_some, get-drop)

none_is : (call : Option ℕ) (from : ℕ) (lines : List CallbackLine) → ((k : ℕ) → from ≤ k → is_line_of call (slice_get lines k) ≡ false) →
    None ≡ next_of call from (drop from lines)
none_is call from lines none = grind (arith, next_none, get-drop)

-- ---- what a range of the index begins with

-- a call is at itself
itself : (call : Option ℕ) → option_cmp nat_cmp call call ≡ Equal
itself call = grind arith

-- two calls are one where the test says so, and only there
same_call : (a b : Option ℕ) → option_eq nat_eq a b ≡ true → a ≡ b
same_call each e1 same = grind arith

other_call : (a b : Option ℕ) → option_eq nat_eq a b ≡ false → a ≡ b → ⊥
other_call each e1 other same = grind arith

-- two of which neither is behind the other are one
one_call : (a b : Option ℕ) (o q : Ordering) → is_gt (ordering_then (option_cmp nat_cmp a b) o) ≡ false →
    is_gt (ordering_then (option_cmp nat_cmp b a) q) ≡ false → a ≡ b
one_call each e1 o q h k = grind arith

-- of one call's spots the order is that of the places
not_behind : (call : Option ℕ) (n p : ℕ) → is_gt (spot_cmp (call, n) (call, p)) ≡ false → n ≤ p
not_behind call n p h = le_from_not_gt n p (rw (itself call) at h)

not_ahead : (call : Option ℕ) (n p : ℕ) → n ≤ p → is_gt (spot_cmp (call, n) (call, p)) ≡ false
not_ahead call n p h = rw (itself call) (grind (arith, nat_tests))

-- a line of this call, or none, where the index has its spot or not
told : (lines : List CallbackLine) (spots : BTreeSet Spot) (spot : Spot) → IsIndex lines spots → LOOKED_AT ≤ spot.1 →
    (contains spot_cmp spots spot ≡ true → ⊥) → is_line_of spot.0 (slice_get lines spot.1) ≡ false
told lines spots spot is far none = grind arith

module _ (lines : List CallbackLine) (spots : BTreeSet Spot) (call : Option ℕ) (from : ℕ) (found : List Spot)
    (is : IsIndex lines spots) (far : LOOKED_AT ≤ from) (range : IsKeyRangeOf spot_cmp (Included (call, from)) Unbounded spots found) where
  -- the first one, where it is of the call
  of_call : (p : ℕ) → slice_get found 0 ≡ Some (call, p) → Some p ≡ next_of call from (drop from lines)
  of_call p first =
      let inside = subst (λ (o : Option Spot). IfSome o (IsKeyInRange spot_cmp (Included (call, from)) Unbounded spots)) first
      range.1 in
      first_is call from lines p (not_behind call from p inside.0.0)
      (sym (is (call, p) (omega (arith, far, not_behind call from p inside.0.0))) ∙ inside.1)
      (λ k behind below. told lines spots (call, k) is (omega (arith, far, behind)) (λ has.
      let least = subst (λ (o : Option Spot). IfSome o (λ x. IsLeBy spot_cmp x (call, k))) first
      (range.2 (call, k) (not_ahead call from k behind, tt) has) in
      omega (arith, below, not_behind call p k least)))

  pub first_found : (x : Spot) → slice_get found 0 ≡ Some x → option_eq nat_eq x.0 call ≡ true → Some x.1 ≡ next_of call from (drop from lines)
  first_found x first same = of_call x.1 (first ∙ ap (λ (c : Option ℕ). Some (c, x.1)) (same_call x.0 call same))

  -- where it is of another there is none of the call
  pub other_found : (x : Spot) → slice_get found 0 ≡ Some x → option_eq nat_eq x.0 call ≡ false → None ≡ next_of call from (drop from lines)
  other_found x first other =
      let inside = subst (λ (o : Option Spot). IfSome o (IsKeyInRange spot_cmp (Included (call, from)) Unbounded spots)) first
      range.1 in
      none_is call from lines (λ k behind. told lines spots (call, k) is (omega (arith, far, behind)) (λ has.
      let least = subst (λ (o : Option Spot). IfSome o (λ y. IsLeBy spot_cmp y (call, k))) first
      (range.2 (call, k) (not_ahead call from k behind, tt) has) in
      other_call x.0 call other (one_call x.0 call (nat_cmp x.1 k) (nat_cmp from x.1) least inside.0.0)))

  -- nor where there is no first one
  pub none_found : found ≡ [] → None ≡ next_of call from (drop from lines)
  none_found nil =
      none_is call from lines (λ k behind. sym (is (call, k) (omega (arith, far, behind))) ∙ range.5 nil (call, k) (not_ahead call from k behind, tt))

-- ---- the lines for every call, and those for this one

at_least : (call : Option ℕ) (n : ℕ) (lines : List CallbackLine) (p : ℕ) → next_of call n lines ≡ Some p → n ≤ p
at_least call n [] p e = absurd (none-some p e)
at_least call n (x ∷ lines) p e = by (is_of call x.call) (λ f. at_least call (n + 1) lines p f) e
  where
    by : (b : Bool) → (next_of call (n + 1) lines ≡ Some p → n + 1 ≤ p) → (if b then Some n else next_of call (n + 1) lines) ≡ Some p → n ≤ p
    by b behind e = grind arith

-- the first line for a call is the first of those for every call and of those for this one
pub first_of_both : (call n : ℕ) (lines : List CallbackLine) →
    next_line call n lines ≡ earlier (next_of None n lines) (next_of (Some call) n lines)
first_of_both call n [] = refl
first_of_both call n (x ∷ lines) = grind (arith, at_least, nat_tests, (first_of_both call (n + 1) lines))
