-- An entry moves up and down, and back the same way.
use Rattle.uv_heap.proofs.Names.{◌≡◌, ℕ, zero, suc, ◌+◌, ◌*◌, ◌<◌, ◌≤◌, Bool, true, false, List, length, refl, sym, ap, ◌∙◌, arith, cond, ltb, ◌&&◌, swap, length-swap, and_left, and_parts, false≢true, ltb-true, lt-ltb, le-ltb, Entry, is_before, entry_at, parent, Moved, must_rise, must_sink, lesser_child}
use Rattle.uv_heap.specs.Moves.{moved_up, moved_down, settled}
use Rattle.uv_heap.specs.Undo.{raised, lowered}
use Rattle.uv_heap.proofs.Lists.{swap-swap}

-- what holds in both cases of a test
pub if_when : {X : Type 0} (P : X → Type 0) (b : Bool) (x y : X) → (b ≡ true → P x) → (b ≡ false → P y) → P (cond b x y)
if_when P b x y p q = grind arith

pub if_same : {X : Type 0} (b : Bool) (x y z w : X) → (b ≡ true → x ≡ z) → (b ≡ false → y ≡ w) → cond b x y ≡ cond b z w
if_same b x y z w p q = grind arith

pub if_true : {X : Type 0} (b : Bool) (x y : X) → b ≡ true → cond b x y ≡ x
if_true b x y e = ap (λ (c : Bool). cond c x y) e

pub if_false : {X : Type 0} (b : Bool) (x y : X) → b ≡ false → cond b x y ≡ y
if_false b x y e = ap (λ (c : Bool). cond c x y) e

-- the root does not rise
pub root_stays : (xs : List Entry) (i : ℕ) → i ≤ 0 → must_rise xs i ≡ false
root_stays xs i p = and_left (ltb 0 i) _ (le-ltb 0 i p)

pub rises_from : (xs : List Entry) (i : ℕ) → must_rise xs i ≡ true → 0 < i
rises_from xs i e = ltb-true 0 i ((and_parts (ltb 0 i) _ e).0)

-- the lesser child is a child, and one of the array where the entry is greater than it
pub child_is : (xs : List Entry) (i : ℕ) → (parent (lesser_child xs i) ≡ i) × (i < lesser_child xs i)
child_is xs i = grind arith

pub child_within : (xs : List Entry) (i : ℕ) → must_sink xs i ≡ true → lesser_child xs i < length xs
child_within xs i e = grind (arith, ltb-true, and_parts, if_when)

pub leaf_stays : (xs : List Entry) (i : ℕ) → length xs ≤ 2 * i + 1 → must_sink xs i ≡ false
leaf_stays xs i p = and_left (ltb (2 * i + 1) (length xs)) _ (le-ltb (2 * i + 1) (length xs) p)

-- more steps than are taken change nothing
moved_up_enough : (n m : ℕ) (xs : List Entry) (i : ℕ) → i ≤ n → i ≤ m → moved_up n xs i ≡ moved_up m xs i
unfolding moved_up
moved_up_enough zero zero xs i p q = refl
moved_up_enough zero (suc m) xs i p q = sym (if_false (must_rise xs i) _ _ (root_stays xs i p))
moved_up_enough (suc n) zero xs i p q = if_false (must_rise xs i) _ _ (root_stays xs i q)
moved_up_enough (suc n) (suc m) xs i p q = if_same (must_rise xs i) _ _ _ _
    (λ e. let up = rises_from xs i e in moved_up_enough n m (swap xs i (parent i)) (parent i) (omega arith) (omega arith)) (λ _. refl)

pub moved_up_more : (xs : List Entry) (i : ℕ) → must_rise xs i ≡ true → moved_up i xs i ≡ moved_up (parent i) (swap xs i (parent i)) (parent i)
unfolding moved_up
moved_up_more xs i e = grind (arith, false≢true, root_stays, if_true, moved_up_enough)

pub moved_up_end : (xs : List Entry) (i : ℕ) → must_rise xs i ≡ false → moved_up i xs i ≡ record { array = xs; place = i }
unfolding moved_up
moved_up_end xs i e = grind arith

moved_down_enough : (n m : ℕ) (xs : List Entry) (i : ℕ) → length xs ≤ n + i → length xs ≤ m + i → moved_down n xs i ≡ moved_down m xs i
unfolding moved_down
moved_down_enough zero zero xs i p q = refl
moved_down_enough zero (suc m) xs i p q = sym (if_false (must_sink xs i) _ _ (leaf_stays xs i (omega arith)))
moved_down_enough (suc n) zero xs i p q = if_false (must_sink xs i) _ _ (leaf_stays xs i (omega arith))
moved_down_enough (suc n) (suc m) xs i p q =
    let below = (child_is xs i).1 in
    let long = length-swap xs i (lesser_child xs i) in
    simp (if_same, (moved_down_enough n m (swap xs i (lesser_child xs i)) (lesser_child xs i) (omega arith) (omega arith)))

pub moved_down_more : (xs : List Entry) (i : ℕ) → must_sink xs i ≡ true
    → moved_down (length xs) xs i ≡ moved_down (length (swap xs i (lesser_child xs i))) (swap xs i (lesser_child xs i)) (lesser_child xs i)
unfolding moved_down
moved_down_more xs i e = grind (arith, child_is, child_within, length-swap, if_true, moved_down_enough)

pub moved_down_end : (xs : List Entry) (i : ℕ) → must_sink xs i ≡ false → moved_down (length xs) xs i ≡ record { array = xs; place = i }
unfolding moved_down
moved_down_end xs i e = at (length xs) where
  at : (n : ℕ) → moved_down n xs i ≡ record { array = xs; place = i }
  at n = grind arith

raised_enough : (n m : ℕ) (xs : List Entry) (from to : ℕ) → from ≤ n → from ≤ m → raised n xs from to ≡ raised m xs from to
unfolding raised
raised_enough zero zero xs from to p q = refl
raised_enough zero (suc m) xs from to p q = sym (if_false (ltb to from) _ _ (le-ltb to from (omega arith)))
raised_enough (suc n) zero xs from to p q = if_false (ltb to from) _ _ (le-ltb to from (omega arith))
raised_enough (suc n) (suc m) xs from to p q = if_same (ltb to from) _ _ _ _
    (λ e. let up = ltb-true to from e in raised_enough n m (swap xs from (parent from)) (parent from) to (omega arith) (omega arith)) (λ _. refl)

pub raised_more : (xs : List Entry) (from to : ℕ) → to < from
    → raised from xs from to ≡ raised (parent from) (swap xs from (parent from)) (parent from) to
unfolding raised
raised_more xs from to p = grind (arith, if_true, lt-ltb, raised_enough)

pub raised_end : (xs : List Entry) (from to : ℕ) → from ≤ to → raised from xs from to ≡ xs
unfolding raised
raised_end xs from to p = grind arith

lowered_enough : (n m : ℕ) (xs : List Entry) (from to : ℕ) → to ≤ n → to ≤ m → lowered n xs from to ≡ lowered m xs from to
unfolding lowered
lowered_enough zero zero xs from to p q = refl
lowered_enough zero (suc m) xs from to p q = sym (if_false (ltb from to) _ _ (le-ltb from to (omega arith)))
lowered_enough (suc n) zero xs from to p q = if_false (ltb from to) _ _ (le-ltb from to (omega arith))
lowered_enough (suc n) (suc m) xs from to p q = simp (if_same, ltb-true, (lowered_enough n m xs from (parent to) (omega arith) (omega arith)))

pub lowered_more : (xs : List Entry) (from to : ℕ) → from < to → lowered to xs from to ≡ swap (lowered (parent to) xs from (parent to)) (parent to) to
unfolding lowered
lowered_more xs from to p = grind (arith, if_true, lt-ltb, lowered_enough)

pub lowered_end : (xs : List Entry) (from to : ℕ) → to ≤ from → lowered to xs from to ≡ xs
unfolding lowered
lowered_end xs from to p = grind arith

-- no move changes the length
pub length-moved_up : (n : ℕ) (xs : List Entry) (i : ℕ) → length (moved_up n xs i).array ≡ length xs
unfolding moved_up
length-moved_up zero xs i = refl
length-moved_up (suc n) xs i = grind (arith, if_when, length-swap, (length-moved_up n (swap xs i (parent i)) (parent i)))

pub length-moved_down : (n : ℕ) (xs : List Entry) (i : ℕ) → length (moved_down n xs i).array ≡ length xs
unfolding moved_down
length-moved_down zero xs i = refl
length-moved_down (suc n) xs i = if_when (λ (m : Moved). length m.array ≡ length xs) (must_sink xs i) _ _
    (λ _. length-moved_down n (swap xs i (lesser_child xs i)) (lesser_child xs i) ∙ length-swap xs i (lesser_child xs i)) (λ _. refl)

pub length-raised : (n : ℕ) (xs : List Entry) (from to : ℕ) → length (raised n xs from to) ≡ length xs
unfolding raised
length-raised zero xs from to = refl
length-raised (suc n) xs from to = grind (arith, if_when, length-swap, (length-raised n (swap xs from (parent from)) (parent from) to))

pub length-lowered : (n : ℕ) (xs : List Entry) (from to : ℕ) → length (lowered n xs from to) ≡ length xs
unfolding lowered
length-lowered zero xs from to = refl
length-lowered (suc n) xs from to = grind (arith, if_when, length-swap, (length-lowered n xs from (parent to)))

-- where an entry comes to rest
pub moved_up_above : (n : ℕ) (xs : List Entry) (i : ℕ) → (moved_up n xs i).place ≤ i
unfolding moved_up
moved_up_above zero xs i = omega arith
moved_up_above (suc n) xs i = grind (arith, if_when, (moved_up_above n (swap xs i (parent i)) (parent i)))

pub moved_down_within : (n : ℕ) (xs : List Entry) (i : ℕ) → i < length xs → (i ≤ (moved_down n xs i).place) × ((moved_down n xs i).place < length xs)
unfolding moved_down
moved_down_within zero xs i p = (omega arith, p)
moved_down_within (suc n) xs i p = if_when (λ (m : Moved). (i ≤ m.place) × (m.place < length xs)) (must_sink xs i) _ _
    (λ e. let within = child_within xs i e in
    let below = (child_is xs i).1 in
    let long = length-swap xs i (lesser_child xs i) in
    let on = moved_down_within n (swap xs i (lesser_child xs i)) (lesser_child xs i) (omega arith) in
    (omega arith, omega arith)) (λ _. (omega arith, p))

-- what went up goes down again the same way
pub lowered-raised : (n : ℕ) (xs : List Entry) (i p : ℕ) → i < length xs → lowered n (raised n xs i p) p i ≡ xs
unfolding raised lowered
lowered-raised zero xs i p l = refl
lowered-raised (suc n) xs i p l = grind (arith, length-swap, swap-swap, (lowered-raised n (swap xs i (parent i)) (parent i) p))

-- an entry that moved up went along the chain of parents
pub raised-moved_up : (n : ℕ) (xs : List Entry) (i : ℕ) → raised n xs i (moved_up n xs i).place ≡ (moved_up n xs i).array
unfolding raised moved_up
raised-moved_up zero xs i = refl
raised-moved_up (suc n) xs i =
    grind (arith, if_when, moved_up_above, rises_from, if_true, lt-ltb, if_false, le-ltb, (raised-moved_up n (swap xs i (parent i)) (parent i))) steps
    250000

-- an entry that moved down goes up again through the place where it was
pub raised-moved_down : (n : ℕ) (xs : List Entry) (i to : ℕ) → to ≤ i → i < length xs
    → raised (moved_down n xs i).place (moved_down n xs i).array (moved_down n xs i).place to ≡ raised i xs i to
unfolding moved_down
raised-moved_down zero xs i to p l = refl
raised-moved_down (suc n) xs i to p l = if_when (λ (m : Moved). raised m.place m.array m.place to ≡ raised i xs i to) (must_sink xs i) _ _
    (λ e. let within = child_within xs i e in
    let child = child_is xs i in
    let long = length-swap xs i (lesser_child xs i) in
    raised-moved_down n (swap xs i (lesser_child xs i)) (lesser_child xs i) to (omega arith) (omega arith)
    ∙ raised_more (swap xs i (lesser_child xs i)) (lesser_child xs i) to (omega arith)
    ∙ ap (λ (k : ℕ). raised k (swap (swap xs i (lesser_child xs i)) (lesser_child xs i) k) k to) child.0
    ∙ ap (λ (ys : List Entry). raised i ys i to) (swap-swap xs i (lesser_child xs i) l within)) (λ _. refl)

-- an entry settles up or down
pub settled_up : (xs : List Entry) (i : ℕ) → must_rise xs i ≡ true → settled xs i ≡ moved_up i xs i
unfolding settled
settled_up xs i e = if_true (must_rise xs i) _ _ e

pub settled_down : (xs : List Entry) (i : ℕ) → must_rise xs i ≡ false → settled xs i ≡ moved_down (length xs) xs i
unfolding settled
settled_down xs i e = if_false (must_rise xs i) _ _ e

pub length-settled : (xs : List Entry) (i : ℕ) → length (settled xs i).array ≡ length xs
unfolding settled
length-settled xs i = grind (arith, if_when, length-moved_up, length-moved_down)

pub settled_within : (xs : List Entry) (i : ℕ) → i < length xs → (settled xs i).place < length xs
unfolding settled
settled_within xs i p = grind (arith, if_when, moved_up_above, moved_down_within)
