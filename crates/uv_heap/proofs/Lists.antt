-- What stands where after two entries change places, and after one comes last.
use Rattle.uv_heap.proofs.Names.{◌≡◌, ℕ, ◌+◌, ◌<◌, ◌≤◌, ◌⊎◌, inl, inr, List, [], ◌∷◌, ◌++◌, length, set, take, refl, sym, ap, ◌∙◌, arith, swap, ext_get_or, get_or_append_left, get_or_push, length_push, get_or-take, length-take-le, length-set, get_or-set_same, get_or-set_other, Swapped, swapped_from_swap, length-swap, cases_eq, cases_lt, Entry, entry_at, no_entry}

pub swapped_at : (xs : List Entry) (a b : ℕ) → a < length xs → b < length xs → Swapped (λ i. entry_at xs i) (λ i. entry_at (swap xs a b) i) a b
swapped_at xs a b p q = swapped_from_swap xs (swap xs a b) a b no_entry p q refl

-- entries that changed places twice stand where they stood
pub swap-swap : (xs : List Entry) (a b : ℕ) → a < length xs → b < length xs → swap (swap xs a b) b a ≡ xs
swap-swap xs a b p q =
    let n = length-swap xs a b in
    let m = length-swap (swap xs a b) b a in
    let s = swapped_at xs a b p q in
    let t = swapped_at (swap xs a b) b a (omega arith) (omega arith) in
    ext_get_or no_entry (swap (swap xs a b) b a) xs (m ∙ n) (λ i _. at i s t (cases_eq i a) (cases_eq i b))
  where
    at : (i : ℕ) → Swapped (λ k. entry_at xs k) (λ k. entry_at (swap xs a b) k) a b
        → Swapped (λ k. entry_at (swap xs a b) k) (λ k. entry_at (swap (swap xs a b) b a) k) b a → (i ≡ a) ⊎ (i ≡ a → ⊥) → (i ≡ b) ⊎ (i ≡ b → ⊥)
        → entry_at (swap (swap xs a b) b a) i ≡ entry_at xs i
    at i s t e3 e4 = grind arith

-- a place of a list with one more is one of the list, or the last
pub at_push : (xs : List Entry) (e : Entry) (i : ℕ) → i < length (xs ++ e ∷ [])
    → ((i < length xs) × (entry_at (xs ++ e ∷ []) i ≡ entry_at xs i)) ⊎ ((i ≡ length xs) × (entry_at (xs ++ e ∷ []) i ≡ e))
at_push xs e i l = grind (arith, length_push, cases_lt, get_or_append_left, get_or_push)

-- the last entry put at a place, as when the two change places and the last one goes
pub take-swap : (xs : List Entry) (i n : ℕ) → n + 1 ≡ length xs → i < n → take n (swap xs i n) ≡ set (take n xs) i (entry_at xs n)
take-swap xs i n e p =
    let s = swapped_at xs i n (omega arith) (omega arith) in
    let swapped = length-swap xs i n in
    let short = length-take-le n xs (omega arith) in
    let cut = length-take-le n (swap xs i n) (omega arith) in
    let put = length-set (take n xs) i (entry_at xs n) in
    ext_get_or no_entry (take n (swap xs i n)) (set (take n xs) i (entry_at xs n)) (cut ∙ sym (put ∙ short))
    (λ k l. at k s (omega arith) (omega arith) (cases_eq k i))
  where
    at : (k : ℕ) → Swapped (λ j. entry_at xs j) (λ j. entry_at (swap xs i n) j) i n → k < n → i < length (take n xs) → (k ≡ i) ⊎ (k ≡ i → ⊥)
        → entry_at (take n (swap xs i n)) k ≡ entry_at (set (take n xs) i (entry_at xs n)) k
    at k s l m e4 = grind (arith, get_or-take, get_or-set_same, get_or-set_other)

-- an entry put last and then in the place of another, which goes last
pub swap-push : (ys : List Entry) (i : ℕ) (e : Entry) → i < length ys → swap (ys ++ e ∷ []) i (length ys) ≡ set ys i e ++ entry_at ys i ∷ []
swap-push ys i e p =
    let n = length_push ys e in
    let s = swapped_at (ys ++ e ∷ []) i (length ys) (omega arith) (omega arith) in
    let swapped = length-swap (ys ++ e ∷ []) i (length ys) in
    let put = length-set ys i e in
    let m = length_push (set ys i e) (entry_at ys i) in
    ext_get_or no_entry (swap (ys ++ e ∷ []) i (length ys)) (set ys i e ++ entry_at ys i ∷ []) (omega arith)
    (λ k l. at k s (omega arith) put (cases_eq k i) (cases_lt k (length ys)))
  where
    at : (k : ℕ) → Swapped (λ j. entry_at (ys ++ e ∷ []) j) (λ j. entry_at (swap (ys ++ e ∷ []) i (length ys)) j) i (length ys) → k ≤ length ys
        → length (set ys i e) ≡ length ys → (k ≡ i) ⊎ (k ≡ i → ⊥) → (k < length ys) ⊎ (length ys ≤ k)
        → entry_at (swap (ys ++ e ∷ []) i (length ys)) k ≡ entry_at (set ys i e ++ entry_at ys i ∷ []) k
    at k s l put e4 e5 = grind (arith, get_or_push, get_or_append_left, get_or-set_same, get_or-set_other)

-- an entry that changes places with itself
pub swap_same : (xs : List Entry) (a : ℕ) → a < length xs → swap xs a a ≡ xs
swap_same xs a p =
    let s = swapped_at xs a a p p in
    ext_get_or no_entry (swap xs a a) xs (length-swap xs a a) (λ i _. at i s (cases_eq i a))
  where
    at : (i : ℕ) → Swapped (λ k. entry_at xs k) (λ k. entry_at (swap xs a a) k) a a → (i ≡ a) ⊎ (i ≡ a → ⊥) → entry_at (swap xs a a) i ≡ entry_at xs i
    at i s e2 = grind arith

-- each of two entries put where the other stood
pub set-set : (xs : List Entry) (a b : ℕ) → a < length xs → b < length xs → set (set xs a (entry_at xs b)) b (entry_at xs a) ≡ swap xs a b
set-set xs a b p q =
    let s = swapped_at xs a b p q in
    let swapped = length-swap xs a b in
    let one = length-set xs a (entry_at xs b) in
    let two = length-set (set xs a (entry_at xs b)) b (entry_at xs a) in
    ext_get_or no_entry (set (set xs a (entry_at xs b)) b (entry_at xs a)) (swap xs a b) (two ∙ one ∙ sym swapped)
    (λ k l. at k s one (cases_eq k a) (cases_eq k b))
  where
    at : (k : ℕ) → Swapped (λ j. entry_at xs j) (λ j. entry_at (swap xs a b) j) a b → length (set xs a (entry_at xs b)) ≡ length xs
        → (k ≡ a) ⊎ (k ≡ a → ⊥) → (k ≡ b) ⊎ (k ≡ b → ⊥) → entry_at (set (set xs a (entry_at xs b)) b (entry_at xs a)) k ≡ entry_at (swap xs a b) k
    at k s one e f = grind (arith, get_or-set_same, get_or-set_other)
