-- The first worker of which something holds, and the ranks of requests.
use Rattle.uv_find.proofs.Names.{◌≡◌, ℕ, zero, suc, ◌+◌, ◌<◌, ◌≤◌, ◌==◌, ◌&&◌, ◌||◌, not, List, [], ◌∷◌, Bool, true, false, cond, length, take, drop, slice_get, nat_lt, nat_le, refl, ap, ap₂, sym, subst, ◌∙◌, Option, Some, None, if◌then◌else◌, add-one, arith, map, option_map, position_from, nat_tests, drop_all, same_Some, none-some, Id, Slot, Content, State, id_le, with_run, ordered, name_at, as_id, run_names, key_at, run_in, count_before, rank_in}

abbrev pub Run : Type 0
Run = Option Id

-- ---- the first worker of which something holds

module _ (test : Run → Bool) where
  -- this one, counted from there
  record IsFirst (xs : List Run) (i k : ℕ) : Type 0 where
    place : ℕ
    there : k ≡ i + place
    run : Run
    runs : slice_get xs place ≡ Some run
    holds : test run ≡ true

  first_is : (xs : List Run) (i k : ℕ) → position_from test i xs ≡ Some k → IsFirst xs i k
  first_is [] i k e = absurd (none-some k e)
  first_is (x ∷ xs) i k e = by (test x) refl e (first_is xs (i + 1) k) where
    by : (b : Bool) → test x ≡ b → cond b (Some i) (position_from test (i + 1) xs) ≡ Some k
        → (position_from test (i + 1) xs ≡ Some k → IsFirst xs (i + 1) k) → IsFirst (x ∷ xs) i k
    by true is h behind =
        let one : i ≡ k = same_Some i k h in
        record { place = 0; there = omega (arith, one); run = x; runs = refl; holds = is }
    by false is h behind =
        let more = behind h in
        let there = more.there in
        record { place = suc more.place; there = omega (arith, there); run = more.run; runs = more.runs; holds = more.holds }

  -- what holds of the first holds of it
  pub first_at : (xs : List Run) (k : ℕ) → position_from test 0 xs ≡ Some k → (run : Run) × (slice_get xs k ≡ Some run) × (test run ≡ true)
  first_at xs k e =
      let first = first_is xs 0 k e in
      let there = first.there in
      let same : first.place ≡ k = omega (arith, there) in
      (first.run, subst (λ n. slice_get xs n ≡ Some first.run) same first.runs, first.holds)

  -- where it holds of one, it holds of a first one
  pub first_some : (xs : List Run) (i j : ℕ) (run : Run) → slice_get xs j ≡ Some run → test run ≡ true → (k : ℕ) × (position_from test i xs ≡ Some k)
  first_some [] i j run there is = absurd (none-some run there)
  first_some (x ∷ xs) i zero run there is =
      (i, ap (λ b. cond b (Some i) (position_from test (i + 1) xs)) (ap test (same_Some x run there) ∙ is))
  first_some (x ∷ xs) i (suc j) run there is = by (test x) (first_some xs (i + 1) j run there is) where
    by : (b : Bool) → (k : ℕ) × (position_from test (i + 1) xs ≡ Some k) → (k : ℕ) × (cond b (Some i) (position_from test (i + 1) xs) ≡ Some k)
    by true more = (i, refl)
    by false more = more

-- ---- as a loop finds it

drop_run : (xs : List Run) (k : ℕ) → k < length xs → drop k xs ≡ run_in xs k ∷ drop (k + 1) xs
drop_run xs k within = to xs k within ∙ ap (λ n. run_in xs k ∷ drop n xs) (sym (add-one k)) where
  to : (ys : List Run) (j : ℕ) → j < length ys → drop j ys ≡ run_in ys j ∷ drop (suc j) ys
  to [] j less = absurd (omega (arith, less))
  to (y ∷ ys) zero less = refl
  to (y ∷ ys) (suc j) less = to ys j (omega (arith, less))

module _ (test : Run → Bool) (xs : List Run) (k : ℕ) where
  abbrev pub IsLeft : Type 0
  IsLeft = position_from test k (drop k xs) ≡ position_from test 0 xs

  next_is : k < length xs → (b : Bool) → test (run_in xs k) ≡ b
      → position_from test k (drop k xs) ≡ cond b (Some k) (position_from test (k + 1) (drop (k + 1) xs))
  next_is within b is = ap (position_from test k) (drop_run xs k within) ∙ ap (λ t. cond t (Some k) (position_from test (k + 1) (drop (k + 1) xs))) is

  pub found_here : k < length xs → test (run_in xs k) ≡ true → IsLeft → Some k ≡ position_from test 0 xs
  found_here within is left = sym (next_is within true is) ∙ left

  pub found_later : k < length xs → test (run_in xs k) ≡ false → IsLeft → position_from test (k + 1) (drop (k + 1) xs) ≡ position_from test 0 xs
  found_later within is left = sym (next_is within false is) ∙ left

  pub found_nowhere : length xs ≤ k → IsLeft → None ≡ position_from test 0 xs
  found_nowhere past left = sym (ap (position_from test k) (drop_all k xs past)) ∙ left

-- ---- ranks

-- one more
pub rank_next : (key : Id) (xs : List Run) (k : ℕ) → k < length xs
    → rank_in (take k xs) key + count_before key (run_in xs k) ≡ rank_in (take (k + 1) xs) key
rank_next key xs k within = to xs k within ∙ ap (λ n. rank_in (take n xs) key) (sym (add-one k)) where
  none : (c : ℕ) → 0 + c ≡ c + 0
  none c = omega arith

  more_by : (a b c d : ℕ) → b + c ≡ d → (a + b) + c ≡ a + d
  more_by a b c d e = omega (arith, e)

  to : (ys : List Run) (j : ℕ) → j < length ys → rank_in (take j ys) key + count_before key (run_in ys j) ≡ rank_in (take (suc j) ys) key
  to [] j less = absurd (omega (arith, less))
  to (y ∷ ys) zero less = none (count_before key y)
  to (y ∷ ys) (suc j) less = grind (arith, (to ys j (omega (arith, less))))

-- in which order they are run says nothing of them
rank_with : (x : Run) (xs : List Run) (key : Id) → rank_in (with_run x xs) key ≡ rank_in (x ∷ xs) key
rank_with x [] key = refl
rank_with x (y ∷ ys) key = grind (arith, (rank_with x ys key))

pub rank_ordered : (xs : List Run) (key : Id) → rank_in (ordered xs) key ≡ rank_in xs key
rank_ordered [] key = refl
rank_ordered (x ∷ xs) key = rank_with x (ordered xs) key ∙ ap (λ n. count_before key x + n) (rank_ordered xs key)

-- ---- that of what comes later is no less, and more where a request comes between

id_itself : (a : Id) → id_le a a ≡ true
id_itself a = grind arith

-- of two one comes first
total_by : (a g b h : ℕ) → (nat_lt a b || ((a == b) && nat_le g h)) ≡ false → (nat_lt b a || ((b == a) && nat_le h g)) ≡ true
total_by a g b h less = grind (arith, nat_tests)

both_by : (a g b h : ℕ) → (nat_lt a b || ((a == b) && nat_le g h)) ≡ true → (nat_lt b a || ((b == a) && nat_le h g)) ≡ true → (a ≡ b) × (g ≡ h)
both_by a g b h le ge = (grind (arith, nat_tests), grind (arith, nat_tests))

one_later : (x : Run) (m n : Id) → id_le m n ≡ true → count_before m x ≤ count_before n x
one_later x m n le = grind (arith)

-- a request isn't before itself, and it is before what it doesn't come behind
not_before : (x : Run) (id : Id) → x ≡ Some id → count_before id x ≡ 0
not_before x id same = ap (λ (y : Run). count_before id y) same ∙ ap (λ b. if◌then◌else◌ {A = ℕ} (not b) 1 0) (id_itself id)

sum_le : (a b c d : ℕ) → a ≤ b → c ≤ d → a + c ≤ b + d
sum_le a b c d e f = omega (arith, e, f)

sum_lt : (a b c d : ℕ) → a ≤ b → c < d → a + c < b + d
sum_lt a b c d e f = omega (arith, e, f)

one_lt : (a b c d : ℕ) → a ≡ 0 → b ≡ 1 → c ≤ d → a + c < b + d
one_lt a b c d e f g = omega (arith, e, f, g)

rank_later : (xs : List Run) (m n : Id) → id_le m n ≡ true → rank_in xs m ≤ rank_in xs n
rank_later [] m n le = omega arith
rank_later (x ∷ xs) m n le = search (sum_le, one_later, (rank_later xs m n le))

rank_more : (xs : List Run) (j : ℕ) (id key : Id) → slice_get xs j ≡ Some (Some id) → id_le key id ≡ false → rank_in xs id < rank_in xs key
rank_more (x ∷ xs) (suc j) id key there less = search (sum_lt, one_later, total_by, (rank_more xs j id key there less))
rank_more each e1 id key there less =
    grind (arith, none-some, same_Some, one_lt, not_before, rank_later, total_by, sum_lt, one_later)

-- requests of one rank come at one place
pub rank_one : (xs : List Run) (i j : ℕ) (a b : Id) → slice_get xs i ≡ Some (Some a) → slice_get xs j ≡ Some (Some b) →
    rank_in xs a ≡ rank_in xs b → a ≡ b
rank_one xs i j a b at_a at_b same = by (id_le a b) (id_le b a) refl refl where
  by : (p q : Bool) → id_le a b ≡ p → id_le b a ≡ q → a ≡ b
  by true true le ge = grind (arith, both_by)
  by true false le other = grind (arith, rank_more)
  by false q other ge = grind (arith, rank_more)

-- a rank is one of as many as there are workers
pub one_most : (key : Id) (x : Run) → count_before key x ≤ 1
one_most key x = grind arith

most_by : (a b c : ℕ) → a ≤ 1 → b ≤ c → a + b ≤ suc c
most_by a b c e f = omega (arith, e, f)

pub rank_most : (xs : List Run) (key : Id) → rank_in xs key ≤ length xs
rank_most [] key = omega arith
rank_most (x ∷ xs) key = most_by (count_before key x) (rank_in xs key) (length xs) (one_most key x) (rank_most xs key)

within_more : (a b c : ℕ) → a ≤ 1 → b < c → a + b < suc c
within_more a b c e f = omega (arith, e, f)

pub rank_within : (xs : List Run) (j : ℕ) (id : Id) → slice_get xs j ≡ Some (Some id) → rank_in xs id < length xs
rank_within (x ∷ xs) (suc j) id there = search (within_more, length, one_most, (rank_within xs j id there))
rank_within each e1 id there = grind (arith, none-some, not_before, same_Some, rank_most, within_more, one_most)

pub equal_is : (m n : ℕ) → m ≡ n → (m == n) ≡ true
equal_is m n e = grind (arith, nat_tests)

-- ---- ranks by names alone

-- what the workers run, by names
abbrev pub called : State → List Run
called s = run_names s.arena.slots s.running

-- where no two of a name are run, its rank is that of the name
pub rank_by_name : (slots : List (Slot Content)) (xs : List Run) (name slot : ℕ) →
    ((j : ℕ) (id : Id) → slice_get xs j ≡ Some (Some id) → name_at slots id ≡ name → id.slot ≡ slot) →
    rank_in (map (option_map (key_at slots)) xs) (record { slot = name; generation = slot })
    ≡ rank_in (run_names slots xs) (as_id name)
rank_by_name slots [] name slot each = refl
rank_by_name slots (None ∷ xs) name slot each = ap (λ n. 0 + n) (rank_by_name slots xs name slot (λ j. each (suc j)))
rank_by_name slots (Some id ∷ xs) name slot each =
    ap₂ (λ (b : Bool) (n : ℕ). if◌then◌else◌ {A = ℕ} (not b) 1 0 + n) (by (name_at slots id) id.slot (each 0 id refl))
    (rank_by_name slots xs name slot (λ j. each (suc j)))
  where
    by : (other place : ℕ) → (other ≡ name → place ≡ slot) →
        (nat_lt name other || ((name == other) && nat_le slot place)) ≡ (nat_lt name other || ((name == other) && nat_le 0 0))
    by other place one = grind (arith, nat_tests)
