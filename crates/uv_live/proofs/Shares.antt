-- What is left of a log's part for a worker, and of the finishes that the shares count.
use Rattle.uv_live.proofs.Names.{◌≡◌, ◌∙◌, ◌<◌, ◌≤◌, ⊎_elim, ℕ, ◌+◌, ◌-◌, true, List, Some, map, option_map, length, take, get_or, slice_get, sym, ap, subst, arith, cases_lt, length-map, get_or-map, sum_by_more, sum_by_more_le, slice_get-map, slice_get-get_or, slice_get_within, PoolEvent, are_turns, finish_count, Worked, AreParts, AreShifts, IsByWorker, counted}

-- what holds below k and at k holds below k + 1
pub one_more : (P : ℕ → Type 0) (k : ℕ) → ((j : ℕ) → j < k → P j) → P k → (j : ℕ) → j < k + 1 → P j
one_more P k before here j low =
    let same : k ≤ j → k ≡ j = λ past. omega arith in
    ⊎_elim (λ (less : j < k). before j less) (λ (past : k ≤ j). subst P (same past) here) (cases_lt j k)

pub mapped_at : {X Y : Type 0} (f : X → Y) (xs : List X) (k : ℕ) (d : X) → k < length xs → slice_get (map f xs) k ≡ Some (f (get_or xs k d))
mapped_at f xs k d within = slice_get-map f xs k ∙ ap (option_map f) (slice_get-get_or xs k d within)

-- a shift's own facts, where it is of that worker
pub is_by : (k : ℕ) (x : Worked) → x.worker ≡ k → are_turns x.worker x.events ≡ true → x.finishes ≡ finish_count x.events → IsByWorker k x
is_by k x worker turns counts = (worker, subst (λ (j : ℕ). are_turns j x.events ≡ true) worker turns, counts)

-- each of them is so, by its number
abbrev pub Each : (ℕ → Worked → Type 0) → List Worked → Type 0
Each P shifts = (j : ℕ) (x : Worked) → slice_get shifts j ≡ Some x → P j x

-- and each below k
abbrev pub EachBelow : (ℕ → Worked → Type 0) → List Worked → ℕ → Type 0
EachBelow P shifts k = (j : ℕ) → j < k → (x : Worked) → slice_get shifts j ≡ Some x → P j x

pub shift_else : {X : Type 0} (f : X → Worked) (P : ℕ → Worked → Type 0) (xs : List X) (k : ℕ) (d : X) → k < length xs
    → (P k (f (get_or xs k d)) → ⊥) → Each P (map f xs) → ⊥
shift_else f P xs k d within other all = other (all k (f (get_or xs k d)) (mapped_at f xs k d within))

pub shift_more : {X : Type 0} (f : X → Worked) (P : ℕ → Worked → Type 0) (xs : List X) (k : ℕ) (d : X) → k < length xs
    → P k (f (get_or xs k d)) → EachBelow P (map f xs) k → EachBelow P (map f xs) (k + 1)
shift_more f P xs k d within here before =
    one_more (λ (j : ℕ). (x : Worked) → slice_get (map f xs) j ≡ Some x → P j x) k before last where
      last : (x : Worked) → slice_get (map f xs) k ≡ Some x → P k x
      last x at =
          let some : Some (f (get_or xs k d)) ≡ Some x = sym (mapped_at f xs k d within) ∙ at in
          let same : f (get_or xs k d) ≡ x = cc in
          subst (P k) same here

pub shift_all : {X : Type 0} (f : X → Worked) (P : ℕ → Worked → Type 0) (xs : List X) (k : ℕ) → length xs ≤ k → EachBelow P (map f xs) k
    → Each P (map f xs)
shift_all f P xs k past before j x at =
    let long : length (map f xs) ≡ length xs = length-map xs f in
    before j (let within = slice_get_within (map f xs) j x at in omega (arith, within, long, past)) x at

-- the shifts are those of the workers, each with the log's part for its worker
pub are_shifts : (log : List PoolEvent) (shifts : List Worked) → AreParts log shifts → Each IsByWorker shifts → AreShifts log shifts
are_shifts log shifts parts by j x at = record {
  worker = (by j x at).0;
  events = parts j x at;
  turns = (by j x at).1;
  counts = (by j x at).2;
}

pub by_worker : (log : List PoolEvent) (shifts : List Worked) → AreShifts log shifts → Each IsByWorker shifts
by_worker log shifts h j x at = let shift = h j x at in (shift.worker, shift.turns, shift.counts)

pub share_more : {X : Type 0} (f : X → Worked) (xs : List X) (k : ℕ) (d : X) (total left share : ℕ) → k < length xs
    → share ≡ (f (get_or xs k d)).finishes → share ≤ left → total ≡ left + counted (take k (map f xs))
    → total ≡ (left - share) + counted (take (k + 1) (map f xs))
share_more f xs k d total left share within is fits before =
    let inside : k < length (map f xs) = let P : ℕ → Type 0 = λ n. k < n in subst P (sym (length-map xs f)) within in
    let sums = sum_by_more (λ (x : Worked). x.finishes) (map f xs) k (f d) inside in
    let at = ap (λ (x : Worked). x.finishes) (get_or-map f xs k d (f d) within) in
    omega (arith, sums, at, is, before)

pub share_over : {X : Type 0} (f : X → Worked) (xs : List X) (k : ℕ) (d : X) (total left share : ℕ) → k < length xs
    → share ≡ (f (get_or xs k d)).finishes → left < share → total ≡ left + counted (take k (map f xs)) → total ≡ counted (map f xs) → ⊥
share_over f xs k d total left share within is over before all =
    let inside : k < length (map f xs) = let P : ℕ → Type 0 = λ n. k < n in subst P (sym (length-map xs f)) within in
    let sums = sum_by_more_le (λ (x : Worked). x.finishes) (map f xs) k (f d) inside in
    let at = ap (λ (x : Worked). x.finishes) (get_or-map f xs k d (f d) within) in
    omega (arith, sums, at, is, before, all)
