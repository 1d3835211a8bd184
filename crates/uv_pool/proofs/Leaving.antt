-- A job leaves the queue.
use Rattle.uv_pool.proofs.Names.{inl, inr, ◌≡◌, ◌+◌, ◌-◌, ◌≤◌, ℕ, suc, List, ◌∷◌, Option, Some, None, length, drop, set, ap, sym, subst, arith, Job, at_number, jobs_of, Leaves, Pops}
use Rattle.uv_pool.proofs.Numbers.{number_popped, number_front, number_set, number_dropped}

-- at the front, and then so many empty places
pub front_pops : (first k : ℕ) (xs rest ys : List (Option Job)) (job : Job) → xs ≡ Some job ∷ rest → ys ≡ drop k rest
    → k + length ys ≡ length rest → jobs_of ys ≡ jobs_of rest → Pops first xs (Some job) (first + (1 + k)) ys
front_pops first k xs rest ys job is cut len jobs =
    let P : List (Option Job) → Type 0 = λ zs. Pops first zs (Some job) (first + (1 + k)) ys in
    let next : first + (1 + k) + length ys ≡ first + suc (length rest) = omega (arith, len) in
    let later : first + (1 + k) ≡ suc first + k = omega arith in
    subst P (sym is) (
      ap (λ (js : List Job). job ∷ js) (sym jobs),
      number_front first (Some job) rest,
      record {
        still = λ n other h.
            let cut_there : at_number (suc first + k) (drop k rest) n ≡ Some (Some other) = rw (← later, ← cut) h in
            number_popped first (Some job) rest n (Some other) (number_dropped k (suc first) rest n (Some other) cut_there);
        next = next;
      },
    )

-- anywhere, and then so many empty places at the front
pub removal_leaves : (first n k : ℕ) (xs ys : List (Option Job)) → first ≤ n → ys ≡ drop k (set xs (n - first) None) → k + length ys ≡ length xs
    → Leaves first xs n (first + k) ys
removal_leaves first n k xs ys low cut len = grind (arith, number_set, number_dropped)
