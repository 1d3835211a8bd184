-- The jobs that wait, among the places that cancelled ones left behind.
use Rattle.std.specs.Prelude.{◌≡◌, ◌+◌, ℕ, List, [], ◌∷◌, Bool, true, false, Option, Some, None, length}
use Rattle.uv_work.specs.declared.job.Job.{Job}
use Rattle.uv_pool.specs.Rows.{at_number}

-- those that are there
abbrev pub jobs_of : List (Option Job) → List Job
jobs_of [] = []
jobs_of (None ∷ xs) = jobs_of xs
jobs_of (Some job ∷ xs) = job ∷ jobs_of xs

-- the front place isn't an empty one
abbrev pub front_waits : List (Option Job) → Bool
front_waits [] = true
front_waits (None ∷ xs) = false
front_waits (Some job ∷ xs) = true

-- the job of a number left: each of those that are there now was there before under its number, which isn't that one,
-- and the next job gets the number that it would have got before
pub record Leaves (first : ℕ) (xs : List (Option Job)) (number later : ℕ) (ys : List (Option Job)) : Type 0 where
  pub still : (n : ℕ) (job : Job) → at_number later ys n ≡ Some (Some job) → (at_number first xs n ≡ Some (Some job)) × (n ≡ number → ⊥)
  pub next : later + length ys ≡ first + length xs

-- the front left; without one nothing waited
abbrev pub Pops : ℕ → List (Option Job) → Option Job → ℕ → List (Option Job) → Type 0
Pops first xs None later ys = (xs ≡ []) × (ys ≡ xs) × (later ≡ first)
Pops first xs (Some job) later ys = (jobs_of xs ≡ job ∷ jobs_of ys) × (at_number first xs first ≡ Some (Some job)) × Leaves first xs first later ys
