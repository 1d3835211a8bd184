-- The jobs that wait, after the places have changed.
use Rattle.uv_pool.proofs.Names.{drop-drop, ℕ, ◌+◌, ◌<◌, drop, length, get_or, sym, ◌∙◌, arith, ◌≡◌, List, [], ◌∷◌, ◌++◌, Option, Some, None, refl, ap, Job, jobs_of}

pub jobs_appended : (xs : List (Option Job)) (job : Job) → jobs_of (xs ++ Some job ∷ []) ≡ jobs_of xs ++ job ∷ []
jobs_appended [] job = refl
jobs_appended (None ∷ xs) job = jobs_appended xs job
jobs_appended (Some x ∷ xs) job = ap (λ (ys : List Job). x ∷ ys) (jobs_appended xs job)

-- so many empty places went from the front
pub record Skipped (skipped : ℕ) (xs ys : List (Option Job)) : Type 0 where
  pub rest : ys ≡ drop skipped xs
  pub jobs : jobs_of ys ≡ jobs_of xs
