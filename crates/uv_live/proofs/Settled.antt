-- A run is settled just where no step is one that none of its threads does, once all else agrees.
use Rattle.uv_live.proofs.Names.{◌≡◌, ◌∙◌, ◌==◌, ℕ, List, Bool, true, false, sym, refl, count_by, eqb-true, eqb-false, Standing, Course, Plan, Decides, Worked, IsSettled, is_unthreaded}

pub is_settled : {S : Type 0} (plan : Plan S) (s : Course) (book : Standing) (shifts : List Worked) (counts : List ℕ) (others : ℕ)
    → others ≡ count_by is_unthreaded s.steps → (count_by is_unthreaded s.steps ≡ 0 → IsSettled plan s book shifts counts)
    → Decides (others == 0) (IsSettled plan s book shifts counts)
is_settled plan s book shifts counts others are settles = at (others == 0) refl where
  at : (b : Bool) → (others == 0) ≡ b → Decides b (IsSettled plan s book shifts counts)
  at true e = settles (sym are ∙ eqb-true others 0 e)
  at false e = λ settled. eqb-false others 0 e (are ∙ settled.unthreaded)
