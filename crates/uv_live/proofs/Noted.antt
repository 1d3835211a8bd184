-- The names that lines send to, one after another.
use Rattle.uv_live.proofs.Names.{◌≡◌, ◌∙◌, ◌<◌, ℕ, ◌+◌, ⊎_elim, List, ap, sym, subst, arith, cases_eq, count_by, Contains, Var, ThreadLine, AreNoted, is_line}

abbrev var_of : ℕ → Var
var_of n = record { 0 = n }

-- a name more was looked at, and is among these where some line sends to it
pub noted_more : (lines : List ThreadLine) (names more : List Var) (n : ℕ) (v : Var) → v.0 ≡ n → ((w : Var) → Contains names w → Contains more w)
    → (0 < count_by (is_line v.0) lines → Contains more v) → AreNoted n lines names → AreNoted (n + 1) lines more
noted_more lines names more n v is kept here before = record {
  each = λ w low some.
      ⊎_elim
      (λ (same : w.0 ≡ n). subst (λ (x : Var). 0 < count_by (is_line x.0) lines → Contains more x) (ap var_of (is ∙ sym same)) here some)
      (λ other. kept w (before.each w (omega (arith, low, other)) some))
      (cases_eq w.0 n);
}
