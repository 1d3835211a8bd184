-- The names of the `thread` lines are the script's.
use Rattle.uv_run.proofs.Names.{◌≡◌, List, All, length, sym, subst, ThreadLine, Program, IsThreadLine, AreNamed}

pub are_named : (p : Program) (lines : List ThreadLine) → lines ≡ p.threads → All (IsThreadLine (length p.names)) p.threads →
    AreNamed (length p.names) lines
are_named p lines e each = subst (AreNamed (length p.names)) (sym e) (λ k d within. (each k d within).declared)
