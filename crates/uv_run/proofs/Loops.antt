-- No step of the loop has the line of a worker, or that of a cancel from outside.
use Rattle.uv_run.proofs.Names.{◌≡◌, Option, subst, Loop, Seen, Program, State, Moves, IsOfLoop, OfLoop, loop_lines}
use Rattle.uv_model.specs.Next.{next}

pub of_loop : (p : Program) (s t : State) (l : Option Seen) → next p s Loop ≡ Moves t l → IsOfLoop l
of_loop p s t l e = subst OfLoop e (loop_lines p s)
