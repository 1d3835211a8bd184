use Rattle.uv_search.proofs.Names.{◌≡◌, ◌∷◌, drop}
use Rattle.uv_search.proofs.shortening.go_back.Given as goal

abbrev pub invariant-back : goal.invariant-back
invariant-back g l =
    let m = g.M.Maze in
    record {
      rules : m.rules l.maze ≡ m.rules l.fn.maze;
      before : drop l.counter (m.place l.fn.maze ∷ m.before l.fn.maze) ≡ m.place l.maze ∷ m.before l.maze;
    }
