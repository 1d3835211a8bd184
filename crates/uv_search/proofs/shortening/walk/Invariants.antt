use Rattle.uv_search.proofs.Names.{◌≡◌, ◌∷◌, drop, take, IsWay, LeadTo}
use Rattle.uv_search.proofs.shortening.walk.Given as goal

abbrev pub invariant-moves : goal.invariant-moves
invariant-moves g l =
    let m = g.M.Maze in
    let r = m.rules l.fn.maze in
    record {
      rules : m.rules l.maze ≡ r;
      led : LeadTo (m.moves r) (m.next r) (m.place l.fn.maze) (take l.index l.way) (m.place l.maze);
      mute : (q : m.Place) → IsWay (m.moves r) (m.next r) (m.key r) (m.IsDeep r) (m.place l.fn.maze) (take l.index l.way) q → ⊥;
      before : drop l.index (m.place l.maze ∷ m.before l.maze) ≡ m.place l.fn.maze ∷ m.before l.fn.maze;
    }
