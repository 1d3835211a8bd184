use Rattle.uv_search.proofs.Names.{◌≡◌, ◌∷◌, drop, take, AreFew, IsPassed, LeadTo}
use Rattle.uv_search.proofs.near.pass.Given as goal

abbrev pub invariant-moves : goal.invariant-moves
invariant-moves g l =
    let m = g.M.Maze in
    let r = m.rules l.fn.maze in
    record {
      rules : m.rules l.maze ≡ r;
      led : LeadTo (m.moves r) (m.next r) (m.place l.fn.maze) (take l.index l.way) (m.place l.maze);
      passed : IsPassed (m.moves r) (m.next r) (m.key r) (m.IsDeep r) l.round.seen (m.place l.fn.maze) (take l.index l.way);
      keys : AreFew (m.moves r) (m.next r) (m.key r) (m.IsDeep r) (m.place l.fn.maze) l.limit l.fn.round.seen
          → AreFew (m.moves r) (m.next r) (m.key r) (m.IsDeep r) (m.place l.fn.maze) l.limit l.round.seen;
      before : drop l.index (m.place l.maze ∷ m.before l.maze) ≡ m.place l.fn.maze ∷ m.before l.fn.maze;
    }
