use Rattle.uv_search.proofs.Names.{◌≡◌, AreFew, CanLead}
use Rattle.uv_search.proofs.round.spread.Given as goal

abbrev pub invariant-moves : goal.invariant-moves
invariant-moves g l =
    let m = g.M.Maze in
    let r = m.rules l.fn.maze in
    record {
      rules : m.rules l.maze ≡ r;
      place : m.place l.maze ≡ m.place l.fn.maze;
      before : m.before l.maze ≡ m.before l.fn.maze;
      keys : (p : m.Place) → CanLead (m.moves r) (m.next r) p (m.place l.fn.maze)
          → AreFew (m.moves r) (m.next r) (m.key r) (m.IsDeep r) p l.limit l.fn.round.seen
          → AreFew (m.moves r) (m.next r) (m.key r) (m.IsDeep r) p l.limit l.round.seen;
    }
