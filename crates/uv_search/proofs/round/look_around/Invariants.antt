use Rattle.uv_search.proofs.Names.{◌≡◌, AreFew}
use Rattle.uv_search.proofs.round.look_around.Given as goal

abbrev pub invariant-places : goal.invariant-places
invariant-places g l =
    let m = g.M.Maze in
    let r = m.rules l.fn.maze in
    record {
      rules : m.rules l.maze ≡ r;
      place : m.place l.maze ≡ m.place l.fn.maze;
      before : m.before l.maze ≡ m.before l.fn.maze;
      keys : AreFew (m.moves r) (m.next r) (m.key r) (m.IsDeep r) (m.place l.fn.maze) l.limit l.fn.round.seen
          → AreFew (m.moves r) (m.next r) (m.key r) (m.IsDeep r) (m.place l.fn.maze) l.limit l.round.seen;
    }

abbrev pub decreases-places : goal.decreases-places
decreases-places g l = l.left
