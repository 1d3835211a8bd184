use Rattle.uv_search.proofs.Names.{◌≡◌, ◌≤◌, length, IsWay}
use Rattle.uv_search.proofs.shortening.shorten.Given as goal

abbrev pub invariant-tries : goal.invariant-tries
invariant-tries g l =
    let m = g.M.Maze in
    let r = m.rules l.fn.maze in
    record {
      rules : m.rules l.maze ≡ m.rules l.fn.maze;
      place : m.place l.maze ≡ m.place l.fn.maze;
      before : m.before l.maze ≡ m.before l.fn.maze;
      long : length l.way.items ≤ length l.fn.way.items;
      still : (q : m.Place) → IsWay (m.moves r) (m.next r) (m.key r) (m.IsDeep r) (m.place l.fn.maze) l.fn.way.items q
          → (t : m.Place) × IsWay (m.moves r) (m.next r) (m.key r) (m.IsDeep r) (m.place l.fn.maze) l.way.items t;
    }

abbrev pub decreases-tries : goal.decreases-tries
decreases-tries g l = l.left
