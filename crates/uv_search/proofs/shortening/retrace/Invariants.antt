use Rattle.uv_search.proofs.Names.{◌≡◌, ◌≤◌, length, take, LeadPast}
use Rattle.uv_search.proofs.Retracing.{Stands}
use Rattle.uv_search.proofs.shortening.retrace.Given as goal

abbrev pub invariant-moves : goal.invariant-moves
invariant-moves g l =
    let m = g.M.Maze in
    let r = m.rules l.fn.maze in
    record {
      rules : m.rules l.maze ≡ r;
      few : length l.made.items ≤ l.index;
      past : LeadPast (m.moves r) (m.next r) (m.place l.fn.maze) (take l.index l.way) (m.place l.maze);
      stands : Stands (m.moves r) (m.next r) (m.place l.fn.maze) (m.before l.fn.maze) l.made.items (m.place l.maze) (m.before l.maze);
    }
