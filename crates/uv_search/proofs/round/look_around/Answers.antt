use Rattle.uv_search.proofs.Names.{[], refl}
use Rattle.uv_search.proofs.Nearby.{few_here}
use Rattle.uv_search.proofs.round.look_around.Goals as goal

pub places-init : goal.places-init
places-init g c =
    let m = g.M.Maze in
    let r = m.rules c.args.maze.now in
    record {
      rules = refl;
      place = refl;
      before = refl;
      keys = few_here (m.moves r) (m.next r) (m.key r) (m.IsDeep r) (m.place c.args.maze.now) (m.place c.args.maze.now) c.args.round.now.seen
          c.args.limit c.enter_here.new.seen c.in_ok-enter_here.field-0 ([], refl) c.in_ok-enter_here.ensures.ok;
    }
