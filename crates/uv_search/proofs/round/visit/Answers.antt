use Rattle.uv_search.proofs.Names.{take}
use Rattle.uv_search.proofs.Retracing.{went_back}
use Rattle.uv_search.proofs.round.visit.Goals as goal

pub returns-clause-looked : goal.returns-clause-looked
returns-clause-looked g c =
    let led = c.in_ok-made.ensures.led in
    let looked = rw c.walk.ensures.rules at c.in_ok-found.ensures.looked in
    let back = went_back (rw (looked.0, looked.1) at c.go_back.ensures.before) led.2 in
    (back.0, back.1, looked.2 (g.M.Maze.place c.args.maze.now) (take c.in_ok-made.made c.args.way.now, led.1))
