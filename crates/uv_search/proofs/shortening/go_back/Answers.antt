use Rattle.uv_search.proofs.Names.{◌∷◌, arith, ◌∙◌}
use Rattle.uv_search.proofs.Retracing.{drop_next, some_left}
use Rattle.uv_search.proofs.shortening.go_back.Goals as goal

pub back-requires : goal.back-requires
back-requires g c =
    let m = g.M.Maze in
    let before = c.back.invariant.before in
    omega (
      arith,
      c.requires,
      some_left c.back.counter (m.place c.back.maze) (m.place c.args.maze.now ∷ m.before c.args.maze.now)
          (m.before c.back.maze) before,
    )

pub back-preserved : goal.back-preserved
back-preserved g c =
    let m = g.M.Maze in
    record {
      rules = c.back-in-back.ensures.rules ∙ c.back.invariant.rules;
      before = drop_next c.back.counter (m.place c.args.maze.now ∷ m.before c.args.maze.now) (m.place c.back.maze) (m.place c.back-in-back.new.self)
          (m.before c.back.maze) (m.before c.back-in-back.new.self) c.back.invariant.before c.back-in-back.ensures.before;
    }
