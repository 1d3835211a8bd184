use Rattle.uv_search.proofs.Names.{◌≡◌, ◌+◌, ◌<◌, ◌≤◌, ◌∙◌, drop, take, length, suc, ap, sym, subst, arith, get_or, false, IsWay}
use Rattle.uv_search.proofs.Retracing.{answers_further, leads_further, mute_more, not_beyond, not_refused, take_whole, whole}
use Rattle.uv_search.proofs.shortening.walk.Goals as goal

pub moves-preserved : goal.moves-preserved
moves-preserved g c =
    let m = g.M.Maze in
    let r = m.rules c.args.maze.now in
    let same = c.moves.invariant.rules in
    let goes = rw (c.in-Moved.is, same) at c.in_ok-go.ensures.ok in
    let offered : get_or c.args.way.now c.moves.index 0 < m.moves r (m.place c.moves.maze) =
    rw (c.moves-in-moves.ensures.moves, same) at c.if-number-moves.false in
    let one : c.moves.index + 1 ≡ suc c.moves.index = omega arith in
    record {
      rules = c.go.ensures.rules ∙ same;
      led = leads_further (m.moves r) (m.next r) (m.place c.args.maze.now) c.args.way.now c.moves.index
          (m.place c.moves.maze) (m.place c.go.new.self) false c.moves-test.true c.moves.invariant.led offered goes.0;
      mute = λ q w. mute_more (m.moves r) (m.next r) (m.key r) (m.IsDeep r) (m.place c.args.maze.now) c.args.way.now c.moves.index
          (m.place c.moves.maze) (m.place c.go.new.self) q c.moves-test.true c.moves.invariant.led goes.0 w;
      before = rw one (ap (drop c.moves.index) goes.1 ∙ c.moves.invariant.before);
    }

pub returns-then-number-moves-clause-led : goal.returns-then-number-moves-clause-led
returns-then-number-moves-clause-led g c =
    let m = g.M.Maze in
    let r = m.rules c.args.maze.now in
    let i = c.moves.invariant in
    let beyond : m.moves r (m.place c.moves.maze) ≤ get_or c.args.way.now c.moves.index 0 =
    rw (c.moves-in-moves.ensures.moves, i.rules) at c.if-number-moves.true in (
      omega arith,
      i.led,
      i.before,
      λ q w. absurd (not_beyond (m.moves r) (m.next r) (m.key r) (m.IsDeep r) (m.place c.args.maze.now) c.args.way.now c.moves.index
          (m.place c.moves.maze) q c.moves-test.true i.led beyond w),
    )

pub returns-in-Answered-clause-led : goal.returns-in-Answered-clause-led
returns-in-Answered-clause-led g c =
    let m = g.M.Maze in
    let r = m.rules c.args.maze.now in
    let i = c.moves.invariant in
    let goes = rw (c.in-Answered.is, i.rules) at c.in_ok-go.ensures.ok in
    let offered : get_or c.args.way.now c.moves.index 0 < m.moves r (m.place c.moves.maze) =
    rw (c.moves-in-moves.ensures.moves, i.rules) at c.if-number-moves.false in
    let one : c.moves.index + 1 ≡ suc c.moves.index = omega arith in
    let way = answers_further (m.moves r) (m.next r) (m.key r) (m.IsDeep r) (m.place c.args.maze.now) c.args.way.now c.moves.index
    (m.place c.moves.maze) (m.place c.go.new.self) c.moves-test.true i.led offered goes.0 in
    (omega arith, whole (m.moves r) (m.next r) (m.key r) (m.IsDeep r) _ _ _ way, rw one (ap (drop c.moves.index) goes.1 ∙ i.before), way)

pub returns-in-Refused-clause-led : goal.returns-in-Refused-clause-led
returns-in-Refused-clause-led g c =
    let m = g.M.Maze in
    let r = m.rules c.args.maze.now in
    let i = c.moves.invariant in
    let goes = rw (c.in-Refused.is, i.rules) at c.in_ok-go.ensures.ok in
    rw (goes.1, goes.2) (
      omega arith,
      i.led,
      i.before,
      λ q w. absurd (not_refused (m.moves r) (m.next r) (m.key r) (m.IsDeep r) (m.place c.args.maze.now) c.args.way.now c.moves.index
          (m.place c.moves.maze) q c.moves-test.true i.led goes.0 w),
    )

pub returns-in-TooDeep-clause-led : goal.returns-in-TooDeep-clause-led
returns-in-TooDeep-clause-led g c = grind arith

pub returns-clause-led : goal.returns-clause-led
returns-clause-led g c =
    let m = g.M.Maze in
    let r = m.rules c.args.maze.now in
    let i = c.moves.invariant in
    let end : c.moves.index ≡ length c.args.way.now = omega arith in
    let whole = take_whole c.args.way.now c.moves.index c.moves-test.false in
    rw (← end) (
      omega arith,
      i.led,
      i.before,
      λ q w. absurd (i.mute q (subst (λ xs. IsWay (m.moves r) (m.next r) (m.key r) (m.IsDeep r) (m.place c.args.maze.now) xs q) (sym whole) w)),
    )
