use Rattle.uv_search.proofs.Nearby.{few_on}
use Rattle.uv_search.proofs.Retracing.{went_back}
use Rattle.uv_search.proofs.round.look.Goals as goal

pub returns-in-Refused-clause-looked : goal.returns-in-Refused-clause-looked
returns-in-Refused-clause-looked g c =
    let goes = rw c.in-Refused.is at c.in_ok-go.ensures.ok in
    (goes.1, goes.2, λ p led few. few)

pub returns-in-TooDeep-clause-looked : goal.returns-in-TooDeep-clause-looked
returns-in-TooDeep-clause-looked g c =
    let goes = rw c.in-TooDeep.is at c.in_ok-go.ensures.ok in
    (goes.1, goes.2, λ p led few. few)

pub returns-in-Answered-clause-looked : goal.returns-in-Answered-clause-looked
returns-in-Answered-clause-looked g c =
    let goes = rw c.in-Answered.is at c.in_ok-go.ensures.ok in
    let back = went_back c.back.ensures.before goes.1 in
    (back.0, back.1, λ p led few. few)

pub returns-in_ok-push-in-Moved-clause-looked : goal.returns-in_ok-push-in-Moved-clause-looked
returns-in_ok-push-in-Moved-clause-looked g c =
    let m = g.M.Maze in
    let r = m.rules c.args.maze.now in
    let goes = rw c.in-Moved.is at c.in_ok-go.ensures.ok in
    let back = went_back c.back-in-Moved.ensures.before goes.1 in (
      back.0,
      back.1,
      few_on (m.moves r) (m.next r) (m.key r) (m.IsDeep r) (m.place c.args.maze.now) c.args.number (m.place c.go.new.self) c.args.round.now.seen
          c.args.limit c.enter_here.new.seen c.in_ok-entered-in-Moved.entered c.requires goes.0
          (rw c.go.ensures.rules at c.in_ok-entered-in-Moved.ensures.ok),
    )
