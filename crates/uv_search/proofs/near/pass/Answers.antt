use Rattle.uv_search.proofs.Names.{◌≡◌, ◌+◌, ◌∙◌, drop, take, suc, ap, arith, false, length}
use Rattle.uv_search.proofs.Nearby.{entered_kept, few_here}
use Rattle.uv_search.proofs.Retracing.{answers_further, leads_further, passed_further, passed_kept, went_back}
use Rattle.uv_search.proofs.near.pass.Goals as goal

pub returns-then-answers-clause-led : goal.returns-then-answers-clause-led
returns-then-answers-clause-led g c =
    let m = g.M.Maze in
    let r = m.rules c.args.maze.now in
    let begin = m.place c.args.maze.now in
    let here = m.place c.moves.maze in
    let way = c.args.way.now in
    let index = c.moves.index in
    let i = c.moves.invariant in
    let old = c.moves.round.seen in
    let new = c.pass_on.new.round.seen in
    let p = rw (c.in-Some.is, c.if-answers.true, i.rules) at c.in_ok-answers.ensures.led in
    let one : index + 1 ≡ suc index = omega arith in
    let kept = passed_kept (m.moves r) (m.next r) (m.key r) (m.IsDeep r) old new (entered_kept old (m.key r here) c.args.limit new p.entered p.enters)
    begin (take index way) i.passed in (
      omega (arith, c.moves-test.true),
      answers_further (m.moves r) (m.next r) (m.key r) (m.IsDeep r) begin way index here (m.place c.pass_on.new.maze) c.moves-test.true i.led
          p.offered p.leads,
      passed_further (m.moves r) (m.next r) (m.key r) (m.IsDeep r) new begin way index here c.moves-test.true i.led kept p.has,
      rw one (ap (drop index) p.before ∙ i.before),
      λ few. few_here (m.moves r) (m.next r) (m.key r) (m.IsDeep r) begin here old c.args.limit new p.entered (take index way, i.led) p.enters
          (i.keys few),
    )

pub moves-preserved : goal.moves-preserved
moves-preserved g c =
    let m = g.M.Maze in
    let r = m.rules c.args.maze.now in
    let begin = m.place c.args.maze.now in
    let here = m.place c.moves.maze in
    let way = c.args.way.now in
    let index = c.moves.index in
    let i = c.moves.invariant in
    let old = c.moves.round.seen in
    let new = c.pass_on.new.round.seen in
    let p = rw (c.in-Some.is, c.if-answers.false, i.rules) at c.in_ok-answers.ensures.led in
    let one : index + 1 ≡ suc index = omega arith in
    let kept = passed_kept (m.moves r) (m.next r) (m.key r) (m.IsDeep r) old new (entered_kept old (m.key r here) c.args.limit new p.entered p.enters)
    begin (take index way) i.passed in
    record {
      rules = c.pass_on.ensures.rules ∙ i.rules;
      led = leads_further (m.moves r) (m.next r) begin way index here (m.place c.pass_on.new.maze) false c.moves-test.true i.led p.offered p.leads;
      passed = passed_further (m.moves r) (m.next r) (m.key r) (m.IsDeep r) new begin way index here c.moves-test.true i.led kept p.has;
      keys = λ few. few_here (m.moves r) (m.next r) (m.key r) (m.IsDeep r) begin here old c.args.limit new p.entered (take index way, i.led) p.enters
          (i.keys few);
      before = rw one (ap (drop index) p.before ∙ i.before);
    }

pub returns-in-None-clause-led : goal.returns-in-None-clause-led
returns-in-None-clause-led g c = grind arith

pub returns-clause-led : goal.returns-clause-led
returns-clause-led g c = grind arith
