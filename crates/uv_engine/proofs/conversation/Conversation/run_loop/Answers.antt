use Rattle.uv_engine.proofs.Names.{◌∙◌, sym, [], err_from_is_err_and}
use Rattle.uv_engine.proofs.Gathers.{gathered_more, gathered_by, gathered_all, cut_by, cut_here}
use Rattle.uv_engine.proofs.Loops.{turn_on, turn_after, turn_off, off_after, no_turn, no_turn_after}
use Rattle.uv_engine.proofs.conversation.Conversation.run_loop.Goals as goal

pub returns-in_err-tell-clause-text : goal.returns-in_err-tell-clause-text
returns-in_err-tell-clause-text g c = λ tells.
    let p = err_from_is_err_and c.from_residual.result c.from_residual.ensures.1 in
    rw p.1 (cut_here (c.loop.invariant.text tells))

pub loop-preserved : goal.loop-preserved
loop-preserved g c =
    let on = rw c.if-not-branch.false at c.in_ok-tell.ensures.on in
    let after = c.in_ok-tell.ensures.session in
    record {
      text = λ tells.
          let before = rw (turn_on c.args.n c.loop.counter c.loop.self.session c.tell.new.session c.loop-test.true on after) at
          (c.loop.invariant.text tells) in
          gathered_by [] (gathered_more _ before c.in_ok-tell.ensures.text) (c.in_ok-spill.ensures.text tells);
      session = sym (turn_after c.args.n c.loop.counter c.loop.self.session c.tell.new.session c.loop-test.true on after) ∙ c.loop.invariant.session;
      none_failed = c.in_ok-spill.ensures.writer ∙ c.loop.invariant.none_failed;
    }

pub returns-then-not-branch-clause-text : goal.returns-then-not-branch-clause-text
returns-then-not-branch-clause-text g c = λ tells.
    let off = rw c.if-not-branch.true at c.in_ok-tell.ensures.on in
    let before = rw (turn_off c.args.n c.loop.counter c.loop.self.session c.loop-test.true off) at (c.loop.invariant.text tells) in
    gathered_all _ _ (gathered_more _ {rest = []} before c.in_ok-tell.ensures.text)

pub returns-then-not-branch-clause-session : goal.returns-then-not-branch-clause-session
returns-then-not-branch-clause-session g c =
    let off = rw c.if-not-branch.true at c.in_ok-tell.ensures.on in
    sym (off_after c.args.n c.loop.counter c.loop.self.session c.tell.new.session c.loop-test.true off c.in_ok-tell.ensures.session)
    ∙ c.loop.invariant.session

pub returns-in_err-spill-clause-text : goal.returns-in_err-spill-clause-text
returns-in_err-spill-clause-text g c = λ tells.
    let on = rw c.if-not-branch.false at c.in_ok-tell.ensures.on in
    let before = rw (turn_on c.args.n c.loop.counter c.loop.self.session c.tell.new.session c.loop-test.true on c.in_ok-tell.ensures.session) at
    (c.loop.invariant.text tells) in
    rw ((err_from_is_err_and c.from_residual-in_err-spill.result c.from_residual-in_err-spill.ensures.1).1)
    (cut_by [] _ (gathered_more _ before c.in_ok-tell.ensures.text) (c.in_err-spill.ensures.text tells))

pub returns-clause-text : goal.returns-clause-text
returns-clause-text g c = λ tells.
    gathered_all _ _ (rw (no_turn c.args.n c.loop.counter c.loop.self.session c.loop-test.false) at (c.loop.invariant.text tells))

pub returns-clause-session : goal.returns-clause-session
returns-clause-session g c = sym (no_turn_after c.args.n c.loop.counter c.loop.self.session c.loop-test.false) ∙ c.loop.invariant.session
