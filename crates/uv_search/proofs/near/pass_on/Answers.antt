use Rattle.uv_search.proofs.Names.{rules}
use Rattle.uv_search.proofs.Nearby.{has_entered}
use Rattle.uv_search.proofs.near.pass_on.Goals as goal

pub returns-in-Moved-clause-led : goal.returns-in-Moved-clause-led
returns-in-Moved-clause-led g c =
    let goes = rw c.in-Moved.is at c.in_ok-go.ensures.ok in
    let entered = c.in_ok-enter_here.field-0 in
    let enters = c.in_ok-enter_here.ensures.ok in
    record {
      offered = rw c.moves.ensures.moves at c.if-number-moves.false;
      leads = goes.0;
      before = goes.1;
      entered = entered;
      enters = enters;
      has = has_entered c.args.round.now.seen _ c.args.limit c.enter_here.new.seen entered (search rules) enters;
    }

pub returns-in-Answered-clause-led : goal.returns-in-Answered-clause-led
returns-in-Answered-clause-led g c =
    let goes = rw c.in-Answered.is at c.in_ok-go.ensures.ok in
    let entered = c.in_ok-enter_here.field-0 in
    let enters = c.in_ok-enter_here.ensures.ok in
    record {
      offered = rw c.moves.ensures.moves at c.if-number-moves.false;
      leads = goes.0;
      before = goes.1;
      entered = entered;
      enters = enters;
      has = has_entered c.args.round.now.seen _ c.args.limit c.enter_here.new.seen entered (search rules) enters;
    }
