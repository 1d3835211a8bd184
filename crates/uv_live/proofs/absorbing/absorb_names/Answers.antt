use Rattle.uv_live.proofs.Names.{◌∙◌, arith, slice_get-get_or, slice_get_within}
use Rattle.uv_live.proofs.Absorbed.{absorbs_both, carried_more, each_more}
use Rattle.uv_live.proofs.absorbing.absorb_names.Goals as goal

pub names-preserved : goal.names-preserved
names-preserved g c =
    let names = c.args.names.now in
    let before = c.names.invariant in
    let one = c.in_ok-absorb_one.ensures in
    let within = c.names-test.true in
    record {
      board = one.board ∙ before.board;
      absorbs = absorbs_both _ _ _ before.absorbs one.absorbs;
      below = carried_more _ _ names c.names.n _ (slice_get-get_or names c.names.n _ within) one.absorbs one.carried before.below;
      plan = one.plan ∙ before.plan;
      polling = one.polling;
      records = each_more names c.names.n _ _ _ _ _ _ _ within before.records one.records;
    }

pub returns-clause-carried : goal.returns-clause-carried
returns-clause-carried g c = λ k v at.
    c.names.invariant.below k (let within = slice_get_within c.args.names.now k v at in omega (arith, within, c.names-test.false)) v at
