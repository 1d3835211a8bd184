use Rattle.uv_search.proofs.Names.{◌<◌, ◌-◌, length, arith, slice_index_or, slice_get-get_or, place_of}
use Rattle.uv_search.proofs.Linking.{begins, goes_back}
use Rattle.uv_search.proofs.nodes.find.Goals as goal

pub loop-at-init : goal.loop-at-init
loop-at-init c =
    let last = c.args.last.now in
    begins (place_of (length last)) c.args.pairs.now c.args.pair c.requires.linked.linked
    (grind (arith, slice_get-get_or))

pub returns-then-is_same-clause-some : goal.returns-then-is_same-clause-some
returns-then-is_same-clause-some c = grind (arith, slice_get-get_or)

pub loop-at-smaller : goal.loop-at-smaller
loop-at-smaller c =
    let place = c.loop-at.at - 1 in
    let below : place < length c.args.pairs.now = omega (arith, c.loop-at-test.true, c.loop-at.invariant.within) in
    (goes_back (place_of (length c.args.last.now)) c.args.pairs.now c.args.pair (slice_index_or c.args.pairs.now place (0, 0))
    c.requires.linked.linked c.loop-at.invariant c.loop-at-test.true (slice_get-get_or c.args.pairs.now place (0, 0) below)
    (c.is_same.ensures.no c.if-is_same.false)
    (slice_get-get_or c.args.before.now place 0 (omega (arith, below, c.requires.linked.long)))).1

pub loop-at-preserved : goal.loop-at-preserved
loop-at-preserved c =
    let place = c.loop-at.at - 1 in
    let below : place < length c.args.pairs.now = omega (arith, c.loop-at-test.true, c.loop-at.invariant.within) in
    (goes_back (place_of (length c.args.last.now)) c.args.pairs.now c.args.pair (slice_index_or c.args.pairs.now place (0, 0))
    c.requires.linked.linked c.loop-at.invariant c.loop-at-test.true (slice_get-get_or c.args.pairs.now place (0, 0) below)
    (c.is_same.ensures.no c.if-is_same.false)
    (slice_get-get_or c.args.before.now place 0 (omega (arith, below, c.requires.linked.long)))).0
