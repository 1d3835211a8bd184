use Rattle.uv_search.proofs.Names.{◌≡◌, length, subst, ◌∙◌, arith, slice_get, slice_index_or, Some, ◌+◌, slice_get-get_or, place_of}
use Rattle.uv_search.proofs.KeyLists.{set_long}
use Rattle.uv_search.proofs.Linking.{linked_anew}
use Rattle.uv_search.proofs.nodes.link.Goals as goal

pub loop-row-preserved : goal.loop-row-preserved
loop-row-preserved c =
    let row = c.loop-row.row in
    let pairs = c.args.pairs.now in
    let last = c.loop-row.last in
    let i = c.loop-row.invariant in
    let pair = slice_get-get_or pairs row (0, 0) (omega (arith, c.loop-row-test.true)) in
    let count = length c.args.last.now in
    let is : c.place-place.result ≡ place_of count (slice_index_or pairs row (0, 0)) = rw i.same at c.place-place.ensures.value in
    let at = slice_get-get_or last c.place-place.result 0 c.place-place.ensures.below in
    let linked = linked_anew (place_of count) pairs last c.loop-row.before row _ _ i.linked pair
    (subst (λ p. slice_get last p ≡ Some (slice_index_or last c.place-place.result 0)) is at) i.long in
    record {
      long = set_long c.loop-row.before row (slice_index_or last c.place-place.result 0) ∙ i.long;
      same = set_long last c.place-place.result (row + 1) ∙ i.same;
      linked = grind arith;
    }
