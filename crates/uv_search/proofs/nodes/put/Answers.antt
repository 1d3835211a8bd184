use Rattle.uv_search.proofs.Names.{◌≡◌, ◌<◌, length, subst, arith, slice_get, slice_index_or, Some, common_steps, slice_get-get_or, place_of}
use Rattle.uv_search.proofs.Linking.{linked_more}
use Rattle.uv_search.proofs.nodes.put.Goals as goal

pub returns-clause-linked : goal.returns-clause-linked
returns-clause-linked c =
    let last = c.args.last.now.items in
    let pairs = c.args.pairs.now.items in
    let linked = c.requires.linked in
    let below : c.place-place.result < length last = omega (arith, c.len.ensures, c.place-place.ensures.below) in
    let long : c.len.result ≡ length last = omega (arith, c.len.ensures) in
    let is : c.place-place.result ≡ place_of (length last) c.args.pair =
    subst (λ m. c.place-place.result ≡ place_of m c.args.pair) long c.place-place.ensures.value in
    let at = slice_get-get_or last c.place-place.result 0 below in
    let more = linked_more c.args.pair (slice_index_or last c.place-place.result 0) linked c.requires.places
    (subst (λ p. slice_get last p ≡ Some (slice_index_or last c.place-place.result 0)) is at) in
    let count : c.args.count ≡ length pairs = c.requires.count in
    grind (arith, common_steps)
