use Rattle.uv_search.proofs.Names.{length, place_of}
use Rattle.uv_search.proofs.Linking.{Walks}
use Rattle.uv_search.proofs.nodes.find.Given as goal

abbrev pub invariant-loop-at : goal.invariant-loop-at
invariant-loop-at l = Walks (place_of (length l.last)) l.pairs l.pair l.at

abbrev pub decreases-loop-at : goal.decreases-loop-at
decreases-loop-at l = l.at
