use Rattle.uv_search.proofs.Names.{◌≡◌, length, map, Linked, place_of}
use Rattle.uv_search.proofs.nodes.link.Given as goal

abbrev pub invariant-loop-row : goal.invariant-loop-row
invariant-loop-row l = record {
  long : length l.before ≡ length l.pairs;
  same : length l.last ≡ length l.fn.last;
  linked : Linked l.last l.before (map (place_of (length l.fn.last)) l.pairs) l.row;
}
