use Rattle.uv_find.proofs.Names.{◌≡◌, drop, max, most_end}
use Rattle.uv_find.proofs.forgetting.most_end.Given as goal

abbrev pub invariant-bounds : goal.invariant-bounds
invariant-bounds l = max l.end (most_end (drop l.bound-index l.most)) ≡ most_end l.most
