use Rattle.uv_find.proofs.Names.{◌≡◌, all_turned}
use Rattle.uv_find.proofs.same.all_turned.Given as goal

abbrev pub invariant-names : goal.invariant-names
invariant-names l = l.all ≡ all_turned l.first l.script l.number
