use Rattle.uv_find.proofs.Names.{◌≡◌, asked_in, mates_of}
use Rattle.uv_find.proofs.mates.mates_of.Given as goal

abbrev pub invariant-names : goal.invariant-names
invariant-names l = l.mates.items ≡ mates_of l.script (asked_in l.asking) l.first
