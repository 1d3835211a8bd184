use Rattle.uv_find.proofs.Names.{◌≡◌, drop, max, all_end}
use Rattle.uv_find.proofs.forgetting.script_end.Given as goal

abbrev pub invariant-names : goal.invariant-names
invariant-names l = max l.end (all_end (drop l.name l.script.callbacks)) ≡ all_end l.script.callbacks
