use Rattle.uv_find.proofs.Names.{◌≡◌, drop, list_all, test_of, of_main}
use Rattle.uv_find.proofs.ops.holds_in_main.Given as goal

abbrev pub invariant-lines : goal.invariant-lines
invariant-lines l = list_all (of_main (test_of l.test)) (drop l.line l.script.main) ≡ list_all (of_main (test_of l.test)) l.script.main
