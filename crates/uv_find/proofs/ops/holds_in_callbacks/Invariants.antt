use Rattle.uv_find.proofs.Names.{◌≡◌, drop, list_all, test_of, of_callbacks}
use Rattle.uv_find.proofs.ops.holds_in_callbacks.Given as goal

abbrev pub invariant-names : goal.invariant-names
invariant-names l = list_all (of_callbacks (test_of l.test)) (drop l.name l.script.callbacks)
    ≡ list_all (of_callbacks (test_of l.test)) l.script.callbacks
