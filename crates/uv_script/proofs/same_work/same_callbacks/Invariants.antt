use Rattle.uv_script.proofs.ProofNames.{◌≡◌, ◌++◌, drop, map, take, same_callbacks}
use Rattle.uv_script.proofs.same_work.same_callbacks.Given as goal

-- those up to here are changed, and the others as they were
abbrev pub invariant-loop-of_name : goal.invariant-loop-of_name
invariant-loop-of_name l = l.callbacks ≡ map same_callbacks (take l.of_name-index l.initial.callbacks) ++ drop l.of_name-index l.initial.callbacks
