use Rattle.uv_model.proofs.Names.{◌≡◌, drop, runner_from}
use Rattle.uv_model.proofs.running.runner_of.Given as goal

-- the first that runs it is among those that are left
abbrev pub invariant-loop-worker : goal.invariant-loop-worker
invariant-loop-worker l = runner_from l.worker (drop l.worker l.running) l.id ≡ runner_from 0 l.running l.id
