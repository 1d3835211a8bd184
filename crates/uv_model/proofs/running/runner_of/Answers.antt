use Rattle.uv_model.proofs.Names.{refl, sym, ◌∙◌}
use Rattle.uv_model.proofs.Runners.{found_here, found_later, found_nowhere}
use Rattle.uv_model.proofs.running.runner_of.Goals as goal

pub loop-worker-init : goal.loop-worker-init
loop-worker-init c = refl

pub returns-then-is_run : goal.returns-then-is_run
returns-then-is_run c = found_here _ _ _ _ c.loop-worker-test.true (sym c.is_run.ensures ∙ c.if-is_run.true) c.loop-worker.invariant

pub loop-worker-preserved : goal.loop-worker-preserved
loop-worker-preserved c = found_later _ _ _ _ c.loop-worker-test.true (sym c.is_run.ensures ∙ c.if-is_run.false) c.loop-worker.invariant

pub returns : goal.returns
returns c = found_nowhere _ _ _ c.loop-worker-test.false c.loop-worker.invariant
