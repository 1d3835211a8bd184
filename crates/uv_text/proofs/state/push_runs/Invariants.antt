use Rattle.uv_text.proofs.Names.{◌≡◌, ◌++◌, runs_upto}
use Rattle.uv_model.specs.After.{after}
use Rattle.uv_text.proofs.state.push_runs.Given as goal

-- those before this one
abbrev pub invariant-loop-worker : goal.invariant-loop-worker
invariant-loop-worker g l =
    let p = g.M.Machine.program l.machine in
    l.text.items ≡ l.initial.text.items ++ runs_upto p (after p (g.M.Machine.standing l.machine)) l.worker
