use Rattle.uv_plain.proofs.Names.{◌≡◌, ◌++◌, timer_ids}
use Rattle.uv_plain.proofs.state.LoopState.timer_ids.Given as goal

-- those that are left stand behind those that were taken
abbrev pub invariant-loop-id : goal.invariant-loop-id
invariant-loop-id l = l.ids.items ++ l.id-iterator ≡ timer_ids l.self
