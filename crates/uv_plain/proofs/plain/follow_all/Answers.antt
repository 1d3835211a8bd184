use Rattle.uv_plain.proofs.Names.{arith, length-take, common_steps, after-take}
use Rattle.uv_model.proofs.Bounded.{after_able}
use Rattle.uv_plain.proofs.plain.follow_all.Goals as goal

pub follow-requires : goal.follow-requires
follow-requires c = rw c.loop-event.invariant (after_able _ _ (simp length-take (omega arith)))

pub loop-event-preserved : goal.loop-event-preserved
loop-event-preserved c = grind (arith, common_steps, after-take, c.in_ok-follow.ensures)
