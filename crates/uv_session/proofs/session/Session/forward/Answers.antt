use Rattle.uv_session.proofs.Names.{arith, common_steps}
use Rattle.uv_session.proofs.Moves.{forward_more}
use Rattle.uv_session.proofs.session.Session.forward.Goals as goal

pub loop-preserved : goal.loop-preserved
loop-preserved g c = record { few = c.loop.invariant.few; moved = grind (arith, common_steps, forward_more, c.in_ok-forward_one.ensures.ok) }
