use Rattle.uv_session.proofs.Names.{arith, common_steps}
use Rattle.uv_session.proofs.Moves.{moved_more}
use Rattle.uv_session.proofs.session.Session.back.Goals as goal

pub loop-preserved : goal.loop-preserved
loop-preserved g c = record { few = c.loop.invariant.few; moved = grind (arith, common_steps, moved_more, c.in_ok-back_one.ensures.ok) }
