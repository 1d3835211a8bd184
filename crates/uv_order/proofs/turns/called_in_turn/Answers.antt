use Rattle.uv_order.proofs.TurnsTold.{turns}
use Rattle.uv_order.proofs.turns.called_in_turn.Goals as goal

pub returns : goal.returns
returns c = turns
