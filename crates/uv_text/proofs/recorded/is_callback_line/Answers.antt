use Rattle.uv_text.proofs.StepLines.{callback_decides}
use Rattle.uv_text.proofs.recorded.is_callback_line.Goals as goal

pub returns : goal.returns
returns c = callback_decides c.args.line.now c.is_called.result c.is_called.ensures
