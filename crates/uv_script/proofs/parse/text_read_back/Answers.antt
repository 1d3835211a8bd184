use Rattle.uv_script.proofs.ReadBack.{back_of_text}
use Rattle.uv_script.proofs.parse.text_read_back.Goals as goal

pub returns : goal.returns
returns c = back_of_text
