use Rattle.uv_script.proofs.Older.{reads_without_io}
use Rattle.uv_script.proofs.parse.read_without_io.Goals as goal

pub returns : goal.returns
returns c = reads_without_io
