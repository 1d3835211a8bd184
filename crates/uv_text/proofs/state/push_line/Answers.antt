use Rattle.uv_text.proofs.Names.{rules, append_assoc}
use Rattle.uv_text.specs.State.{list_line}
use Rattle.uv_text.proofs.state.push_line.Goals as goal

pub returns : goal.returns
unfolding list_line
returns g c = search (rules, append_assoc)
