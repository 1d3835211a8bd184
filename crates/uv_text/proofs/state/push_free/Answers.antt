use Rattle.uv_text.proofs.Names.{rules, append_assoc}
use Rattle.uv_text.specs.State.{free_line}
use Rattle.uv_text.proofs.state.push_free.Goals as goal

pub returns : goal.returns
unfolding free_line
returns g c = search (rules, append_assoc)
