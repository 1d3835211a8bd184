use Rattle.uv_text.proofs.Names.{rules, append_assoc}
use Rattle.uv_text.specs.State.{unused_line}
use Rattle.uv_text.proofs.state.push_unused.Goals as goal

pub returns : goal.returns
unfolding unused_line
returns c = search (rules, append_assoc)
