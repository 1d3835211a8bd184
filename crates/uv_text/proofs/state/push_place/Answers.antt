use Rattle.uv_text.proofs.Names.{rules, append_assoc, writing}
use Rattle.uv_text.specs.State.{place_line}
use Rattle.uv_text.proofs.state.push_place.Goals as goal

pub returns-in_ok-push_numbered-in-Main : goal.returns-in_ok-push_numbered-in-Main
unfolding place_line
returns-in_ok-push_numbered-in-Main c = rw c.in-Main.is (search (rules, writing, append_assoc))
