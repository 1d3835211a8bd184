use Rattle.uv_text.proofs.Names.{rules, append_assoc}
use Rattle.uv_text.specs.Image.{heap_line}
use Rattle.uv_text.proofs.image.push_heap.Goals as goal

pub returns : goal.returns
unfolding heap_line
returns c = search (rules, append_assoc)
