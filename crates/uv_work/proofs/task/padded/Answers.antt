use Rattle.std.proofs.Common.{rules, arith}
use Rattle.std.proofs.lemmas.Grind.{common_steps}
use Rattle.std.proofs.lemmas.List.{drop-replicate}
use Rattle.uv_work.proofs.task.padded.Goals as goal

pub returns : goal.returns
returns c = rw c.copy_from_slice.ensures.after (first_of (
  search (rules, drop-replicate),
  simp drop-replicate,
  grind (arith, common_steps, drop-replicate),
))
