use Rattle.uv_pool.proofs.Names.{◌≡◌, ◌+◌, length, arith}
use Rattle.uv_pool.proofs.Leaving.{removal_leaves}
use Rattle.uv_pool.proofs.queue.Queue.remove.Goals as goal

pub returns-clause-left : goal.returns-clause-left
returns-clause-left c = grind (arith, removal_leaves)
