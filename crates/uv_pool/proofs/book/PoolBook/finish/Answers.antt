use Rattle.uv_pool.proofs.Names.{Ok, arith, contents_of, hold_of}
use Rattle.uv_pool.proofs.Keeps.{finish_keeps, counted}
use Rattle.uv_pool.proofs.book.PoolBook.finish.Goals as goal

pub invariant_of-self-2 : goal.invariant_of-self-2
invariant_of-self-2 g c = grind (arith, finish_keeps, counted)
