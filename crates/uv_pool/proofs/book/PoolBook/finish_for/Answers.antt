use Rattle.uv_pool.proofs.Names.{Ok, contents_of, hold_of}
use Rattle.uv_pool.proofs.Keeps.{finish_keeps, counted}
use Rattle.uv_pool.proofs.book.PoolBook.finish_for.Goals as goal

pub invariant_of-self-2 : goal.invariant_of-self-2
invariant_of-self-2 g c =
    let b = c.self.inside in
    let call = c.finish_job in
    let keeps = finish_keeps (hold_of b.held) (hold_of call.new.self) c.args.k c.args.work
    (Ok c.in_ok-finish_job.field-0) c.in_ok-finish_job.ensures.call
    c.self.invariant.1.replay in (search counted)
