use Rattle.uv_pool.proofs.Names.{arith, contents_of, hold_of}
use Rattle.uv_pool.proofs.Keeps.{collect_keeps, counted}
use Rattle.uv_pool.proofs.book.PoolBook.collect.Goals as goal

pub invariant_of-self : goal.invariant_of-self
invariant_of-self g c =
    let b = c.self.inside in
    let call = c.collect_next in
    let keeps = collect_keeps (hold_of b.held) (hold_of call.new.self) call.result call.ensures.call c.self.invariant.1.replay in (
      call.ensures.kept,
      counted (contents_of b.held) (contents_of call.new.self) 0 b.finishes.total b.own.parts b.spare b.finishes.total keeps
          c.self.invariant.1 (omega arith),
    )
