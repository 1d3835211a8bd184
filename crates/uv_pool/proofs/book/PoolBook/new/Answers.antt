use Rattle.uv_pool.proofs.Names.{◌+◌, Option, None, sym, subst, arith, length-replicate, Job, IsCounted, Contents, fresh}
use Rattle.uv_pool.proofs.Replays.{replays_fresh}
use Rattle.uv_pool.proofs.book.PoolBook.new.Goals as goal

pub invariant_of-result : goal.invariant_of-result
invariant_of-result g c =
    let n = c.args.workers in
    let total = c.open-finishes.result.0.total in
    let parts = c.split_off-own.result.parts in
    let i : IsCounted (fresh n) total parts (n + 1) = record {
      replay = replays_fresh n;
      count = c.open-finishes.ensures.total;
      parts = c.split_off-own.ensures.parts;
      some = omega arith;
      workers = omega (arith, length-replicate n (let x : Option Job = None in x));
    } in
    (c.in_ok-held.ensures.1, subst (λ (x : Contents). IsCounted x total parts (n + 1)) (sym c.in_ok-held.ensures.0) i)
