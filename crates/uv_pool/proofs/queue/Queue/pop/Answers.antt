use Rattle.uv_pool.proofs.Names.{◌≡◌, ◌∷◌, Some, arith, ◌+◌, length}
use Rattle.uv_pool.proofs.Leaving.{front_pops}
use Rattle.uv_pool.proofs.queue.Queue.pop.Goals as goal

pub returns-in-Some-Some-clause-job : goal.returns-in-Some-Some-clause-job
returns-in-Some-Some-clause-job c =
    let q = c.args.self.now in
    let rest = c.pop_front.new.self in
    let ys = c.skip_empty.new.places in
    let is : q.places.items ≡ Some c.in-Some-Some.job ∷ rest.items = cc in
    let len : c.skip_empty.result + length ys.items ≡ length rest.items = omega (arith, c.skip_empty.ensures.len, rest.ok.0, ys.ok.0) in
    search front_pops
