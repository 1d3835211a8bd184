use Rattle.uv_find.proofs.Names.{◌≤◌, ◌∙◌, Option, is_none, is_some, not, length, ap, arith, Id, worker_count}
use Rattle.uv_model.specs.After.{after}
use Rattle.uv_find.proofs.Ranking.{found_here, found_later, found_nowhere}
use Rattle.uv_find.proofs.Runners.{after_long}
use Rattle.uv_find.proofs.ranks.idle_worker.Goals as goal

pub returns-then-is_none : goal.returns-then-is_none
returns-then-is_none g c = grind (arith, after_long, worker_count, length, found_here, is_none, not, is_some)

pub workers-preserved : goal.workers-preserved
workers-preserved g c = grind (arith, after_long, worker_count, length, found_later, is_none, not, is_some)

pub returns : goal.returns
returns g c =
    let m = g.M.Machine in
    let p = m.program c.args.machine.now in
    let s = after p (m.standing c.args.machine.now) in
    let long = after_long p (m.standing c.args.machine.now) in
    let count = c.workers-worker-end.ensures.count ∙ ap worker_count c.script.ensures in
    let past : length s.running ≤ c.workers.worker = omega (arith, c.workers-test.false, count, long) in
    found_nowhere (λ (run : Option Id). is_none run) s.running c.workers.worker past c.workers.invariant
