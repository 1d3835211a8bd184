use Rattle.uv_live.proofs.Names.{arith, rules, worked, IsByWorker}
use Rattle.uv_live.proofs.Shares.{shift_else, shift_more, shift_all, are_shifts, by_worker}
use Rattle.uv_live.proofs.parts.are_shifts.Goals as goal

pub returns-then-not-are_parts : goal.returns-then-not-are_parts
returns-then-not-are_parts g c = λ all. c.if-not-are_parts.ensures (λ k x at. (all k x at).events)

pub returns-then-not-is_by_worker : goal.returns-then-not-is_by_worker
returns-then-not-is_by_worker g c = λ all.
    shift_else (λ s. worked s.worker s.events.items s.share.amount) IsByWorker c.args.shifts.now c.shifts.k c.index-shifts-k.result
    c.shifts-test.true (λ h. c.if-not-is_by_worker.ensures (search rules)) (by_worker _ _ all)

pub shifts-preserved : goal.shifts-preserved
shifts-preserved g c =
    shift_more (λ s. worked s.worker s.events.items s.share.amount) IsByWorker c.args.shifts.now c.shifts.k c.index-shifts-k.result
    c.shifts-test.true (search rules) c.shifts.invariant

pub returns : goal.returns
returns g c =
    are_shifts _ _ c.if-not-are_parts.ensures
    (shift_all (λ s. worked s.worker s.events.items s.share.amount) IsByWorker c.args.shifts.now c.shifts.k (omega arith) c.shifts.invariant)
