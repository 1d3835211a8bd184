use Rattle.uv_live.proofs.Names.{◌≡◌, map, length, get_or, ap, arith, worked}
use Rattle.uv_live.proofs.Shares.{mapped_at}
use Rattle.uv_live.proofs.Meeting.{is_met, is_past, is_other}
use Rattle.uv_live.proofs.parts.meets.Goals as goal

pub returns-then-place-events : goal.returns-then-place-events
returns-then-place-events g c = λ rest.
    let shift = get_or c.args.shifts.now c.in-Some.worker c.index-shifts-worker.result in
    let y = worked shift.worker shift.events.items shift.share.amount in
    let there = mapped_at (λ s. worked s.worker s.events.items s.share.amount)
    c.args.shifts.now c.in-Some.worker c.index-shifts-worker.result (omega (arith, c.if-worker-shifts.false)) in
    let long : length c.as_slice-events.result.now ≡ length shift.events.items = ap length c.as_slice-events.ensures.value in
    is_past (map (λ s. worked s.worker s.events.items s.share.amount) c.args.shifts.now) c.args.met.now c.args.entry c.in-Some.worker y there
    (omega (arith, c.requires, c.if-worker-shifts.false)) c.in-Some.ensures.some rest (omega (arith, long, c.if-place-events.true))

pub returns-then-not-is_same : goal.returns-then-not-is_same
returns-then-not-is_same g c = λ rest.
    let shift = get_or c.args.shifts.now c.in-Some.worker c.index-shifts-worker.result in
    let y = worked shift.worker shift.events.items shift.share.amount in
    let there = mapped_at (λ s. worked s.worker s.events.items s.share.amount)
    c.args.shifts.now c.in-Some.worker c.index-shifts-worker.result (omega (arith, c.if-worker-shifts.false)) in
    let long : length c.as_slice-events.result.now ≡ length shift.events.items = ap length c.as_slice-events.ensures.value in
    is_other (map (λ s. worked s.worker s.events.items s.share.amount) c.args.shifts.now) c.args.met.now c.args.entry c.in-Some.worker y there
    (omega (arith, c.requires, c.if-worker-shifts.false)) c.in-Some.ensures.some rest _ (omega (arith, long, c.if-place-events.false))
    (rw c.as_slice-events.ensures.value at c.if-not-is_same.ensures)

pub returns : goal.returns
returns g c = λ rest.
    let shift = get_or c.args.shifts.now c.in-Some.worker c.index-shifts-worker.result in
    let y = worked shift.worker shift.events.items shift.share.amount in
    let there = mapped_at (λ s. worked s.worker s.events.items s.share.amount)
    c.args.shifts.now c.in-Some.worker c.index-shifts-worker.result (omega (arith, c.if-worker-shifts.false)) in
    let long : length c.as_slice-events.result.now ≡ length shift.events.items = ap length c.as_slice-events.ensures.value in
    is_met (map (λ s. worked s.worker s.events.items s.share.amount) c.args.shifts.now) c.args.met.now c.args.entry c.in-Some.worker y there
    (omega (arith, c.requires, c.if-worker-shifts.false)) c.in-Some.ensures.some rest _ (omega (arith, long, c.if-place-events.false))
    (rw c.as_slice-events.ensures.value at c.if-not-is_same.ensures)
