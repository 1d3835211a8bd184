use Rattle.uv_live.proofs.Names.{◌≡◌, [], drop, get_or, arith, drop_all, worked}
use Rattle.uv_live.proofs.Shares.{shift_else, shift_more, shift_all}
use Rattle.uv_live.proofs.Meeting.{is_left}
use Rattle.uv_live.proofs.parts.all_met.Goals as goal

pub returns-then-met-k : goal.returns-then-met-k
returns-then-met-k g c = λ all.
    let shift = get_or c.args.shifts.now c.shifts.k c.index-shifts-k.result in
    shift_else (λ s. worked s.worker s.events.items s.share.amount)
    (λ k x. drop (get_or c.args.met.now k 0) x.events ≡ []) c.args.shifts.now c.shifts.k c.index-shifts-k.result c.shifts-test.true
    (is_left shift.events.items _ (omega (arith, c.if-met-k.true, c.len.ensures, shift.events.ok.0))) all

pub shifts-preserved : goal.shifts-preserved
shifts-preserved g c =
    let shift = get_or c.args.shifts.now c.shifts.k c.index-shifts-k.result in
    shift_more (λ s. worked s.worker s.events.items s.share.amount)
    (λ k x. drop (get_or c.args.met.now k 0) x.events ≡ []) c.args.shifts.now c.shifts.k c.index-shifts-k.result c.shifts-test.true
    (drop_all _ shift.events.items (omega (arith, c.if-met-k.false, c.len.ensures, shift.events.ok.0)))
    c.shifts.invariant

pub returns : goal.returns
returns g c =
    shift_all (λ s. worked s.worker s.events.items s.share.amount)
    (λ k x. drop (get_or c.args.met.now k 0) x.events ≡ []) c.args.shifts.now c.shifts.k (omega (arith, c.shifts-test.false))
    c.shifts.invariant
