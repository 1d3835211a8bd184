use Rattle.uv_live.proofs.Names.{◌+◌, drop, map, arith, worked}
use Rattle.uv_live.proofs.Meeting.{none_met, next_entry, back_entry, all_entries}
use Rattle.uv_live.proofs.parts.are_parts.Goals as goal

pub entries-init : goal.entries-init
entries-init g c = record {
  long = c.none_met-met.ensures.length;
  left = none_met (map (λ s. worked s.worker s.events.items s.share.amount) c.args.shifts.now)
      c.none_met-met.result c.args.log.now c.none_met-met.ensures.none;
}

pub returns-then-not-meets : goal.returns-then-not-meets
returns-then-not-meets g c = λ parts.
    let all = map (λ s. worked s.worker s.events.items s.share.amount) c.args.shifts.now in
    c.if-not-meets.ensures (drop (c.entries.n + 1) c.args.log.now)
    (next_entry all c.entries.met c.args.log.now c.entries.n _ c.entries-test.true (c.entries.invariant.left.1 parts))

pub entries-preserved : goal.entries-preserved
entries-preserved g c =
    let all = map (λ s. worked s.worker s.events.items s.share.amount) c.args.shifts.now in
    let both = c.if-not-meets.ensures (drop (c.entries.n + 1) c.args.log.now) in
    record {
      long = omega (arith, c.entries.invariant.long);
      left = (
        λ h. c.entries.invariant.left.0 (back_entry all c.entries.met c.args.log.now c.entries.n _ c.entries-test.true (both.0 h)),
        λ parts. both.1 (next_entry all c.entries.met c.args.log.now c.entries.n _ c.entries-test.true (c.entries.invariant.left.1 parts)),
      );
    }

pub returns : goal.returns
returns g c =
    all_entries (map (λ s. worked s.worker s.events.items s.share.amount) c.args.shifts.now)
    c.entries.met c.args.log.now c.entries.n c.all_met.result (omega (arith, c.entries-test.false))
    c.entries.invariant.left c.all_met.ensures
