use Rattle.uv_timer.proofs.Names.{sym, subst, timed, IsRescheduled, IsCollected}
use Rattle.uv_timer.proofs.Collected.{collected}
use Rattle.uv_timer.proofs.section.collect.Goals as goal

pub returns-clause-collected : goal.returns-clause-collected
returns-clause-collected g c =
    let H = g.T.HoldsHandle in let old = c.args.parts in let new = c.reschedule-timer.new.parts in
    let i = old.slots.now.image in let k = new.1.0.image in
    let j = c.push_back-pushed.new.self.image in
    let n = old.handles.now in let m = new.0 in let a = old.heap.now in let b = new.1.1.0 in
    let s = old.times.now in let t = new.1.1.1.0 in let d = c.args.id in let h = c.args.handle in
    let u = c.reschedule-timer.result in
    let changed = subst (λ x. IsRescheduled H.held_record H.of_record b.room (timed i n a s) (timed k m b t) d x c.reschedule-timer.result)
    c.collecting-change.ensures c.reschedule-timer.ensures.changed in
    subst (λ q. IsCollected H.held_record H.of_record b.room (timed i n a s) (timed j m b t) c.args.id (record {
      timer = c.reschedule-timer.result;
      pushed = record { slot = q };
    }))
    (sym c.push_back-pushed.ensures.token)
    (collected H.held_record H.of_record b.room i k j n m a b s t d h u c.requires.due changed c.push_back-pushed.ensures.pushed)
