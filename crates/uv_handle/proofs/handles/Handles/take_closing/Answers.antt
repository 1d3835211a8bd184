use Rattle.uv_handle.proofs.Names.{◌≡◌, ◌+◌, ℕ, Bool, sym, subst, one_if, counted, Fits32, IsTaken}
use Rattle.uv_handle.proofs.Closed.{take_fits, take_done}
use Rattle.uv_handle.proofs.handles.Handles.take_closing.Goals as goal

pub set_count-requires : goal.set_count-requires
set_count-requires g c =
    let H = g.T.HoldsHandle in let i = c.args.slots.now.image in let k = c.unlink-unlinked.new.self.image in let j = c.remove.new.self.image in
    let n = c.args.self.now in let v = c.in-Some.freed.0 in let t = c.unlink-unlinked.result in let u = c.in-Some.freed.1 in
    let unlinked = c.unlink-unlinked.ensures.unlinked in
    subst (λ (r : ℕ × Bool). Fits32 r.0 (one_if r.1) 0) (λ l. (sym c.active_referenced-active.ensures l, sym c.keeps_alive.ensures l))
    (take_fits H.held_record H.of_record i k j n c.args.id v t u c.requires.counts c.is_sound.ensures unlinked c.in-Some.ensures.some)

pub returns-clause-taken : goal.returns-clause-taken
returns-clause-taken g c =
    let H = g.T.HoldsHandle in let i = c.args.slots.now.image in let k = c.unlink-unlinked.new.self.image in let j = c.remove.new.self.image in
    let n = c.args.self.now in let m = c.set_count.new.self in
    let d = c.args.id in let v = c.in-Some.freed.0 in let t = c.unlink-unlinked.result in let u = c.in-Some.freed.1 in
    let unlinked = c.unlink-unlinked.ensures.unlinked in
    let count = subst (λ (r : ℕ × Bool). m + one_if r.1 ≡ r.0 + 0) (λ l. (
      c.active_referenced-active.ensures l,
      c.keeps_alive.ensures l,
    )) c.set_count.ensures in
    subst (λ q. IsTaken H.held_record H.of_record (counted i n) (counted j m) d v (record {
      unlinked = t;
      removed = u;
      active =
          q;
    })) (sym c.active_referenced-active.ensures)
    (take_done H.held_record H.of_record i k j n m d v t u c.requires.counts c.requires.first unlinked c.in-Some.ensures.some count)
