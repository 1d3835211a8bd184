use Rattle.uv_handle.proofs.Names.{sym, subst, counted, IsEnlisted}
use Rattle.uv_handle.proofs.Closed.{enlist_done}
use Rattle.uv_handle.proofs.handles.Handles.enlist.Goals as goal

pub returns-clause-enlisted : goal.returns-clause-enlisted
returns-clause-enlisted g c =
    let H = g.T.HoldsHandle in let i = c.args.slots.now.image in let k = c.change-changed.new.slots.image in
    let j = c.push_front-pushed.new.self.image in
    let n = c.args.self.now in let m = c.change-changed.new.self in let d = c.args.id in let u = c.change-changed.result in
    let was = c.args.old in let new = c.args.new in let list = c.args.list in
    subst (λ q. IsEnlisted H.held_record H.of_record (counted i n) (counted j m) d c.args.old c.args.new c.args.list (record {
      changed = u;
      pushed = record { slot = q };
    }))
    (sym c.push_front-pushed.ensures.token)
    (enlist_done H.held_record H.of_record i k j n m d was new list u c.requires.found c.change-changed.ensures.changed
    c.push_front-pushed.ensures.pushed)
