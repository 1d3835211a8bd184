use Rattle.uv_handle.proofs.Names.{sym, subst, ◌∙◌, ListName, IsFirst, IsRotated, counted}
use Rattle.uv_handle.proofs.Walked.{lists_apart, moved_done}
use Rattle.uv_handle.proofs.walk.move_on.Goals as goal

pub rotate-requires-clause-apart : goal.rotate-requires-clause-apart
rotate-requires-clause-apart g c e = lists_apart c.args.kind (sym c.list.ensures ∙ sym e ∙ c.yet.ensures)

pub rotate-requires-clause-first : goal.rotate-requires-clause-first
rotate-requires-clause-first g c = subst (λ q. IsFirst c.args.slots.now.image q c.args.id) (sym c.yet.ensures) c.requires.first

pub returns-clause-moved : goal.returns-clause-moved
returns-clause-moved g c =
    let H = g.T.HoldsHandle in let i = c.args.slots.now.image in let l = c.rotate.new.self.image in
    let rotated = subst (λ (q : ListName × ListName). IsRotated i l q.0 q.1 c.args.id) (λ t. (c.yet.ensures t, c.list.ensures t))
    c.rotate.ensures.rotated in
    moved_done H.held_record H.of_record i l c.wake-pending.new.slots.image c.args.handles.now c.wake-pending.new.handles c.args.kind c.args.id
    c.wake-pending.result.0 c.wake-pending.result.1 c.requires.first rotated c.wake-pending.ensures.woken
