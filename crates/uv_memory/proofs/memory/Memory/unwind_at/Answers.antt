use Rattle.uv_memory.proofs.Names.{ap, sym, subst, refl, IsFit, image_of, kept, at_place}
use Rattle.uv_memory.proofs.Rows.{unwound_by}
use Rattle.uv_memory.proofs.memory.Memory.unwind_at.Goals as goal

pub undo-requires-clause-fit : goal.undo-requires-clause-fit
undo-requires-clause-fit g c =
    let r = at_place c.args.place c.self.inside.step_record in
    let back = unwound_by r (image_of (kept c.self.inside)) (image_of c.unname.new.self) _ _ _ _ refl c.naming-naming.ensures
    (ap (λ q. q.change) c.unname.ensures.same) c.unname.ensures.image refl in
    subst (λ k. IsFit k) (sym back) (rw (← c.self.view_is) at c.requires.fit)

pub returns-clause-image : goal.returns-clause-image
returns-clause-image g c =
    rw (← c.self.view_is) (unwound_by (at_place c.args.place c.self.inside.step_record) (image_of (kept c.self.inside))
    (image_of c.unname.new.self) _ _ _ _ refl c.naming-naming.ensures (ap (λ q. q.change) c.unname.ensures.same) c.unname.ensures.image
    c.undo.ensures.image)

pub returns-clause-fit : goal.returns-clause-fit
returns-clause-fit g c =
    let r = at_place c.args.place c.self.inside.step_record in
    let back = unwound_by r (image_of (kept c.self.inside)) (image_of c.unname.new.self) (image_of c.undo.new.self) _ _ _ refl
    c.naming-naming.ensures (ap (λ q. q.change) c.unname.ensures.same) c.unname.ensures.image c.undo.ensures.image in
    subst (λ k. IsFit k) (sym back) (rw (← c.self.view_is) at c.requires.fit)
