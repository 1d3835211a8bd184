use Rattle.uv_arena.proofs.ProofNames.{Some, sym, ap, ◌∙◌, subst, Id, Links, IsListed, slot_of}
use Rattle.uv_arena.proofs.Readings.{neighbours}
use Rattle.uv_arena.proofs.arena.Slots.prev.Goals as goal

pub returns-in_err-slot-clause-prev : goal.returns-in_err-slot-clause-prev
returns-in_err-slot-clause-prev g c = λ on l us vs is.
    ap slot_of c.from_residual-in_err-slot.ensures ∙ sym c.in_err-slot.was
    ∙ ap (λ (q : Links). q.prev) c.in_ok-links_on_list.ensures.some.1
    ∙ (neighbours c.args.self.now.image c.is_sound.ensures c.args.id on).before l us vs is

pub id_at-requires : goal.id_at-requires
id_at-requires g c =
    ((neighbours c.args.self.now.image c.is_sound.ensures c.args.id c.in_ok-links_on_list.ensures.some.0).prev c.in_ok-slot.slot
    (ap (λ (q : Links). q.prev) (sym c.in_ok-links_on_list.ensures.some.1) ∙ c.in_ok-slot.was)).slot

pub returns-clause-prev : goal.returns-clause-prev
returns-clause-prev g c = λ on l us vs is.
    ap (λ (d : Id). Some d.slot) c.id_at.ensures ∙ sym c.in_ok-slot.was ∙ ap (λ (q : Links). q.prev) c.in_ok-links_on_list.ensures.some.1
    ∙ (neighbours c.args.self.now.image c.is_sound.ensures c.args.id on).before l us vs is

pub returns-clause-listed : goal.returns-clause-listed
returns-clause-listed g c =
    let v = c.args.self.now.image in
    subst (IsListed v) (sym c.id_at.ensures)
    ((neighbours v c.is_sound.ensures c.args.id c.in_ok-links_on_list.ensures.some.0).prev c.in_ok-slot.slot
    (ap (λ (q : Links). q.prev) (sym c.in_ok-links_on_list.ensures.some.1) ∙ c.in_ok-slot.was)).listed
