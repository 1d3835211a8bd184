use Rattle.uv_arena.proofs.ProofNames.{Some, sym, ap, ◌∙◌, subst, Id, Links, IsListed, slot_of}
use Rattle.uv_arena.proofs.Readings.{neighbours}
use Rattle.uv_arena.proofs.arena.Slots.next.Goals as goal

pub returns-in_err-slot-clause-next : goal.returns-in_err-slot-clause-next
returns-in_err-slot-clause-next g c = λ on l us vs is.
    ap slot_of c.from_residual-in_err-slot.ensures ∙ sym c.in_err-slot.was
    ∙ ap (λ (q : Links). q.next) c.in_ok-links_on_list.ensures.some.1
    ∙ (neighbours c.args.self.now.image c.is_sound.ensures c.args.id on).after l us vs is

pub id_at-requires : goal.id_at-requires
id_at-requires g c =
    ((neighbours c.args.self.now.image c.is_sound.ensures c.args.id c.in_ok-links_on_list.ensures.some.0).next c.in_ok-slot.slot
    (ap (λ (q : Links). q.next) (sym c.in_ok-links_on_list.ensures.some.1) ∙ c.in_ok-slot.was)).slot

pub returns-clause-next : goal.returns-clause-next
returns-clause-next g c = λ on l us vs is.
    ap (λ (d : Id). Some d.slot) c.id_at.ensures ∙ sym c.in_ok-slot.was ∙ ap (λ (q : Links). q.next) c.in_ok-links_on_list.ensures.some.1
    ∙ (neighbours c.args.self.now.image c.is_sound.ensures c.args.id on).after l us vs is

pub returns-clause-listed : goal.returns-clause-listed
returns-clause-listed g c =
    let v = c.args.self.now.image in
    subst (IsListed v) (sym c.id_at.ensures)
    ((neighbours v c.is_sound.ensures c.args.id c.in_ok-links_on_list.ensures.some.0).next c.in_ok-slot.slot
    (ap (λ (q : Links). q.next) (sym c.in_ok-links_on_list.ensures.some.1) ∙ c.in_ok-slot.was)).listed
