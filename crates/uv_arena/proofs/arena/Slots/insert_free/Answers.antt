use Rattle.uv_arena.proofs.ProofNames.{Some, false, length, sym, ◌∙◌, subst, Slot, ChainPlace, IsSound, IsWithin, in_memory, edited, slot_at, taken_out, IsInserted}
use Rattle.uv_arena.proofs.Changes.{reuses}
use Rattle.uv_arena.proofs.arena.Slots.insert_free.Goals as goal

pub slot_at-generation-requires : goal.slot_at-generation-requires
slot_at-generation-requires g c = (reuses c.args.self.now.image c.is_sound.ensures c.args.content c.args.slot c.requires).slot

pub place-place-requires : goal.place-place-requires
place-place-requires g c = (reuses c.args.self.now.image c.is_sound.ensures c.args.content c.args.slot c.requires).slot

pub take_and_edit-requires-clause-within : goal.take_and_edit-requires-clause-within
take_and_edit-requires-clause-within g c =
    let v = c.args.self.now.image in
    subst (λ p. IsWithin p (length v.memory.row.items)) (sym c.place-place.ensures)
    (reuses v c.is_sound.ensures c.args.content c.args.slot c.requires).within

pub take_and_edit-requires-clause-sound : goal.take_and_edit-requires-clause-sound
take_and_edit-requires-clause-sound g c =
    let v = c.args.self.now.image in let X = g.row.T.Denot in
    subst (λ (r : ChainPlace × Slot X). IsSound (in_memory (λ m. edited r.0.slot (record {
      generation = r.1.generation;
      content =
          Some c.args.content;
    }) (taken_out r.0 m)) v))
    (λ i. (sym c.place-place.ensures i, sym c.slot_at-generation.ensures i)) (reuses v c.is_sound.ensures c.args.content c.args.slot c.requires).sound

pub returns-clause-inserted : goal.returns-clause-inserted
returns-clause-inserted g c =
    let v = c.args.self.now.image in let X = g.row.T.Denot in let slot = c.args.slot in
    let is = c.take_and_edit.ensures.image ∙ (λ i. in_memory (λ m. edited (c.place-place.ensures i).slot (record {
      generation =
          (c.slot_at-generation.ensures i).generation;
      content = Some c.args.content;
    }) (taken_out (c.place-place.ensures i) m)) v) in
    subst (λ (s : Slot X). IsInserted v c.take_and_edit.new.self.image c.args.content (record {
      slot = slot;
      generation =
          s.generation;
    }) (record { slot = slot; fresh = false })) (sym c.slot_at-generation.ensures)
    (subst (λ j. IsInserted v j c.args.content (record { slot = slot; generation = (slot_at v.memory slot).generation }) (record {
      slot = slot;
      fresh = false;
    })) (sym is) (reuses v c.is_sound.ensures c.args.content slot c.requires).inserted)
