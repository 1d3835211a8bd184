use Rattle.uv_arena.proofs.ProofNames.{length, sym, subst, IsSound, IsWithin, in_memory, taken_out, IsUnlinked}
use Rattle.uv_arena.proofs.Pushes.{take_off}
use Rattle.uv_arena.proofs.arena.Slots.unlink.Goals as goal

pub place-place-requires : goal.place-place-requires
place-place-requires g c = (take_off c.args.self.now.image c.is_sound.ensures c.args.id c.requires).slot

pub take-requires-clause-within : goal.take-requires-clause-within
take-requires-clause-within g c =
    let v = c.args.self.now.image in
    subst (λ p. IsWithin p (length v.memory.row.items)) (sym c.place-place.ensures) (take_off v c.is_sound.ensures c.args.id c.requires).within

pub take-requires-clause-sound : goal.take-requires-clause-sound
take-requires-clause-sound g c =
    let v = c.args.self.now.image in
    subst (λ p. IsSound (in_memory (taken_out p) v)) (sym c.place-place.ensures) (take_off v c.is_sound.ensures c.args.id c.requires).sound

pub returns-clause-unlinked : goal.returns-clause-unlinked
returns-clause-unlinked g c =
    let v = c.args.self.now.image in
    subst (λ j. IsUnlinked v j c.args.id c.place-place.result) (sym c.take.ensures.image)
    (subst (λ p. IsUnlinked v (in_memory (taken_out p) v) c.args.id p) (sym c.place-place.ensures)
    (take_off v c.is_sound.ensures c.args.id c.requires).unlinked)
