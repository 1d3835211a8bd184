use Rattle.uv_arena.proofs.ProofNames.{true, sym, subst, IsRemoved}
use Rattle.uv_arena.proofs.Removals.{retires}
use Rattle.uv_arena.proofs.arena.Slots.retire.Goals as goal

pub edit-requires-clause-within : goal.edit-requires-clause-within
edit-requires-clause-within g c =
    (retires c.args.self.now.image c.is_sound.ensures c.args.id c.args.content c.requires.held c.requires.loose c.requires.last).slot

pub edit-requires-clause-sound : goal.edit-requires-clause-sound
edit-requires-clause-sound g c =
    (retires c.args.self.now.image c.is_sound.ensures c.args.id c.args.content c.requires.held c.requires.loose c.requires.last).sound

pub returns-clause-removed : goal.returns-clause-removed
returns-clause-removed g c =
    let v = c.args.self.now.image in
    subst (λ j. IsRemoved v j c.args.id c.args.content (record {
      slot = c.args.id.slot;
      retired = true;
    })) (sym c.edit.ensures.image)
    (retires v c.is_sound.ensures c.args.id c.args.content c.requires.held c.requires.loose c.requires.last).removed
