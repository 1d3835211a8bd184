use Rattle.uv_arena.proofs.ProofNames.{◌+◌, false, None, length, sym, ap, ◌∙◌, subst, IsSound, IsWithin, in_memory, edited, put_in, IsRemoved}
use Rattle.uv_arena.proofs.Removals.{frees}
use Rattle.uv_arena.proofs.arena.Slots.free.Goals as goal

pub edit_and_put-requires-clause-within : goal.edit_and_put-requires-clause-within
edit_and_put-requires-clause-within g c =
    let v = c.args.self.now.image in
    subst (λ p. IsWithin p (length v.memory.row.items)) (sym c.front_place-place.ensures)
    (frees v c.is_sound.ensures c.args.id c.args.content c.requires.held c.requires.loose c.requires.more).within

pub edit_and_put-requires-clause-sound : goal.edit_and_put-requires-clause-sound
edit_and_put-requires-clause-sound g c =
    let v = c.args.self.now.image in
    subst (λ p. IsSound (in_memory (λ m. put_in p (edited p.slot (record {
      generation = c.args.id.generation + 1;
      content =
          None;
    }) m)) v)) (sym c.front_place-place.ensures)
    (frees v c.is_sound.ensures c.args.id c.args.content c.requires.held c.requires.loose c.requires.more).sound

pub returns-clause-removed : goal.returns-clause-removed
returns-clause-removed g c =
    let v = c.args.self.now.image in
    subst (λ j. IsRemoved v j c.args.id c.args.content (record { slot = c.args.id.slot; retired = false }))
    (sym (c.edit_and_put.ensures.image ∙ ap (λ p. in_memory (λ m. put_in p (edited p.slot (record {
      generation = c.args.id.generation + 1;
      content =
          None;
    }) m)) v) c.front_place-place.ensures))
    (frees v c.is_sound.ensures c.args.id c.args.content c.requires.held c.requires.loose c.requires.more).removed
