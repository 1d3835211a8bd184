use Rattle.uv_arena.proofs.ProofNames.{Some, sym, ap, ◌∙◌, subst, IsSound, in_memory, edited, IsSet}
use Rattle.uv_arena.proofs.Changes.{changes}
use Rattle.uv_arena.proofs.arena.Slots.change.Goals as goal

pub slot_at-generation-requires : goal.slot_at-generation-requires
slot_at-generation-requires g c = (changes c.args.self.now.image c.is_sound.ensures c.args.id c.args.content c.args.was c.requires).within

pub edit-requires-clause-within : goal.edit-requires-clause-within
edit-requires-clause-within g c = (changes c.args.self.now.image c.is_sound.ensures c.args.id c.args.content c.args.was c.requires).within

pub edit-requires-clause-sound : goal.edit-requires-clause-sound
edit-requires-clause-sound g c =
    let v = c.args.self.now.image in
    subst (λ s. IsSound (in_memory (edited c.args.id.slot (record {
      generation = s.generation;
      content =
          Some c.args.content;
    })) v)) (sym c.slot_at-generation.ensures)
    (changes v c.is_sound.ensures c.args.id c.args.content c.args.was c.requires).sound

pub returns-clause-set : goal.returns-clause-set
returns-clause-set g c =
    let v = c.args.self.now.image in
    subst (λ j. IsSet v j c.args.id c.args.content c.args.was)
    (sym (c.edit.ensures.image ∙ ap (λ s. in_memory (edited c.args.id.slot (record {
      generation = s.generation;
      content =
          Some c.args.content;
    })) v) c.slot_at-generation.ensures))
    (changes v c.is_sound.ensures c.args.id c.args.content c.args.was c.requires).set
