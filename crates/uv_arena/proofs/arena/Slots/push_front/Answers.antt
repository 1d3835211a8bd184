use Rattle.uv_arena.proofs.ProofNames.{◌∷◌, length, sym, ap, ◌∙◌, subst, IsSound, IsWithin, front_place, in_memory, put_in, members, IsPushed}
use Rattle.uv_arena.proofs.Pushes.{put_front}
use Rattle.uv_arena.proofs.arena.Slots.push_front.Goals as goal

pub put-requires-clause-within : goal.put-requires-clause-within
put-requires-clause-within g c =
    let v = c.args.self.now.image in
    let is = c.front_place-place.ensures ∙ ap (λ k. front_place k c.args.id.slot v.memory) c.chain.ensures.name in
    subst (λ p. IsWithin p (length v.memory.row.items)) (sym is)
    (put_front v c.is_sound.ensures c.args.list c.args.id c.requires.held c.requires.loose).within

pub put-requires-clause-sound : goal.put-requires-clause-sound
put-requires-clause-sound g c =
    let v = c.args.self.now.image in
    let is = c.front_place-place.ensures ∙ ap (λ k. front_place k c.args.id.slot v.memory) c.chain.ensures.name in
    subst (λ p. IsSound (in_memory (put_in p) v)) (sym is)
    (put_front v c.is_sound.ensures c.args.list c.args.id c.requires.held c.requires.loose).sound

pub returns-clause-pushed : goal.returns-clause-pushed
returns-clause-pushed g c =
    let v = c.args.self.now.image in
    let is = c.front_place-place.ensures ∙ ap (λ k. front_place k c.args.id.slot v.memory) c.chain.ensures.name in
    subst (λ j. IsPushed v j c.args.list c.args.id (c.args.id.slot ∷ members v c.args.list)) (cc)
    (put_front v c.is_sound.ensures c.args.list c.args.id c.requires.held c.requires.loose).pushed
