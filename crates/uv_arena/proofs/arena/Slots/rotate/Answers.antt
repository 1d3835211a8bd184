use Rattle.uv_arena.proofs.ProofNames.{◌≡◌, None, length, sym, ap, ◌∙◌, subst, ChainPlace, Links, IsSound, IsWithin, back_place, in_memory, put_in, taken_out, IsRotated}
use Rattle.uv_arena.proofs.Pushes.{front_of, back_of, stands_first, turned}
use Rattle.uv_arena.proofs.arena.Slots.rotate.Goals as goal

pub shift-requires-clause-to : goal.shift-requires-clause-to
shift-requires-clause-to g c =
    let v = c.args.self.now.image in
    let is = c.back_place-back.ensures ∙ ap (λ k. back_place k c.args.id.slot v.memory) c.chain-2.ensures.name in
    subst (λ p. IsWithin p (length v.memory.row.items)) (sym is)
    (turned v c.is_sound.ensures c.args.from c.args.to c.args.id c.requires.apart c.requires.first).to_within

pub shift-requires-clause-sound : goal.shift-requires-clause-sound
shift-requires-clause-sound g c =
    let v = c.args.self.now.image in
    let is = c.back_place-back.ensures ∙ ap (λ k. back_place k c.args.id.slot v.memory) c.chain-2.ensures.name in
    let next = c.links.ensures ∙ stands_first v c.is_sound.ensures c.args.from c.args.to c.args.id c.requires.apart c.requires.first in
    let front : ChainPlace = record { list = c.chain.result; before = None; slot = c.args.id.slot; after = c.links.result.next } in
    let there : front ≡ front_of v c.is_sound.ensures c.args.from c.args.to c.args.id c.requires.apart c.requires.first = λ i. record {
      list = c.chain.ensures.name i;
      before = None;
      slot = c.args.id.slot;
      after = ap (λ (l : Links). l.next) next i;
    } in
    subst (λ (p : ChainPlace × ChainPlace). IsSound (in_memory (λ m. put_in p.1 (taken_out p.0 m)) v)) (λ i. (sym there i, sym is i))
    (turned v c.is_sound.ensures c.args.from c.args.to c.args.id c.requires.apart c.requires.first).sound

pub returns-clause-rotated : goal.returns-clause-rotated
returns-clause-rotated g c =
    let v = c.args.self.now.image in
    let is = c.back_place-back.ensures ∙ ap (λ k. back_place k c.args.id.slot v.memory) c.chain-2.ensures.name in
    let next = c.links.ensures ∙ stands_first v c.is_sound.ensures c.args.from c.args.to c.args.id c.requires.apart c.requires.first in
    let front : ChainPlace = record { list = c.chain.result; before = None; slot = c.args.id.slot; after = c.links.result.next } in
    let there : front ≡ front_of v c.is_sound.ensures c.args.from c.args.to c.args.id c.requires.apart c.requires.first = λ i. record {
      list = c.chain.ensures.name i;
      before = None;
      slot = c.args.id.slot;
      after = ap (λ (l : Links). l.next) next i;
    } in
    subst (λ j. IsRotated v j c.args.from c.args.to c.args.id)
    (sym (c.shift.ensures.image ∙ (λ i. in_memory (λ m. put_in (is i) (taken_out (there i) m)) v)))
    (turned v c.is_sound.ensures c.args.from c.args.to c.args.id c.requires.apart c.requires.first).rotated
