use Rattle.uv_arena.proofs.ProofNames.{true, length, sym, ap, ◌∙◌, subst, arith, Image, IsSound, in_memory, grown, IsInserted}
use Rattle.uv_arena.proofs.Changes.{grows}
use Rattle.uv_arena.proofs.arena.Slots.insert_unused.Goals as goal

pub grow-requires-clause-sound : goal.grow-requires-clause-sound
grow-requires-clause-sound g c =
    subst (λ (i : Image g.row.T.Denot). IsSound (in_memory (grown c.args.content) i)) (sym c.reserve.ensures.image)
    (grows c.args.self.now.image c.is_sound.ensures c.args.content (omega arith) c.requires).sound

pub returns-in-Ok-clause-ok : goal.returns-in-Ok-clause-ok
returns-in-Ok-clause-ok g c =
    let X = g.row.T.Denot in let v : Image X = c.args.self.now.image in
    let is = c.grow.ensures.image ∙ ap (λ (i : Image X). in_memory (grown c.args.content) i) c.reserve.ensures.image in
    subst (λ n. IsInserted v c.grow.new.self.image c.args.content (record { slot = n; generation = 0 }) (record {
      slot = n;
      fresh =
          true;
    })) (sym c.used-slot.ensures.used)
    (subst (λ j. IsInserted v j c.args.content (record { slot = length v.memory.row.items; generation = 0 }) (record {
      slot =
          length v.memory.row.items;
      fresh = true;
    })) (sym is)
    (grows v c.is_sound.ensures c.args.content (omega arith) c.requires).inserted)
