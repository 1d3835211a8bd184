use Rattle.uv_arena.proofs.ProofNames.{length, sym, ap, ◌∙◌, subst, Arena, Memory, memory_of, IsWithin}
use Rattle.uv_arena.proofs.Memories.{length_edited}
use Rattle.uv_arena.proofs.arena.Slots.edit_and_put.Goals as goal

pub put-requires-clause-within : goal.put-requires-clause-within
put-requires-clause-within g c =
    let X = g.row.T.Denot in let t = c.args.place in let m : Memory X = memory_of c.self.inside.memory in
    let long = ap (λ (n : Memory X). length n.row.items) c.edit.ensures.memory ∙ length_edited t.slot c.args.slot m
    ∙ ap (λ (i : Arena X). length i.image.memory.row.items) c.self.view_is in
    subst (IsWithin t) (sym long) c.requires.within
