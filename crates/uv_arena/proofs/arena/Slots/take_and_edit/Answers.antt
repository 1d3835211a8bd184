use Rattle.uv_arena.proofs.ProofNames.{◌<◌, length, sym, ap, ◌∙◌, subst, loose, Arena, Memory, memory_of}
use Rattle.uv_arena.proofs.Memories.{length_relinked}
use Rattle.uv_arena.proofs.arena.Slots.take_and_edit.Goals as goal

pub edit-requires : goal.edit-requires
edit-requires g c =
    let X = g.row.T.Denot in let t = c.args.place in let m : Memory X = memory_of c.self.inside.memory in
    let long = ap (λ (n : Memory X). length n.row.items) c.take.ensures.memory ∙ length_relinked t t.after t.before loose m
    ∙ ap (λ (i : Arena X). length i.image.memory.row.items) c.self.view_is in
    subst (λ n. t.slot < n) (sym long) c.requires.within.2
