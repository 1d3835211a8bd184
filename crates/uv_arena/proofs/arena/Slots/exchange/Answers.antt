use Rattle.uv_arena.proofs.ProofNames.{sym, ◌∙◌, subst, swap, Image, IsSound, memory_of}
use Rattle.uv_arena.proofs.Splices.{spliced_sound}
use Rattle.uv_arena.proofs.arena.Slots.exchange.Goals as goal

pub invariant_of-self : goal.invariant_of-self
invariant_of-self g c =
    let v : Image g.row.T.Denot = record {
      memory = memory_of c.self.inside.memory;
      names = c.self.inside.names;
      last = c.self.inside.last_generation;
    } in
    let is = c.swap.ensures.after ∙ (λ i. swap v.names (c.number.ensures.number i) (c.number-2.ensures.number i)) in
    subst (λ ns. IsSound (record { memory = v.memory; names = ns; last = v.last })) (sym is) (spliced_sound v c.self.invariant c.args.from c.args.to)
