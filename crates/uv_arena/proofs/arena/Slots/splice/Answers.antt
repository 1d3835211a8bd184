use Rattle.uv_arena.proofs.ProofNames.{sym, subst, IsSpliced}
use Rattle.uv_arena.proofs.Splices.{splices}
use Rattle.uv_arena.proofs.arena.Slots.splice.Goals as goal

pub returns-clause-spliced : goal.returns-clause-spliced
returns-clause-spliced g c =
    let a = c.args.from in let b = c.args.to in
    subst (λ j. IsSpliced c.args.self.now.image j a b (record {
      from = a;
      to =
          b;
    })) (sym c.exchange.ensures.image) (splices c.args.self.now.image c.is_sound.ensures a b c.requires)
