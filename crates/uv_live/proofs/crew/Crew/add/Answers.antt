use Rattle.uv_live.proofs.Names.{◌∙◌}
use Rattle.uv_live.proofs.Numbered.{numbered_more}
use Rattle.uv_live.proofs.crew.Crew.add.Goals as goal

pub invariant_of-self-clause-numbered : goal.invariant_of-self-clause-numbered
invariant_of-self-clause-numbered g c =
    let before = c.args.self.now in
    rw c.push_reserved.ensures.items
    (numbered_more (λ h. h.promise.worker) before.started.items c.args.worker before.numbered
    (c.requires.next ∙ before.started.ok.0))
