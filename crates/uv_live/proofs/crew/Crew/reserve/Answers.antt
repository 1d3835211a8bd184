use Rattle.uv_live.proofs.crew.Crew.reserve.Goals as goal

pub invariant_of-self-2-clause-numbered : goal.invariant_of-self-2-clause-numbered
invariant_of-self-2-clause-numbered g c = rw c.reserve-2.ensures.items c.args.self.now.numbered
