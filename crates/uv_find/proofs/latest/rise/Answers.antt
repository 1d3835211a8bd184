use Rattle.uv_find.proofs.Names.{◌∙◌, refl, arith}
use Rattle.uv_find.proofs.latest.rise.Goals as goal

pub look-requires : goal.look-requires
look-requires g c = record { here = rw c.ask_late.ensures.rules refl }

pub rounds-preserved : goal.rounds-preserved
rounds-preserved g c = record {
  spot = (rw c.in-Late.is at c.look.ensures.back) ∙ c.ask_late.ensures.spot ∙ c.rounds.invariant.spot;
  late = rw (c.look.ensures.rules, c.ask_late.ensures.rules) refl;
  rules = λ m. rw (c.look.ensures.rules, c.ask_late.ensures.rules) (c.rounds.invariant.rules m);
  least = omega (arith, c.rounds.invariant.least, c.above-ms.ensures);
}

pub returns-in-Never-clause-rises : goal.returns-in-Never-clause-rises
returns-in-Never-clause-rises g c =
    rw (c.in-Never.is, c.ask_late.ensures.rules, c.ask_late.ensures.spot, c.rounds.invariant.spot, c.rounds.invariant.rules c.rounds.ms) at
    c.look.ensures.found
