use Rattle.uv_search.proofs.Names.{◌∙◌}
use Rattle.uv_search.proofs.round.spread.Goals as goal

pub moves-preserved : goal.moves-preserved
moves-preserved g c =
    let i = c.moves.invariant in
    let looked = rw (i.rules, i.place, i.before) at c.in_ok-look.ensures.looked in
    record {
      rules = c.look.ensures.rules ∙ i.rules;
      place = looked.0;
      before = looked.1;
      keys = λ p led few. looked.2 p led (i.keys p led few);
    }

pub returns-then-branch-clause-looked : goal.returns-then-branch-clause-looked
returns-then-branch-clause-looked g c =
    let i = c.moves.invariant in
    let looked = rw (i.rules, i.place, i.before) at c.in_ok-look.ensures.looked in
    (looked.0, looked.1, λ p led few. looked.2 p led (i.keys p led few))
