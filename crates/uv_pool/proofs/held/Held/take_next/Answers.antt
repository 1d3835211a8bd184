use Rattle.uv_pool.proofs.Names.{Some, refl, ap, sym, ◌∙◌}
use Rattle.uv_pool.proofs.held.Held.take_next.Goals as goal

pub returns-in-Some-Some-clause-call : goal.returns-in-Some-Some-clause-call
returns-in-Some-Some-clause-call c =
    let there = sym c.run_at.ensures ∙ c.in-Some-Some.is ∙ ap Some c.in-Some-Some.field-0-is in
    ((c.in-Some-Some.field-0-0, there), refl)
