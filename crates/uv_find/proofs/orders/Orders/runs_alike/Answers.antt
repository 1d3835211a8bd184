use Rattle.uv_find.proofs.Names.{◌∙◌, ◌-◌, are_run_alike, runner, rules_by}
use Rattle.uv_model.specs.After.{after}
use Rattle.uv_find.proofs.orders.Orders.runs_alike.Goals as goal

pub returns : goal.returns
returns g c =
    let terms = c.self.inside.terms in
    let program = c.machine.ensures.program in
    let steps = c.machine.ensures.steps in
    rw (← c.self.view_is) (c.are_run_alike.ensures ∙ (λ i.
    are_run_alike (rules_by (program i) terms) (after (program i) (steps i))
    (runner (after (program i) (steps i)) (c.args.rank - 1)) (runner (after (program i) (steps i)) c.args.rank)))
