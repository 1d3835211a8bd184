use Rattle.uv_sections.proofs.Names.{Bool, ap, sym, ◌∙◌, Order, Way, goes_by, way, order_of}
use Rattle.uv_sections.proofs.iterating.turn.Goals as goal

pub returns-clause-goes : goal.returns-clause-goes
returns-clause-goes c s h reached =
    let run = c.args.run in
    let order = order_of c.args.script.now in
    let q = c.go_by.ensures.goes s h reached in (
      q.0,
      ap (λ (g : Bool). goes_by order s run (way order run.mode g c.args.turn)) (c.goes-going.ensures s h reached)
          ∙ ap (λ (o : Order). goes_by order s run (way o run.mode c.goes-going.result c.args.turn)) (sym c.order-order.ensures)
          ∙ ap (λ (w : Way). goes_by order s run w) (sym c.way-way.ensures)
          ∙ ap (λ (o : Order). goes_by o s run c.way-way.result) (sym c.order-order.ensures) ∙ q.1,
      q.2,
    )
