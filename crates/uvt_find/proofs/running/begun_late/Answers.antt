use Rattle.std.proofs.Common.{◌∙◌, ap, sym}
use Rattle.uv_find.specs.Orders.{Rules, asked_late}
use Rattle.uv_find.specs.Holding.{asks_late}
use Rattle.uv_find.specs.Spots.{first_spot}
use Rattle.uvt_find.proofs.running.begun_late.Goals as goal

pub ask_late-requires : goal.ask_late-requires
ask_late-requires g c = record {
  late = ap (λ (r : Rules). asks_late r.question) c.in_ok-orders.ensures.rules ∙ ap asks_late c.requires.question;
}

pub returns-clause-rules : goal.returns-clause-rules
returns-clause-rules g c =
    c.ask_late.ensures.rules ∙ ap (λ (r : Rules). asked_late r c.args.name c.args.late) c.in_ok-orders.ensures.rules

pub returns-clause-spot : goal.returns-clause-spot
returns-clause-spot g c = c.ask_late.ensures.spot ∙ c.in_ok-orders.ensures.spot ∙ sym (ap first_spot c.ask_late.ensures.rules)
