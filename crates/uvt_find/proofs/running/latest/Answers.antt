use Rattle.std.proofs.Common.{◌∙◌, ap, arith}
use Rattle.uv_asking.specs.Asked.{asked_in}
use Rattle.uv_find.specs.Orders.{Rules}
use Rattle.uv_find.specs.Holding.{asks_late}
use Rattle.uvt_find.proofs.running.latest.Goals as goal

pub rise-risen-requires : goal.rise-risen-requires
rise-risen-requires g c = record {
  late = ap (λ (r : Rules). asks_late r.question) c.requires.rules ∙ ap asks_late c.requires.question;
}

pub ends_at-requires-clause-risen : goal.ends_at-requires-clause-risen
ends_at-requires-clause-risen g c = rw (c.requires.spot, c.requires.rules) at c.rise-risen.ensures.rises

pub called_never-requires-clause-risen : goal.called_never-requires-clause-risen
called_never-requires-clause-risen g c = rw (c.requires.spot, c.requires.rules) at c.rise-risen.ensures.rises
