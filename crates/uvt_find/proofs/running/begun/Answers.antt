use Rattle.std.proofs.Common.{◌∙◌, ap}
use Rattle.uv_asking.specs.Asked.{asked_in}
use Rattle.uv_find.specs.Spots.{rules_of}
use Rattle.uvt_find.proofs.running.begun.Goals as goal

pub returns-clause-rules : goal.returns-clause-rules
returns-clause-rules g c =
    c.in_ok-orders.ensures.rules
    ∙ ap (λ p. rules_of p (asked_in c.args.inquiry.now.asking)) (c.in_ok-machine.ensures.program ∙ c.in_ok-searched.ensures.script)
