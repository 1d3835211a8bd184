use Rattle.uvt_find.specs.Status.{nothing_settled}
use Rattle.uvt_find.proofs.running.not_settled.Goals as goal

pub returns-clause-told : goal.returns-clause-told
returns-clause-told c = rw (c.in_ok-text.ensures.text, c.from.ensures) (nothing_settled c.requires.greatest)
