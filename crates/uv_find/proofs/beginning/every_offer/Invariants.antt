use Rattle.uv_find.proofs.Names.{◌≡◌, ◌++◌, finishes, first_offers}
use Rattle.uv_find.proofs.beginning.every_offer.Given as goal

abbrev pub invariant-workers : goal.invariant-workers
invariant-workers l = l.offers.items ≡ first_offers l.at_once ++ finishes l.worker
