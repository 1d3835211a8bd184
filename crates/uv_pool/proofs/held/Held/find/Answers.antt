use Rattle.uv_pool.proofs.Found.{finds}
use Rattle.uv_pool.proofs.held.Held.find.Goals as goal

pub returns-clause-found : goal.returns-clause-found
returns-clause-found c = finds c.args.self.now c.looked_up-place.result c.args.id c.requires c.looked_up-place.ensures
