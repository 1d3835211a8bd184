use Rattle.uv_session.proofs.Names.{refl}
use Rattle.uv_session.proofs.Traces.{is_documented, is_once, is_legal}
use Rattle.uv_session.proofs.session.Session.is_documented.Goals as goal

pub returns-clause-documented : goal.returns-clause-documented
returns-clause-documented g c = is_documented c.args.self.now _ refl

pub returns-clause-once : goal.returns-clause-once
returns-clause-once g c = is_once c.args.self.now _ refl

pub returns-clause-pool : goal.returns-clause-pool
returns-clause-pool g c = is_legal c.args.self.now _ refl
