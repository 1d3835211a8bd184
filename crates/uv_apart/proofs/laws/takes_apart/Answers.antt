use Rattle.uv_apart.proofs.Pool as pool
use Rattle.uv_apart.proofs.laws.takes_apart.Goals as goal

pub returns-clause-meets : goal.returns-clause-meets
returns-clause-meets c = pool.takes_apart

pub returns-clause-refused : goal.returns-clause-refused
returns-clause-refused c = pool.take_refuses
