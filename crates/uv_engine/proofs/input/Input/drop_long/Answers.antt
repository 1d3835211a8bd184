use Rattle.uv_engine.proofs.Names.{◌≡◌, length, arith}
use Rattle.uv_engine.proofs.Buffers.{drop_past}
use Rattle.uv_engine.proofs.input.Input.drop_long.Goals as goal

pub returns-clause-rest : goal.returns-clause-rest
returns-clause-rest c = grind (arith, length, drop_past)
