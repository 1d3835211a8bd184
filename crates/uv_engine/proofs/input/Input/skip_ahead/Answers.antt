use Rattle.uv_engine.proofs.Names.{arith}
use Rattle.uv_engine.proofs.Buffers.{skips_fed, skips_all}
use Rattle.uv_engine.proofs.input.Input.skip_ahead.Goals as goal

pub returns-in-Some-clause-line : goal.returns-in-Some-clause-line
returns-in-Some-clause-line c = grind (arith, skips_fed)

pub returns-in-None-clause-line : goal.returns-in-None-clause-line
returns-in-None-clause-line c = grind (arith, skips_all)
