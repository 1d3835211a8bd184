use Rattle.uv_engine.proofs.Gathers.{few_left}
use Rattle.uv_engine.proofs.answer.spill.Goals as goal

pub returns-clause-few : goal.returns-clause-few
returns-clause-few g c = few_left c.write_out.result c.write_out.new.text.items c.write_out.ensures.empty
