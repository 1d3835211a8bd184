use Rattle.uv_engine.proofs.Names.{err_from_is_err_and, arith}
use Rattle.uv_engine.proofs.Fronts.{reads_alone, parsed_fault}
use Rattle.uv_engine.proofs.Near.{stops_near, none_stops}
use Rattle.uv_engine.proofs.alone.read_alone.Goals as goal

pub returns-in_err-front-clause-script : goal.returns-in_err-front-clause-script
returns-in_err-front-clause-script g c = grind arith

pub returns-in_err-front-clause-err : goal.returns-in_err-front-clause-err
returns-in_err-front-clause-err g c = grind arith

pub returns-clause-script : goal.returns-clause-script
returns-clause-script g c = grind (arith, reads_alone)

pub returns-clause-err : goal.returns-clause-err
returns-clause-err g c = parsed_fault c.in_ok-front.front.text.items c.in_ok-front.front.end c.parse_alone.result c.parse_alone.ensures

pub returns-in_err-front-clause-within : goal.returns-in_err-front-clause-within
returns-in_err-front-clause-within g c = grind arith

pub returns-clause-within : goal.returns-clause-within
returns-clause-within g c = grind arith

pub returns-in_err-front-clause-stops : goal.returns-in_err-front-clause-stops
returns-in_err-front-clause-stops g c = grind arith

pub returns-clause-stops : goal.returns-clause-stops
returns-clause-stops g c = grind arith
