use Rattle.uv_engine.proofs.LongLines.{front_read, front_fault}
use Rattle.uv_engine.proofs.Names.{err_from_is_err_and}
use Rattle.uv_engine.proofs.Faults.{on_answer, no_read}
use Rattle.uv_engine.proofs.Near.{stops_near, none_stops}
use Rattle.uv_engine.proofs.script.read_script.Goals as goal

pub returns-clause-script : goal.returns-clause-script
returns-clause-script g c = λ reads.
    front_read _ _ _ c.in_ok-front.front.end c.parse_front.result (c.in_ok-front.ensures.front reads) c.parse_front.ensures

pub returns-clause-err : goal.returns-clause-err
returns-clause-err g c = front_fault c.in_ok-front.front.text.items c.in_ok-front.front.end c.parse_front.result c.parse_front.ensures

pub returns-in_err-front-clause-budget : goal.returns-in_err-front-clause-budget
returns-in_err-front-clause-budget g c =
    let p = err_from_is_err_and c.from_residual.result c.from_residual.ensures.1 in
    rw (p.1, p.2) (no_read _ _ c.in_err-front.ensures.err)

pub returns-clause-budget : goal.returns-clause-budget
returns-clause-budget g c = on_answer c.parse_front.result c.in_ok-front.ensures.budget

pub returns-clause-stops : goal.returns-clause-stops
returns-clause-stops g c = stops_near c.parse_front.result _ _ c.in_ok-front.ensures.near

pub returns-in_err-front-clause-stops : goal.returns-in_err-front-clause-stops
returns-in_err-front-clause-stops g c =
    let p = err_from_is_err_and c.from_residual.result c.from_residual.ensures.1 in
    rw (p.1, p.2) (λ reads. none_stops c.in_err-front.field-0.0 _ _ c.in_err-front.ensures.err)
