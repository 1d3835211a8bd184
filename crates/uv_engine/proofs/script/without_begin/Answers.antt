use Rattle.uv_engine.proofs.Starting.{no_script, no_script_fault}
use Rattle.uv_engine.proofs.script.without_begin.Goals as goal

pub returns-in-Err : goal.returns-in-Err
returns-in-Err c = no_script_fault _ _ _ c.in-Err.ensures

pub returns : goal.returns
returns c = no_script _ _ c.in-Ok.field-0 _ c.in-Ok.ensures c.after_last_line.ensures
