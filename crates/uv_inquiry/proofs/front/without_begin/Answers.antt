use Rattle.uv_inquiry.proofs.Names.{unread, no_script, no_script_fault}
use Rattle.uv_inquiry.proofs.front.without_begin.Goals as goal

pub returns-in-Err : goal.returns-in-Err
returns-in-Err c = no_script_fault unread c.args.input.now c.in-Err.fault c.in-Err.ensures

pub returns : goal.returns
returns c = no_script unread c.args.input.now c.in-Ok.field-0 c.behind_last.result c.in-Ok.ensures c.behind_last.ensures
