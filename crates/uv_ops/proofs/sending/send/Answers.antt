use Rattle.uv_ops.proofs.Names.{image_of}
use Rattle.uv_ops.proofs.Sends.{send_refused, send_done, send_performs}
use Rattle.uv_ops.proofs.sending.send.Goals as goal

pub returns-in-Err-clause-sends : goal.returns-in-Err-clause-sends
returns-in-Err-clause-sends c =
    rw c.pass.ensures.passed (send_refused (image_of c.args.memory.now) c.args.name c.in-Err.code c.in-Err.ensures)

pub returns-in-Err-clause-performs : goal.returns-in-Err-clause-performs
returns-in-Err-clause-performs c =
    let i = image_of c.args.memory.now in
    rw c.pass.ensures.passed (send_performs c.args.name i i _ (send_refused i c.args.name c.in-Err.code c.in-Err.ensures))

pub returns-in-Ok-clause-sends : goal.returns-in-Ok-clause-sends
returns-in-Ok-clause-sends c =
    send_done (image_of c.args.memory.now) (image_of c.edit.new.memory) c.args.name _ _ _ c.in-Ok.ensures c.sent.ensures c.edit.ensures.stands

pub returns-in-Ok-clause-performs : goal.returns-in-Ok-clause-performs
returns-in-Ok-clause-performs c =
    send_performs c.args.name (image_of c.args.memory.now) (image_of c.edit.new.memory) _
    (send_done _ _ c.args.name _ _ _ c.in-Ok.ensures c.sent.ensures c.edit.ensures.stands)
