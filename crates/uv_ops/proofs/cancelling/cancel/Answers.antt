use Rattle.uv_ops.proofs.Names.{ap, held, image_of}
use Rattle.uv_ops.proofs.Cancels.{cancel_unbound, cancel_refused, cancel_done, cancel_performs}
use Rattle.uv_ops.proofs.cancelling.cancel.Goals as goal

pub returns-in-None-clause-cancels : goal.returns-in-None-clause-cancels
returns-in-None-clause-cancels c =
    rw c.pass.ensures.passed (cancel_unbound (image_of c.args.memory.now) c.args.name c.in-None.ensures)

pub returns-in-None-clause-performs : goal.returns-in-None-clause-performs
returns-in-None-clause-performs c =
    let i = image_of c.args.memory.now in
    rw c.pass.ensures.passed (cancel_performs c.args.name i i _ (cancel_unbound i c.args.name c.in-None.ensures))

pub returns-in-Err-clause-cancels : goal.returns-in-Err-clause-cancels
returns-in-Err-clause-cancels c =
    rw c.pass-in-Err.ensures.passed (cancel_refused (image_of c.args.memory.now) (image_of c.cancel.new.self) c.args.name
    (ap (λ h. h.image) c.in-Err.ensures.err.1.0) c.in-Some.id c.in-Err.code c.in-Some.ensures c.in-Err.ensures.err.0)

pub returns-in-Err-clause-performs : goal.returns-in-Err-clause-performs
returns-in-Err-clause-performs c =
    rw c.pass-in-Err.ensures.passed (cancel_performs c.args.name (image_of c.args.memory.now) (image_of c.cancel.new.self) _
    (cancel_refused (image_of c.args.memory.now) (image_of c.cancel.new.self) c.args.name (ap (λ h. h.image) c.in-Err.ensures.err.1.0) c.in-Some.id
    c.in-Err.code c.in-Some.ensures c.in-Err.ensures.err.0))

pub returns-in-Ok-clause-cancels : goal.returns-in-Ok-clause-cancels
returns-in-Ok-clause-cancels c =
    cancel_done c.cancel.new.self.step_record (held c.args.memory.now) (held c.cancel.new.self) c.in-Ok.ensures.frame
    c.args.name
    c.in-Some.id c.in-Some.ensures c.in-Ok.ensures.does

pub returns-in-Ok-clause-performs : goal.returns-in-Ok-clause-performs
returns-in-Ok-clause-performs c =
    cancel_performs c.args.name (image_of c.args.memory.now) (image_of c.cancel.new.self) _
    (cancel_done c.cancel.new.self.step_record (held c.args.memory.now) (held c.cancel.new.self) c.in-Ok.ensures.frame
    c.args.name
    c.in-Some.id c.in-Some.ensures c.in-Ok.ensures.does)
