use Rattle.uv_ops.proofs.Names.{ap, subst, RefusesInsert, reopened, with_queued, held, image_of}
use Rattle.uv_ops.proofs.Made.{make_full}
use Rattle.uv_ops.proofs.Queues.{queues}
use Rattle.uv_ops.proofs.making.queue.Goals as goal

pub returns-in-Err-Full-clause-performs : goal.returns-in-Err-Full-clause-performs
returns-in-Err-Full-clause-performs c =
    make_full (image_of c.args.memory.now) c.args.name (λ s. with_queued s c.args.name c.args.task) c.if-is_live.ensures
    (image_of c.queue.new.self) (ap (λ h. h.image) c.in-Err-Full.ensures.err.1.0)
    (subst (λ fault. RefusesInsert fault c.args.memory.now.slots) c.in-Err-Full.field-0-is c.in-Err-Full.ensures.err.0)

pub returns-in-Ok-clause-performs : goal.returns-in-Ok-clause-performs
returns-in-Ok-clause-performs c =
    queues c.queue.new.self.step_record (held c.args.memory.now) (held c.queue.new.self) c.in-Ok.ensures.frame
    c.args.name c.args.task
    c.in-Ok.id _ (ap reopened c.new.ensures) c.in-Ok.ensures.does c.if-is_live.ensures (image_of c.bind_name.new.memory)
    c.bind_name.ensures.image
