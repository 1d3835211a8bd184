use Rattle.uv_ops.proofs.Names.{ap, subst, RefusesInsert, with_new, held, image_of}
use Rattle.uv_ops.proofs.Made.{make_full}
use Rattle.uv_ops.proofs.Inits.{inits_by}
use Rattle.uv_ops.proofs.making.init.Goals as goal

pub returns-in-Err-Full-clause-performs : goal.returns-in-Err-Full-clause-performs
returns-in-Err-Full-clause-performs c =
    make_full (image_of c.args.memory.now) c.args.name (λ s. with_new s c.args.name c.args.kind) c.if-is_live.ensures (image_of c.init.new.self)
    (ap (λ h. h.image) c.in-Err-Full.ensures.err.1.0)
    (subst (λ fault. RefusesInsert fault c.args.memory.now.slots) c.in-Err-Full.field-0-is c.in-Err-Full.ensures.err.0)

pub returns-in-Ok-clause-performs : goal.returns-in-Ok-clause-performs
returns-in-Ok-clause-performs c =
    inits_by c.init.new.self.step_record (held c.args.memory.now) (held c.init.new.self) c.in-Ok.ensures.frame
    c.args.name c.args.kind
    c.in-Ok.id c.in-Ok.ensures.made c.if-is_live.ensures (image_of c.bind_name.new.memory) c.bind_name.ensures.image
