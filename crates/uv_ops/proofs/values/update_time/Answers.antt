use Rattle.uv_ops.proofs.Names.{image_of}
use Rattle.uv_ops.proofs.Valued.{update_performs}
use Rattle.uv_ops.proofs.values.update_time.Goals as goal

pub returns-clause-performs : goal.returns-clause-performs
returns-clause-performs c =
    update_performs (image_of c.args.memory.now) (image_of c.update_time.new.self) c.update_time.ensures.image
