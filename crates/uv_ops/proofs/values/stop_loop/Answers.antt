use Rattle.uv_ops.proofs.Names.{image_of}
use Rattle.uv_ops.proofs.Valued.{stop_performs}
use Rattle.uv_ops.proofs.values.stop_loop.Goals as goal

pub returns-clause-performs : goal.returns-clause-performs
returns-clause-performs c =
    stop_performs (image_of c.args.memory.now) (image_of c.set_stop.new.self) c.set_stop.ensures.image
