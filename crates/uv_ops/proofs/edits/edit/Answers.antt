use Rattle.uv_ops.proofs.Names.{held}
use Rattle.uv_ops.proofs.Edited.{edited_stands}
use Rattle.uv_ops.proofs.edits.edit.Goals as goal

pub returns-clause-stands : goal.returns-clause-stands
returns-clause-stands c =
    edited_stands c.edit.new.self.step_record (held c.args.memory.now) (held c.edit.new.self) c.edit.ensures.frame
    c.args.id c.args.from c.args.to c.requires.found c.edit.ensures.does
