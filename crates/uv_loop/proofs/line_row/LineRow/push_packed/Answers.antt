use Rattle.uv_loop.proofs.KeptLines.{pushed_narrow}
use Rattle.uv_loop.proofs.line_row.LineRow.push_packed.Goals as goal

pub invariant_of-self : goal.invariant_of-self
invariant_of-self c = pushed_narrow c.self.inside.lines.items c.push_reserved.new.self.items c.self.inside.wides.items c.line.result
    c.push_reserved.ensures.items c.line.ensures.narrow c.self.invariant
