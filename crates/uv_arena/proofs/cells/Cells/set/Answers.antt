use Rattle.uv_arena.proofs.ProofNames.{arith, is_some, pends_in}
use Rattle.uv_arena.proofs.Held.{count_kept}
use Rattle.uv_arena.proofs.cells.Cells.set.Goals as goal

pub invariant_of-self : goal.invariant_of-self
invariant_of-self g c =
    let xs = c.self.inside.pieces.row.items in
    let alike = rw (← c.self.view_is) at c.requires.alike in
    let h = count_kept is_some xs c.args.index c.args.item alike in
    let p = count_kept (pends_in g.T.Pends.is_pending) xs c.args.index c.args.item alike in
    grind (arith, h, p)
