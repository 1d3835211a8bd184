use Rattle.uv_arena.proofs.ProofNames.{arith, is_some, pends_in}
use Rattle.uv_arena.proofs.Held.{count_set, fits_set}
use Rattle.uv_arena.proofs.cells.Cells.put.Goals as goal

pub recounted-self-inside-requires : goal.recounted-self-inside-requires
recounted-self-inside-requires g c =
    rw (c.self.invariant.held, c.holds.ensures, c.holds-2.ensures)
    (fits_set is_some c.self.inside.pieces.row.items c.args.index c.set-was.result c.args.item c.set-was.ensures.old
    (omega (arith, c.len.ensures.len, c.len.ensures.within, c.self.invariant.few)))

pub recounted-self-inside-requires-2 : goal.recounted-self-inside-requires-2
recounted-self-inside-requires-2 g c =
    rw (c.self.invariant.pending, c.pends.ensures, c.pends-2.ensures)
    (fits_set (pends_in g.T.Pends.is_pending) c.self.inside.pieces.row.items c.args.index c.set-was.result c.args.item c.set-was.ensures.old
    (omega (arith, c.len.ensures.len, c.len.ensures.within, c.self.invariant.few)))

pub invariant_of-self : goal.invariant_of-self
invariant_of-self g c =
    let xs = c.self.inside.pieces.row.items in
    let h = count_set is_some xs c.args.index c.set-was.result c.args.item c.set-was.ensures.old in
    let p = count_set (pends_in g.T.Pends.is_pending) xs c.args.index c.set-was.result c.args.item c.set-was.ensures.old in
    grind (arith, h, p)
