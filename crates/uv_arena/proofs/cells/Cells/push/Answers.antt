use Rattle.uv_arena.proofs.ProofNames.{arith, is_some, pends_in}
use Rattle.uv_arena.proofs.Held.{count_push, fits_push}
use Rattle.uv_arena.proofs.cells.Cells.push.Goals as goal

pub recounted-self-inside-requires : goal.recounted-self-inside-requires
recounted-self-inside-requires g c =
    let within = rw (← c.self.view_is) at c.requires.within in
    rw (c.self.invariant.held, c.holds.ensures)
    (fits_push is_some c.self.inside.pieces.row.items c.args.item (omega (arith, within, c.self.invariant.few)))

pub recounted-self-inside-requires-2 : goal.recounted-self-inside-requires-2
recounted-self-inside-requires-2 g c =
    let within = rw (← c.self.view_is) at c.requires.within in
    rw (c.self.invariant.pending, c.pends.ensures)
    (fits_push (pends_in g.T.Pends.is_pending) c.self.inside.pieces.row.items c.args.item (omega (arith, within, c.self.invariant.few)))

pub invariant_of-self : goal.invariant_of-self
invariant_of-self g c =
    grind (arith, count_push {X = g.row.T.Denot} is_some, count_push {X = g.row.T.Denot} (pends_in g.T.Pends.is_pending))
