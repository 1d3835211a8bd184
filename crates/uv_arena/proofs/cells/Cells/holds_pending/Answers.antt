use Rattle.uv_arena.proofs.ProofNames.{pends_in}
use Rattle.uv_arena.proofs.Held.{any_counted}
use Rattle.uv_arena.proofs.cells.Cells.holds_pending.Goals as goal

pub returns : goal.returns
returns g c = rw (← c.self.view_is, c.self.invariant.pending) (any_counted (pends_in g.T.Pends.is_pending) c.self.inside.pieces.row.items)
