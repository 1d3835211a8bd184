use Rattle.uv_arena.proofs.ProofNames.{is_some}
use Rattle.uv_arena.proofs.Held.{any_counted}
use Rattle.uv_arena.proofs.cells.Cells.holds_any.Goals as goal

pub returns : goal.returns
returns g c = rw (← c.self.view_is, c.self.invariant.held) (any_counted is_some c.self.inside.pieces.row.items)
