use Rattle.uv_arena.proofs.ProofNames.{arith, is_some, pends_in, count_of}
use Rattle.uv_arena.proofs.Held.{count_push}
use Rattle.uv_arena.proofs.cells.Cells.pop.Goals as goal

pub recounted-self-inside-requires : goal.recounted-self-inside-requires
recounted-self-inside-requires g c = (
  count_of is_some c.pop-last.new.self.row.items,
  grind (arith, count_push {X = g.row.T.Denot} is_some),
  grind (arith, count_push {X = g.row.T.Denot} is_some),
)

pub recounted-self-inside-requires-2 : goal.recounted-self-inside-requires-2
recounted-self-inside-requires-2 g c =
    let such = pends_in g.T.Pends.is_pending in (
      count_of such c.pop-last.new.self.row.items,
      grind (arith, count_push {X = g.row.T.Denot} such),
      grind (arith, count_push {X = g.row.T.Denot} such),
    )

pub invariant_of-self : goal.invariant_of-self
invariant_of-self g c = grind (arith, count_push {X = g.row.T.Denot} is_some, count_push {X = g.row.T.Denot} (pends_in g.T.Pends.is_pending))
