-- The steps that stand, as their rows show them.
use Rattle.std.specs.Prelude.{ℕ}
use Rattle.uv_model.specs.declared.place.Place.{Place}
use Rattle.uv_memory.specs.Kept.{Kept}
use Rattle.uv_loop.specs.LineRows.{KeptLines}

pub record Standing : Type 0 where
  -- what each appended to the trace
  pub seen : KeptLines
  -- what takes each back
  pub trail : Kept Place
  -- for so many more there is memory
  pub ready : ℕ
