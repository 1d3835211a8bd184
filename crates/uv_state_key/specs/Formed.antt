-- What of a state the bytes name.
use Rattle.std.specs.Prelude.{ℕ, Option, Some, None}
use Rattle.uv_model.specs.State.{State}
use Rattle.uv_tale.specs.Tale.{Tale, tale}

-- all of it, or what is told of it
pub data Formed : Type 0 where
  Whole : State → Formed
  Told : Tale → Formed

-- with counts up to a number
abbrev pub formed : Option ℕ → State → Formed
formed None s = Whole s
formed (Some n) s = Told (tale n s)
