-- What takes one step back.
use Rattle.uv_memory.specs.declared.record.Naming.{Naming}
use Rattle.uv_memory.specs.Change.{Change}

-- where the loop stood, what became of a name, and the change of the rest
pub record Record (P : Type 0) : Type 0 where
  pub place : P
  pub naming : Naming
  pub change : Change

-- the same, where the loop stood elsewhere
abbrev pub at_place : {P Q : Type 0} → Q → Record P → Record Q
at_place place r = record { place = place; naming = r.naming; change = r.change }
