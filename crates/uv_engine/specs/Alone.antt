-- How a script is read that no commands follow.
use Rattle.std.specs.Prelude.{ℕ, List, Bool, Result, Ok, Err}
use Rattle.uv_ids.specs.declared.fault.Fault.{Fault}
use Rattle.uv_ids.specs.declared.fault.Fault.TheVariants as fault
use Rattle.uv_script.specs.Program.{Program}
use Rattle.uv_script.specs.Grammar.{Parses, unread}
use Rattle.uv_engine.specs.declared.script.FrontEnd.{FrontEnd}
use Rattle.uv_engine.specs.declared.script.FrontEnd.TheVariants.{Begin, Input, Long}
use Rattle.uv_engine.specs.Start.{IsFront, ParsesNone}

-- this is what the text in front of the line `begin` says, or the whole text where there is no such line
pub record SaysInFront (input : List ℕ) (r : Result Program Fault) : Type 0 where
  pub text : List ℕ
  pub begun : Bool
  pub rest : List ℕ
  pub front : IsFront input text begun rest
  pub parses : Parses text r

-- the script, or its first bad line; or want of memory, or a reader that fails
abbrev pub ReadsAlone : List ℕ → Result Program Fault → Type 0
ReadsAlone input (Ok p) = SaysInFront input (Ok p)
ReadsAlone input (Err (fault.Script line)) = SaysInFront input (Err (fault.Script line))
ReadsAlone input (Err fault.Memory) = Unit {0}
ReadsAlone input (Err fault.Read) = Unit {0}
ReadsAlone input (Err _) = ⊥

-- what may be answered to the front of an input that no commands follow, by what ends it
abbrev pub ParsesAlone : List ℕ → FrontEnd → Result Program Fault → Type 0
ParsesAlone text Begin r = Parses text r
ParsesAlone text Input r = Parses text r
ParsesAlone text Long r = ParsesNone unread text r
