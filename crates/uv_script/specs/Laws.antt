-- What a text's reading is free of: two scripts, a script beside a bad line, two first bad lines. That a script's text is read back. And that
-- what doesn't say `io` or `timers heap` is read as in the time when there were no such lines.
use Rattle.std.specs.Prelude.{◌≡◌, ◌⊎◌, ℕ, false, List, Result, Ok, Err}
use Rattle.uv_ids.specs.declared.fault.Fault.{Fault}
use Rattle.uv_ids.specs.declared.fault.Fault.TheVariants as fault
use Rattle.uv_script.specs.Grammar.{MakesFrom, io_said, IsScript, IsBadLine, Parses}
use Rattle.uv_script.specs.Lines.{lines_of}
use Rattle.uv_script.specs.Program.{Program, has_io, from_heap}
use Rattle.uv_script.specs.Text.{script_text}

-- a text has at most one script
abbrev pub HasOneScript : List ℕ → Type 0
HasOneScript text = (p q : Program) → IsScript text p → IsScript text q → p ≡ q

-- a text that is a script has no bad line
abbrev pub HasNoBadLine : List ℕ → Type 0
HasNoBadLine text = (p : Program) (number : ℕ) → IsScript text p → IsBadLine text number → ⊥

-- a text has at most one first bad line
abbrev pub HasOneBadLine : List ℕ → Type 0
HasOneBadLine text = (m n : ℕ) → IsBadLine text m → IsBadLine text n → m ≡ n

-- a text has a script, or a first bad line
abbrev pub HasReading : List ℕ → Type 0
HasReading text = ((p : Program) × IsScript text p) ⊎ ((number : ℕ) × IsBadLine text number)

-- the very script; or want of memory
abbrev pub IsBack : Program → Result Program Fault → Type 0
IsBack p (Ok q) = q ≡ p
IsBack p (Err fault.Memory) = Unit {0}
IsBack p (Err _) = ⊥

-- the text of the script is that of this very script, and whoever reads it is answered nothing else
pub record IsReadBack (p : Program) : Type 0 where
  pub script : IsScript (script_text p) p
  pub answer : (answer : Result Program Fault) → Parses (script_text p) answer → IsBack p answer

-- a text whose script says neither `io` nor `timers heap` has this script where both count as said, too
abbrev pub IsReadWithoutIo : List ℕ → Program → Type 0
IsReadWithoutIo text p = has_io p ≡ false → from_heap p ≡ false → MakesFrom io_said (lines_of text) p
