-- The lines of a recording behind its script, as they are read.
use Rattle.std.specs.Prelude.{◌≡◌, ◌==◌, ◌&&◌, ◌||◌, ℕ, List, ◌++◌, Bool, true, Option, Some, None, if◌then◌else◌, codes}
use Rattle.std.specs.List.{starts_with}
use Rattle.std.specs.Str.{bytes_eq}
use Rattle.uv_ids.specs.declared.event.Event.{Event}
use Rattle.uv_ids.specs.declared.event.Event.TheVariants.{Loop}
use Rattle.uv_script.specs.Checks.{is_line}
use Rattle.uv_script.specs.Lines.{fields_of, IsLine}
use Rattle.uv_script.specs.Program.{Program}
use Rattle.uv_text.specs.declared.command.Asked.{Asked}
use Rattle.uv_text.specs.declared.command.Asked.TheVariants.{Do}
use Rattle.uv_text.specs.declared.command.Command.TheVariants.{Step}
use Rattle.uv_text.specs.Commands.{IsCommand, has_step, asked_in}
use Rattle.uv_text.specs.Reading.{asked_of}

-- the line says a step of this script: `loop`, or a step from outside as the commands have it, which the script has
pub data SaysStep (p : Program) (line : List ℕ) : Event → Type 0 where
  loop : line ≡ codes "loop" → SaysStep p line Loop
  outside : (e : Event) → IsLine line → IsCommand p.names (fields_of line) (Step e) → has_step p e ≡ true → SaysStep p line e

-- the line is one of a callback: its word, and any text
pub data IsCallbackLine (line : List ℕ) : Type 0 where
  call : (text : List ℕ) → IsLine line → line ≡ codes "call " ++ text → IsCallbackLine line
  after : (text : List ℕ) → IsLine line → line ≡ codes "after " ++ text → IsCallbackLine line
  closed : (text : List ℕ) → IsLine line → line ≡ codes "closed " ++ text → IsCallbackLine line

-- ---- as tests that the code computes

-- the step that a command asks for, if it is one from outside
abbrev pub step_asked : Asked → Option Event
step_asked (Do (Step e)) = Some e
step_asked asked = None

-- the step that a line says
abbrev pub step_of : Program → List ℕ → Option Event
step_of p line = if bytes_eq line (codes "loop") then Some Loop else step_asked (asked_in p (asked_of p.names line))

abbrev pub begins : List ℕ → List ℕ → Bool
begins line word = starts_with (λ a b. a == b) line word

-- a line of a callback
abbrev pub is_callback_line : List ℕ → Bool
is_callback_line line = is_line line && (begins line (codes "call ") || (begins line (codes "after ") || begins line (codes "closed ")))
