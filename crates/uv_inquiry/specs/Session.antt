-- The session that an answer shows, as a conversation reads it.
use Rattle.std.specs.Prelude.{ℕ, List, [], ◌∷◌, ◌≡◌, true}
use Rattle.uv_ids.specs.declared.event.Event.{Event}
use Rattle.uv_ids.specs.declared.event.Event.TheVariants as event
use Rattle.uv_script.specs.Lines.{lines_of}
use Rattle.uv_script.specs.Program.{Program}
use Rattle.uv_script.specs.Grammar.{IsScript}
use Rattle.uv_text.specs.declared.command.Command.{Command}
use Rattle.uv_text.specs.declared.command.Command.TheVariants.{Loop, Step}
use Rattle.uv_text.specs.declared.command.Asked.TheVariants.{Do}
use Rattle.uv_text.specs.Commands.{Asks, has_step}
use Rattle.uv_engine.specs.Out.{Begins}

-- the command by which a conversation takes a step
abbrev pub command_of : Event → Command
command_of event.Loop = Loop 1
command_of e = Step e

-- these lines ask for these steps of the script, one a line
abbrev pub AsksFor : Program → List (List ℕ) → List Event → Type 0
AsksFor p [] [] = Unit {0}
AsksFor p (line ∷ lines) (e ∷ es) = Asks p.names line (Do (command_of e)) × (has_step p e ≡ true) × AsksFor p lines es
AsksFor p _ _ = ⊥

-- the text is this script, the line `begin`, and a line for each of these steps
pub record IsSession (text : List ℕ) (p : Program) (es : List Event) : Type 0 where
  pub script : List ℕ
  pub commands : List ℕ
  pub begins : Begins text script commands
  pub is : IsScript script p
  pub asks : AsksFor p (lines_of commands) es
