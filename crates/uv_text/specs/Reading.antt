-- How a line is read, as tests that the code computes; beside each clause that cites one stands the rule itself.
use Rattle.std.specs.Prelude.{ℕ, List, [], ◌∷◌, ◌&&◌, nat_le, Option, Some, None, option_map, if◌then◌else◌, codes}
use Rattle.std.specs.Str.{bytes_eq}
use Rattle.uv_ids.specs.declared.id.Var.{Var}
use Rattle.uv_ids.specs.declared.event.Event.{Event}
use Rattle.uv_ids.specs.declared.event.Event.TheVariants.{Take, Finish, Cancel, Send, Io, Tick}
use Rattle.uv_ids.specs.Words.{code_named, phase_named}
use Rattle.uv_script.specs.Lines.{fields_of}
use Rattle.uv_script.specs.Checks.{is_line, is_skipped, number_of}
use Rattle.uv_script.specs.Reading.{place_of}
use Rattle.uv_session.specs.declared.breaks.Break.{Break}
use Rattle.uv_session.specs.declared.breaks.Break.TheVariants as at
use Rattle.uv_text.specs.declared.command.Command.{Command}
use Rattle.uv_text.specs.declared.command.Command.TheVariants.{Loop, Step, Back, Forward, AddBreak, ClearBreaks, BackToBreak, Trace, Walk, State, StateOf, Image, Record, Quit}
use Rattle.uv_text.specs.declared.command.Asked.{Asked}
use Rattle.uv_text.specs.declared.command.Asked.TheVariants.{Nothing, Do, Bad}
use Rattle.uv_text.specs.Commands.{MOST, LAST_WORKER}

-- a section's word behind `break section`
abbrev pub section_of : List ℕ → Option Break
section_of word = if bytes_eq word (codes "poll") then Some at.Poll else option_map at.Section (phase_named word)

-- the two fields behind `break`
abbrev pub break_of : List (List ℕ) → List ℕ → List ℕ → Option Break
break_of names what argument =
    if bytes_eq what (codes "call") then option_map at.Call (place_of names argument)
    else (if bytes_eq what (codes "code") then option_map at.Code (code_named argument)
    else (if bytes_eq what (codes "section") then section_of argument else None))

-- a word alone
abbrev pub command_alone : List ℕ → Option Command
command_alone word =
    if bytes_eq word (codes "loop") then Some (Loop 1)
    else (if bytes_eq word (codes "rback") then Some BackToBreak
    else (if bytes_eq word (codes "trace") then Some Trace
    else (if bytes_eq word (codes "walk") then Some Walk
    else (if bytes_eq word (codes "state") then Some State
    else (if bytes_eq word (codes "image") then Some Image
    else (if bytes_eq word (codes "record") then Some Record
    else (if bytes_eq word (codes "quit") then Some Quit else None)))))))

abbrev pub loops : ℕ → Option Command
loops n = if nat_le 1 n && nat_le n MOST then Some (Loop n) else None

abbrev pub goes_back : ℕ → Option Command
goes_back n = if nat_le n MOST then Some (Back n) else None

abbrev pub goes_forward : ℕ → Option Command
goes_forward n = if nat_le n MOST then Some (Forward n) else None

-- a worker's step
abbrev pub worker_step : List ℕ → ℕ → Option Event
worker_step word n =
    if bytes_eq word (codes "take") then Some (Take n)
    else (if bytes_eq word (codes "finish") then Some (Finish n) else None)

-- a step from outside with a number
abbrev pub step_by : List ℕ → ℕ → Option Event
step_by word n =
    if bytes_eq word (codes "tick") then Some (Tick n)
    else (if nat_le n LAST_WORKER then worker_step word n else None)

-- a word with a number
abbrev pub command_by : List ℕ → Option ℕ → Option Command
command_by word None = None
command_by word (Some n) =
    if bytes_eq word (codes "loop") then loops n
    else (if bytes_eq word (codes "back") then goes_back n
    else (if bytes_eq word (codes "forward") then goes_forward n else option_map Step (step_by word n)))

abbrev pub clears : List ℕ → Option Command
clears argument = if bytes_eq argument (codes "clear") then Some ClearBreaks else None

-- a word with what follows it: a name, `clear`, or a number
abbrev pub command_with : List (List ℕ) → List ℕ → List ℕ → Option Command
command_with names word argument =
    if bytes_eq word (codes "cancel") then option_map (λ (v : Var). Step (Cancel v)) (place_of names argument)
    else (if bytes_eq word (codes "send") then option_map (λ (v : Var). Step (Send v)) (place_of names argument)
    else (if bytes_eq word (codes "io") then option_map (λ (v : Var). Step (Io v)) (place_of names argument)
    else (if bytes_eq word (codes "state") then option_map StateOf (place_of names argument)
    else (if bytes_eq word (codes "break") then clears argument else command_by word (number_of argument)))))

-- a word with two that follow it
abbrev pub command_with_two : List (List ℕ) → List ℕ → List ℕ → List ℕ → Option Command
command_with_two names word what argument = if bytes_eq word (codes "break") then option_map AddBreak (break_of names what argument) else None

-- the fields of a line
abbrev pub command_of : List (List ℕ) → List (List ℕ) → Option Command
command_of names [] = None
command_of names (word ∷ []) = command_alone word
command_of names (word ∷ argument ∷ []) = command_with names word argument
command_of names (word ∷ what ∷ argument ∷ []) = command_with_two names word what argument
command_of names (word ∷ what ∷ argument ∷ more ∷ rest) = None

abbrev pub asked_for : Option Command → Asked
asked_for (Some command) = Do command
asked_for None = Bad

-- a line, where these names are declared
abbrev pub asked_of : List (List ℕ) → List ℕ → Asked
asked_of names line = if is_line line then (if is_skipped line then Nothing else asked_for (command_of names (fields_of line))) else Bad
