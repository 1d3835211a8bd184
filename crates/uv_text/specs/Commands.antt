-- The commands of a conversation, and how a line is read.
use Rattle.std.specs.Prelude.{◌≡◌, ℕ, ◌≤◌, List, [], ◌∷◌, Bool, true, if◌then◌else◌, codes}
use Rattle.uv_ids.specs.declared.id.Var.{Var}
use Rattle.uv_ids.specs.declared.code.Code.{Code}
use Rattle.uv_ids.specs.declared.event.Event.{Event}
use Rattle.uv_ids.specs.declared.event.Event.TheVariants.{Take, Finish, Cancel, Send, Io, Tick}
use Rattle.uv_ids.specs.declared.phase.Phase.{Phase}
use Rattle.uv_ids.specs.Words.{code_word, phase_word}
use Rattle.uv_script.specs.Lines.{fields_of, IsLine, IsSkipped}
use Rattle.uv_script.specs.Words.{IsNumber, IsDeclared}
use Rattle.uv_script.specs.Program.{Program, has_io}
use Rattle.uv_model.specs.After.{STEPS}
use Rattle.uv_session.specs.declared.breaks.Break.{Break}
use Rattle.uv_session.specs.declared.breaks.Break.TheVariants as at
use Rattle.uv_text.specs.declared.command.Command.{Command}
use Rattle.uv_text.specs.declared.command.Command.TheVariants.{Loop, Step, Back, Forward, AddBreak, ClearBreaks, BackToBreak, Trace, Walk, State, StateOf, Image, Record, Quit}
use Rattle.uv_text.specs.declared.command.Asked.{Asked}
use Rattle.uv_text.specs.declared.command.Asked.TheVariants.{Nothing, Do, Bad}

-- the most steps that one command names (own): as many as there may be
abbrev pub MOST : ℕ
MOST = STEPS

-- the largest number that a worker is named by
abbrev pub LAST_WORKER : ℕ
LAST_WORKER = 65535

-- the two fields behind `break`, and the break that they are, where these names are declared
pub data IsBreak (names : List (List ℕ)) (what argument : List ℕ) : Break → Type 0 where
  call : (v : Var) → what ≡ codes "call" → IsDeclared names argument v → IsBreak names what argument (at.Call v)
  code : (c : Code) → what ≡ codes "code" → argument ≡ code_word c → IsBreak names what argument (at.Code c)
  -- the poll is a section here, though its trace line shows its timeout too
  section : (x : Phase) → what ≡ codes "section" → argument ≡ phase_word x → IsBreak names what argument (at.Section x)
  poll : what ≡ codes "section" → argument ≡ codes "poll" → IsBreak names what argument at.Poll

-- the two fields of a line, and the step from outside that they are, where these names are declared
pub data IsStep (names : List (List ℕ)) (word argument : List ℕ) : Event → Type 0 where
  take : (worker : ℕ) → word ≡ codes "take" → IsNumber argument worker → worker ≤ LAST_WORKER → IsStep names word argument (Take worker)
  finish : (worker : ℕ) → word ≡ codes "finish" → IsNumber argument worker → worker ≤ LAST_WORKER → IsStep names word argument (Finish worker)
  cancel : (v : Var) → word ≡ codes "cancel" → IsDeclared names argument v → IsStep names word argument (Cancel v)
  send : (v : Var) → word ≡ codes "send" → IsDeclared names argument v → IsStep names word argument (Send v)
  io : (v : Var) → word ≡ codes "io" → IsDeclared names argument v → IsStep names word argument (Io v)
  tick : (ms : ℕ) → word ≡ codes "tick" → IsNumber argument ms → IsStep names word argument (Tick ms)

-- the fields of a line, and the command that they are, where these names are declared
pub data IsCommand (names fields : List (List ℕ)) : Command → Type 0 where
  -- `loop` is one step of the loop, `loop n` so many
  one_step : fields ≡ codes "loop" ∷ [] → IsCommand names fields (Loop 1)
  steps : (number : List ℕ) (n : ℕ) → fields ≡ codes "loop" ∷ number ∷ [] → IsNumber number n → 1 ≤ n → n ≤ MOST → IsCommand names fields (Loop n)
  step : (word argument : List ℕ) (e : Event) → fields ≡ word ∷ argument ∷ [] → IsStep names word argument e → IsCommand names fields (Step e)
  back : (number : List ℕ) (n : ℕ) → fields ≡ codes "back" ∷ number ∷ [] → IsNumber number n → n ≤ MOST → IsCommand names fields (Back n)
  forward : (number : List ℕ) (n : ℕ) → fields ≡ codes "forward" ∷ number ∷ [] → IsNumber number n → n ≤ MOST → IsCommand names fields (Forward n)
  add_break : (what argument : List ℕ) (b : Break) → fields ≡ codes "break" ∷ what ∷ argument ∷ [] → IsBreak names what argument b →
      IsCommand names fields (AddBreak b)
  clear_breaks : fields ≡ codes "break" ∷ codes "clear" ∷ [] → IsCommand names fields ClearBreaks
  back_to_break : fields ≡ codes "rback" ∷ [] → IsCommand names fields BackToBreak
  trace : fields ≡ codes "trace" ∷ [] → IsCommand names fields Trace
  walk : fields ≡ codes "walk" ∷ [] → IsCommand names fields Walk
  state : fields ≡ codes "state" ∷ [] → IsCommand names fields State
  state_of : (name : List ℕ) (v : Var) → fields ≡ codes "state" ∷ name ∷ [] → IsDeclared names name v → IsCommand names fields (StateOf v)
  image : fields ≡ codes "image" ∷ [] → IsCommand names fields Image
  recording : fields ≡ codes "record" ∷ [] → IsCommand names fields Record
  quit : fields ≡ codes "quit" ∷ [] → IsCommand names fields Quit

-- the fields are no command
abbrev pub IsNoCommand : List (List ℕ) → List (List ℕ) → Type 0
IsNoCommand names fields = (command : Command) → IsCommand names fields command → ⊥

-- how a line is read, where these names are declared: empty lines and comments ask for nothing, and what is no command is bad
pub data Asks (names : List (List ℕ)) (line : List ℕ) : Asked → Type 0 where
  nothing : IsLine line → IsSkipped line → Asks names line Nothing
  command : (command : Command) → IsLine line → IsCommand names (fields_of line) command → Asks names line (Do command)
  bad : (IsLine line → IsSkipped line → ⊥) → (IsLine line → IsNoCommand names (fields_of line)) → Asks names line Bad

-- whether a script has such steps: those of I/O it has only with a line `io`
abbrev pub has_step : Program → Event → Bool
has_step p (Io v) = has_io p
has_step p e = true

-- how the line is read in a conversation on a script: a step that it hasn't is a bad command
abbrev pub asked_in : Program → Asked → Asked
asked_in p (Do (Step e)) = if has_step p e then Do (Step e) else Bad
asked_in p asked = asked
