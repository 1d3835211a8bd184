-- What a conversation writes, and how it ends.
use Rattle.std.specs.Prelude.{◌≡◌, ◌≢◌, ℕ, ◌+◌, List, [], ◌∷◌, ◌++◌, length, Result, Ok, Err, codes}
use Rattle.uv_ids.specs.declared.fault.Fault.{Fault}
use Rattle.uv_ids.specs.declared.fault.Fault.TheVariants as fault
use Rattle.uv_script.specs.Program.{Program}
use Rattle.uv_script.specs.Lines.{lines_of}
use Rattle.uv_script.specs.Grammar.{IsScript, IsBadLine}
use Rattle.uv_model.specs.After.{STEPS}
use Rattle.uv_session.specs.Shown.{Shown}
use Rattle.uv_text.specs.declared.command.Command.{Command}
use Rattle.uv_text.specs.declared.command.Command.TheVariants.{Loop, Step, Back, Forward, AddBreak, ClearBreaks, BackToBreak, Trace, Walk, State, StateOf, Image, Record, Quit}
use Rattle.uv_text.specs.declared.command.Asked.{Asked}
use Rattle.uv_text.specs.declared.command.Asked.TheVariants.{Nothing, Do, Bad}
use Rattle.uv_text.specs.Commands.{Asks, asked_in}
use Rattle.uv_text.specs.State.{state_text, named_text}
use Rattle.uv_text.specs.Image.{IsImageText}
use Rattle.uv_text.specs.Recording.{recording_text}
use Rattle.uv_engine.specs.declared.conversation.Ended.{Ended}
use Rattle.uv_engine.specs.declared.conversation.Ended.TheVariants as ended
use Rattle.uv_engine.specs.Input.{NoFeed}
use Rattle.uv_script.specs.Writes.{CutShort}
use Rattle.uv_engine.specs.Reply.{reply, reply_text, reply_after, loop_text, loop_after, back_text, back_after, forward_text, forward_after, add_text, add_after, last_break, break_back_text, break_back_after, trace_text, walk_text}

-- what `image` prints: the text of a memory that stands for the state, or that the machine has no one memory. Which of these it is, and how
-- the memory lies, is left open
pub data PrintsImage (s : Shown) (text : List ℕ) : Type 0 where
  lies : IsImageText s text → PrintsImage s text
  refused : text ≡ codes "refused image\n" → PrintsImage s text

-- what a command prints
abbrev pub Prints : Command → Shown → List ℕ → Type 0
Prints (Loop n) s text = text ≡ loop_text n s
Prints (Step e) s text = text ≡ reply_text s.program (reply s e)
Prints (Back n) s text = text ≡ back_text n s
Prints (Forward n) s text = text ≡ forward_text n s
Prints (AddBreak b) s text = text ≡ add_text s
Prints ClearBreaks s text = text ≡ codes "break ok\n"
Prints BackToBreak s text = text ≡ break_back_text (last_break s)
Prints Trace s text = text ≡ trace_text s
Prints Walk s text = text ≡ walk_text s
Prints State s text = text ≡ state_text s
Prints (StateOf v) s text = text ≡ named_text s v
Prints Image s text = PrintsImage s text
Prints Record s text = text ≡ recording_text s.program s.standing
Prints Quit s text = text ≡ []

-- the session after a command
abbrev pub command_after : Command → Shown → Shown
command_after (Loop n) s = loop_after n s
command_after (Step e) s = reply_after s (reply s e)
command_after (Back n) s = back_after n s
command_after (Forward n) s = forward_after n s
command_after (AddBreak b) s = add_after b s
command_after ClearBreaks s = record s { breaks = [] }
command_after BackToBreak s = break_back_after s (last_break s)
command_after Trace s = s
command_after Walk s = s
command_after State s = s
command_after (StateOf v) s = s
command_after Image s = s
command_after Record s = s
command_after Quit s = s

-- what is printed for what is asked, and the session after it
abbrev pub PrintsFor : Asked → Shown → List ℕ → Type 0
PrintsFor Nothing s text = text ≡ []
PrintsFor (Do command) s text = Prints command s text
PrintsFor Bad s text = text ≡ codes "bad command\n"

abbrev pub done_after : Asked → Shown → Shown
done_after Nothing s = s
done_after (Do command) s = command_after command s
done_after Bad s = s

-- what a line prints, and the session after it: a step that the script hasn't is a bad command
abbrev pub IsAnswer : Asked → Shown → List ℕ → Type 0
IsAnswer asked s text = PrintsFor (asked_in s.program asked) s text

abbrev pub asked_after : Asked → Shown → Shown
asked_after asked s = done_after (asked_in s.program asked) s

-- what these lines print, one after another, up to `quit` or the last one
pub data Talks : List (List ℕ) → Shown → List ℕ → Ended → Type 0 where
  input_ends : {s : Shown} → Talks [] s [] ended.Input
  quits : {line : List ℕ} {lines : List (List ℕ)} {s : Shown} → Asks s.program.names line (Do Quit) → Talks (line ∷ lines) s [] ended.Quit
  goes_on : {line : List ℕ} {lines : List (List ℕ)} {s : Shown} {end : Ended} (asked : Asked) (text rest : List ℕ)
      → Asks s.program.names line asked → asked ≢ Do Quit → IsAnswer asked s text → Talks lines (asked_after asked s) rest end →
      Talks (line ∷ lines) s (text ++ rest) end

-- the text that was printed for a line, if that is `image`
abbrev pub image_in : Asked → List ℕ → List (List ℕ)
image_in (Do Image) text = text ∷ []
image_in _ text = []

-- the texts that the commands `image` of these lines printed, in their order
abbrev pub images_in : {lines : List (List ℕ)} {s : Shown} {text : List ℕ} {end : Ended} → Talks lines s text end → List (List ℕ)
images_in input_ends = []
images_in (quits asks) = []
images_in (goes_on asked text rest asks other answer more) = image_in asked text ++ images_in more

-- the line `begin` cuts an input: the bytes before it are the script, and those after it the commands
pub data Begins : List ℕ → List ℕ → List ℕ → Type 0 where
  here : {commands : List ℕ} → Begins (codes "begin\n" ++ commands) [] commands
  here_at_end : Begins (codes "begin") [] []
  later : {line rest script commands : List ℕ} → NoFeed line → line ≢ codes "begin" → Begins rest script commands
      → Begins (line ++ 10 ∷ rest) (line ++ 10 ∷ script) commands

-- no line of the input is `begin`
pub data NeverBegins : List ℕ → Type 0 where
  nothing : NeverBegins []
  last_line : {line : List ℕ} → NoFeed line → line ≢ codes "begin" → NeverBegins line
  one_line : {line rest : List ℕ} → NoFeed line → line ≢ codes "begin" → NeverBegins rest → NeverBegins (line ++ 10 ∷ rest)

-- the session of a script that has taken no step
abbrev pub fresh_session : Program → Shown
fresh_session p = record { program = p; limit = STEPS; standing = []; taken_back = []; breaks = [] }

-- how a conversation ends: with the commands, or at a line that is outside the grammar of scripts
pub data End : Type 0 where
  Ends : Ended → End
  BadScript : ℕ → End

-- what is written for an input, and how that ends. A script without `begin` is bad in the line after its last one.
pub data Out (input : List ℕ) : List ℕ → End → Type 0 where
  talks : {text : List ℕ} {end : Ended} (script commands : List ℕ) (p : Program) → Begins input script commands → IsScript script p
      → Talks (lines_of commands) (fresh_session p) text end → Out input text (Ends end)
  bad_line : {number : ℕ} (script commands : List ℕ) → Begins input script commands → IsBadLine script number → Out input [] (BadScript number)
  no_begin : (p : Program) → NeverBegins input → IsScript input p → Out input [] (BadScript (length (lines_of input) + 1))
  bad_input : {number : ℕ} → NeverBegins input → IsBadLine input number → Out input [] (BadScript number)

-- an input has an answer: a text and an end
pub record HasAnswer (input : List ℕ) : Type 0 where
  pub text : List ℕ
  pub end : End
  pub is : Out input text end

-- the texts that the commands `image` of an answer printed, in their order
abbrev pub images_of : {input text : List ℕ} {end : End} → Out input text end → List (List ℕ)
images_of (talks script commands p begins is talk) = images_in talk
images_of (bad_line script commands begins bad) = []
images_of (no_begin p never is) = []
images_of (bad_input never bad) = []

-- two answers to an input end the same, and they are the same text where their images are
pub record AreSame {input a b : List ℕ} {x y : End} (h : Out input a x) (k : Out input b y) : Type 0 where
  pub end : x ≡ y
  pub text : images_of h ≡ images_of k → a ≡ b

-- an input has one end, and one text except its images
abbrev pub HasOneAnswer : List ℕ → Type 0
HasOneAnswer input = (a b : List ℕ) (x y : End) (h : Out input a x) (k : Out input b y) → AreSame h k

-- a beginning of what is written for the input
pub record IsCut (input old new : List ℕ) : Type 0 where
  pub text : List ℕ
  pub end : End
  pub is : Out input text end
  pub cut : CutShort old text new

-- what was written for the input
pub record IsWhole (input : List ℕ) (end : End) (old new : List ℕ) : Type 0 where
  pub text : List ℕ
  pub is : Out input text end
  pub written : new ≡ old ++ text

-- a growth was refused, or the reader or the writer failed
abbrev pub IsDeviceFault : Fault → Type 0
IsDeviceFault fault.Memory = Unit {0}
IsDeviceFault fault.Read = Unit {0}
IsDeviceFault fault.Write = Unit {0}
IsDeviceFault _ = ⊥

-- the script is bad, or one of these
abbrev pub IsConversationFault : Fault → Type 0
IsConversationFault (fault.Script line) = Unit {0}
IsConversationFault fault.Memory = Unit {0}
IsConversationFault fault.Read = Unit {0}
IsConversationFault fault.Write = Unit {0}
IsConversationFault _ = ⊥

-- what a conversation may answer, and what it has written then
abbrev pub Converses : List ℕ → Result Ended Fault → List ℕ → List ℕ → Type 0
Converses input (Ok end) old new = IsWhole input (Ends end) old new
Converses input (Err (fault.Script line)) old new = Out input [] (BadScript line) × (new ≡ old)
Converses input (Err fault.Memory) old new = IsCut input old new
Converses input (Err fault.Read) old new = IsCut input old new
Converses input (Err fault.Write) old new = IsCut input old new
Converses input (Err _) old new = ⊥
