-- How a conversation's script is read.
use Rattle.std.specs.Prelude.{◌≡◌, ◌≢◌, codes, ℕ, ◌+◌, ◌<◌, ◌≤◌, ◌⊎◌, List, [], ◌∷◌, ◌++◌, Bool, true, false, length, Option, Some, None, Result, Ok, Err}
use Rattle.uv_ids.specs.declared.fault.Fault.{Fault}
use Rattle.uv_ids.specs.declared.fault.Fault.TheVariants as fault
use Rattle.uv_script.specs.Program.{Program}
use Rattle.uv_script.specs.Lines.{lines_of, IsSkipped}
use Rattle.uv_script.specs.Grammar.{Draft, IsScript, MakesFrom, IsBadLineFrom, ParsesFrom}
use Rattle.uv_engine.specs.declared.script.FrontEnd.{FrontEnd}
use Rattle.uv_engine.specs.declared.script.FrontEnd.TheVariants.{Begin, Input, Long}
use Rattle.uv_engine.specs.Input.{NoFeed, TakesLong}
use Rattle.uv_engine.specs.Out.{Out, Begins, NeverBegins, BadScript}

-- a line as it stood in the text
abbrev pub with_line : List ℕ → Bool → List ℕ
with_line line true = line ++ 10 ∷ []
with_line line false = line

-- the script is in front of the commands, and is this program
pub record HasScript (input : List ℕ) (p : Program) (commands : List ℕ) : Type 0 where
  pub script : List ℕ
  pub begins : Begins input script commands
  pub is : IsScript script p

-- the script was read and the commands are left, or the script is bad
abbrev pub ReadsScript : List ℕ → Result Program Fault → List ℕ → Type 0
ReadsScript input (Ok p) commands = HasScript input p commands
ReadsScript input (Err (fault.Script line)) commands = Out input [] (BadScript line)
ReadsScript input (Err _) commands = Unit {0}

-- a script that can't be read is bad, or there is no memory, or the reader fails
abbrev pub IsStartFault : Fault → Type 0
IsStartFault (fault.Script line) = Unit {0}
IsStartFault fault.Memory = Unit {0}
IsStartFault fault.Read = Unit {0}
IsStartFault _ = ⊥

-- what is wrong with a text that goes on from a draft and has no line `begin`
pub data MissesBegin (d : Draft) (text : List ℕ) : ℕ → Type 0 where
  after_last : (p : Program) → MakesFrom d (lines_of text) p → MissesBegin d text (length (lines_of text) + 1)
  at_line : {number : ℕ} → IsBadLineFrom d text number → MissesBegin d text number

abbrev pub NoScript : Draft → List ℕ → Fault → Type 0
NoScript d text (fault.Script line) = MissesBegin d text line
NoScript d text fault.Memory = Unit {0}
NoScript d text _ = ⊥

-- the text in front of the line `begin`, or the whole text where there is no such line
abbrev pub IsFront : List ℕ → List ℕ → Bool → List ℕ → Type 0
IsFront input text true rest = Begins input text rest
IsFront input text false rest = NeverBegins input × (input ≡ text)

-- whole lines, none of which is `begin`
pub data NoLineBegins : List ℕ → Type 0 where
  no_line : NoLineBegins []
  line_more : {line rest : List ℕ} → NoFeed line → line ≢ codes "begin" → NoLineBegins rest → NoLineBegins (line ++ 10 ∷ rest)

-- the lines in front of one that is too long, of which 257 bytes were taken
pub record IsBeforeLong (input text rest : List ℕ) : Type 0 where
  pub lines : NoLineBegins text
  pub behind : List ℕ
  pub whole : input ≡ text ++ behind
  pub takes : TakesLong behind rest

-- the front of an input, by what ends it
abbrev pub ReadsFront : List ℕ → List ℕ → FrontEnd → List ℕ → Type 0
ReadsFront input text Begin rest = IsFront input text true rest
ReadsFront input text Input rest = IsFront input text false rest
ReadsFront input text Long rest = IsBeforeLong input text rest

-- what may be answered to lines that go on to no line `begin`
abbrev pub ParsesNone : Draft → List ℕ → Result Program Fault → Type 0
ParsesNone d text (Ok p) = ⊥
ParsesNone d text (Err fault) = NoScript d text fault

-- what may be answered to it
abbrev pub ParsesFront : Draft → List ℕ → FrontEnd → Result Program Fault → Type 0
ParsesFront d text Begin r = ParsesFrom d text r
ParsesFront d text Input r = ParsesNone d text r
ParsesFront d text Long r = ParsesNone d text r

-- none of these lines is an empty one or a comment
abbrev pub NoneSkipped : List (List ℕ) → Type 0
NoneSkipped [] = Unit {0}
NoneSkipped (line ∷ lines) = (IsSkipped line → ⊥) × NoneSkipped lines

-- the first of these lines that is an empty one or a comment, from 1
pub record IsFirstSkipped (lines : List (List ℕ)) (number : ℕ) : Type 0 where
  pub before : List (List ℕ)
  pub line : List ℕ
  pub after : List (List ℕ)
  pub lines_are : lines ≡ before ++ line ∷ after
  pub counted : number ≡ length before + 1
  pub others : NoneSkipped before
  pub skipped : IsSkipped line

abbrev pub FindsSkipped : List (List ℕ) → Option ℕ → Type 0
FindsSkipped lines (Some number) = IsFirstSkipped lines number
FindsSkipped lines None = NoneSkipped lines

-- the first one of a bad line and of one that is skipped
abbrev pub IsFirstBad : ℕ → Option ℕ → ℕ → Type 0
IsFirstBad line None first = first ≡ line
IsFirstBad line (Some skipped) first = ((skipped ≤ line) × (first ≡ skipped)) ⊎ ((line < skipped) × (first ≡ line))
