-- The input of a search: a script, the line `begin`, and the lines that ask. Which input asks what, and which line is its first bad one.
use Rattle.std.specs.Prelude.{◌≡◌, ℕ, ◌+◌, List, [], ◌∷◌, ◌++◌, length, Some, None, Result, Ok, Err}
use Rattle.uv_ids.specs.declared.fault.Fault.{Fault}
use Rattle.uv_ids.specs.declared.fault.Fault.TheVariants as fault
use Rattle.uv_script.specs.Lines.{lines_of}
use Rattle.uv_script.specs.Program.{Program}
use Rattle.uv_script.specs.Grammar.{IsScript, IsBadLine, unread}
use Rattle.uv_engine.specs.Out.{Begins, NeverBegins}
use Rattle.uv_engine.specs.Start.{MissesBegin}
use Rattle.uv_asking.specs.declared.part.Part.{Part}
use Rattle.uv_asking.specs.declared.part.Said.TheVariants.{Nothing, One}
use Rattle.uv_asking.specs.Grammar.{Says}
use Rattle.uv_asking.specs.Asked.{Asked, asked_in}
use Rattle.uv_inquiry.specs.Drafts.{Draft, unsaid, IsNew, with_part, finished}
use Rattle.uv_inquiry.specs.declared.inquiry.Inquiry.{Inquiry}

-- the line takes what was said before it to what was said after it, where these names are declared
pub data Reads (names : List (List ℕ)) (d : Draft) (line : List ℕ) : Draft → Type 0 where
  skips : Says names line Nothing → Reads names d line d
  says : (part : Part) → Says names line (One part) → IsNew d part → Reads names d line (with_part d part)

-- so do these lines, one after another
pub data ReadsAll (names : List (List ℕ)) : Draft → List (List ℕ) → Draft → Type 0 where
  none : {d : Draft} → ReadsAll names d [] d
  one : {d e f : Draft} {line : List ℕ} {lines : List (List ℕ)} → Reads names d line e → ReadsAll names e lines f →
      ReadsAll names d (line ∷ lines) f

-- the text behind `begin` asks this
pub record Asks (names : List (List ℕ)) (text : List ℕ) (a : Asked) : Type 0 where
  pub said : Draft
  pub read : ReadsAll names unsaid (lines_of text) said
  pub asked : finished said ≡ Some a

-- the first bad line of the text behind `begin`, from 1: those before it can be read, and it can't; or, where no line asks, the one behind the
-- last line
pub data IsBadAsking (names : List (List ℕ)) (text : List ℕ) : ℕ → Type 0 where
  at_line : (before : List (List ℕ)) (line : List ℕ) (after : List (List ℕ)) (d : Draft) → lines_of text ≡ before ++ line ∷ after →
      ReadsAll names unsaid before d → ((e : Draft) → Reads names d line e → ⊥) → IsBadAsking names text (length before + 1)
  no_question : (d : Draft) → ReadsAll names unsaid (lines_of text) d → d.question ≡ None → IsBadAsking names text (length (lines_of text) + 1)

-- the input asks this of this script
pub record IsInquiry (input : List ℕ) (p : Program) (a : Asked) : Type 0 where
  pub script : List ℕ
  pub lines : List ℕ
  pub begins : Begins input script lines
  pub is : IsScript script p
  pub asks : Asks p.names lines a

-- the input's first bad line, from 1
pub data IsBadInput (input : List ℕ) : ℕ → Type 0 where
  -- without the line `begin`: the first bad one of the script that it is then, or that behind its last one
  no_begin : (number : ℕ) → NeverBegins input → MissesBegin unread input number → IsBadInput input number
  in_script : (script lines : List ℕ) (number : ℕ) → Begins input script lines → IsBadLine script number → IsBadInput input number
  -- the line `begin` is the one behind the script's last one
  behind : (script lines : List ℕ) (p : Program) (number : ℕ) → Begins input script lines → IsScript script p → IsBadAsking p.names lines number →
      IsBadInput input (length (lines_of script) + 1 + number)

-- what may be answered to an input: what it asks, or its first bad line; or want of memory
abbrev pub Parses : List ℕ → Result Inquiry Fault → Type 0
Parses input (Ok i) = IsInquiry input i.script (asked_in i.asking)
Parses input (Err (fault.Script line)) = IsBadInput input line
Parses input (Err fault.Memory) = Unit {0}
Parses input (Err _) = ⊥

-- and to a reader, which may also fail
abbrev pub ReadsInquiry : List ℕ → Result Inquiry Fault → Type 0
ReadsInquiry input (Ok i) = IsInquiry input i.script (asked_in i.asking)
ReadsInquiry input (Err (fault.Script line)) = IsBadInput input line
ReadsInquiry input (Err fault.Memory) = Unit {0}
ReadsInquiry input (Err fault.Read) = Unit {0}
ReadsInquiry input (Err _) = ⊥
