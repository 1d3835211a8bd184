-- How a recording is read and run again, a part at a time.
use Rattle.std.specs.Prelude.{◌≡◌, ℕ, ◌+◌, ◌-◌, ◌<◌, ◌^◌, List, [], ◌++◌, length, map, drop, Option, Some, None, Result, Ok, Err, option_to_list}
use Rattle.std.specs.List.{flat_map, filter}
use Rattle.uv_ids.specs.declared.event.Event.{Event}
use Rattle.uv_ids.specs.declared.seen.Seen.{Seen}
use Rattle.uv_ids.specs.declared.fault.Fault.{Fault}
use Rattle.uv_ids.specs.declared.fault.Fault.TheVariants as fault
use Rattle.uv_script.specs.Program.{Program}
use Rattle.uv_script.specs.Lines.{lines_of}
use Rattle.uv_model.specs.After.{seen_by}
use Rattle.uv_text.specs.Trace.{line_text}
use Rattle.uv_text.specs.Recording.{is_callback, callback_lines}
use Rattle.uv_engine.specs.declared.verdict.Verdict.{Verdict}
use Rattle.uv_engine.specs.Input.{Buffered, size}
use Rattle.uv_engine.specs.Recordings.{Part, Start, InSteps, InCalls, Whole, ReadsAll, IsBadFrom}
use Rattle.uv_engine.specs.Verdict.{IsHalt, AllTaken, PartAt, IsVerdict, HasVerdict}

-- behind so many lines, these were read and took one part to another
pub record ReadsTo (x : Part) (a : ℕ) (old : List ℕ) (y : Part) (b : ℕ) (new : List ℕ) : Type 0 where
  pub before : List (List ℕ)
  pub lines_are : lines_of old ≡ before ++ lines_of new
  pub counted : b ≡ a + length before
  pub read : ReadsAll x before y

-- the number of the last line can be counted
abbrev pub CanCount : ℕ → Buffered → Type 0
CanCount taken b = taken + size b < 2 ^ 64 - 1

-- a recording that can't be read is outside the grammar, or there is no memory, or the reader fails
abbrev pub IsReadingFault : Fault → Type 0
IsReadingFault (fault.Script line) = Unit {0}
IsReadingFault fault.Memory = Unit {0}
IsReadingFault fault.Read = Unit {0}
IsReadingFault _ = ⊥

-- from a part on a line is bad; or there was no memory, or the reader failed
abbrev pub FailsAt : Part → ℕ → List ℕ → Fault → Type 0
FailsAt x a old (fault.Script line) = IsBadFrom x a old line
FailsAt x a old fault.Memory = Unit {0}
FailsAt x a old fault.Read = Unit {0}
FailsAt x a old _ = ⊥

-- what was read takes one part to another
abbrev pub ReadsPart : {A : Type 0} → (A → Part) → Part → ℕ → List ℕ → Result A Fault → ℕ → List ℕ → Type 0
ReadsPart to x a old (Ok found) b new = ReadsTo x a old (to found) b new
ReadsPart to x a old (Err f) b new = FailsAt x a old f

-- ---- the steps

-- after these steps of a recording: each was taken and stands, or one wasn't taken
abbrev pub RanSo : Program → List Event → List Event → Option Verdict → Type 0
RanSo p es standing None = (standing ≡ es) × AllTaken p es
RanSo p es standing (Some v) = IsHalt p es v

-- the steps were read, and run again
pub record HasSteps (p : Program) (a : ℕ) (old : List ℕ) (b : ℕ) (new : List ℕ) (standing : List Event) (halted : Option Verdict) : Type 0 where
  pub steps : List Event
  pub reads : ReadsTo (InSteps p []) a old (InCalls p steps []) b new
  pub ran : RanSo p steps standing halted

abbrev pub ReadsSteps : Program → ℕ → List ℕ → Result (Unit {0}) Fault → ℕ → List ℕ → List Event → Option Verdict → Type 0
ReadsSteps p a old (Ok done) b new standing halted = HasSteps p a old b new standing halted
ReadsSteps p a old (Err f) b new standing halted = FailsAt (InSteps p []) a old f

-- ---- the callbacks

-- the callbacks of the steps behind the first so many
abbrev pub called_from : Program → List Event → ℕ → List Seen
called_from p es looked = filter is_callback (flat_map option_to_list (drop looked (seen_by p es)))

-- so far the lines of callbacks are those of the steps up to this one; or they part from them, whatever follows
abbrev pub MetSo : Program → List Event → List (List ℕ) → ℕ → ℕ → Option ℕ → Type 0
MetSo p es called looked count None = (count ≡ length called) × (callback_lines p es ≡ called ++ map (line_text p) (called_from p es looked))
MetSo p es called looked count (Some place) = (more : List (List ℕ)) → PartAt (called ++ more) (callback_lines p es) place

-- the same, where each step was taken
abbrev pub Met : Program → List Event → Option Verdict → List (List ℕ) → ℕ → ℕ → Option ℕ → Type 0
Met p es None called looked count parted = MetSo p es called looked count parted
Met p es (Some v) called looked count parted = Unit {0}

-- the lines of callbacks were read, and compared with those of the standing steps
pub record HasCalls (p : Program) (es standing : List Event) (halted : Option Verdict) (a : ℕ) (old : List ℕ) (b : ℕ) (new : List ℕ)
    (looked count : ℕ) (parted : Option ℕ) : Type 0 where
  pub called : List (List ℕ)
  pub reads : ReadsTo (InCalls p es []) a old (Whole p es called) b new
  pub met : Met p standing halted called looked count parted

abbrev pub ReadsCalls : Program → List Event → List Event → Option Verdict → ℕ → List ℕ → Result (Unit {0}) Fault → ℕ → List ℕ → ℕ → ℕ →
    Option ℕ → Type 0
ReadsCalls p es standing halted a old (Ok done) b new looked count parted = HasCalls p es standing halted a old b new looked count parted
ReadsCalls p es standing halted a old (Err f) b new looked count parted = FailsAt (InCalls p es []) a old f

-- ---- the whole

-- what is behind the script was read to its end, and this is the verdict
pub record IsJudged (p : Program) (a : ℕ) (old : List ℕ) (v : Verdict) : Type 0 where
  pub steps : List Event
  pub called : List (List ℕ)
  pub taken : ℕ
  pub reads : ReadsTo (InSteps p []) a old (Whole p steps called) taken []
  pub verdict : IsVerdict p steps called v

-- the verdict on what is behind the script, or the first bad line there
abbrev pub JudgesRest : Program → ℕ → List ℕ → Result Verdict Fault → Type 0
JudgesRest p a old (Ok v) = IsJudged p a old v
JudgesRest p a old (Err f) = FailsAt (InSteps p []) a old f

-- the verdict, or the first bad line
abbrev pub Judges : List ℕ → Result Verdict Fault → Type 0
Judges input (Ok v) = HasVerdict input v
Judges input (Err f) = FailsAt Start 0 input f

-- what telling a verdict may answer
abbrev pub IsTellingFault : Fault → Type 0
IsTellingFault fault.Memory = Unit {0}
IsTellingFault fault.Write = Unit {0}
IsTellingFault fault.StepsFull = Unit {0}
IsTellingFault (fault.Refused why) = Unit {0}
IsTellingFault (fault.Differs place) = Unit {0}
IsTellingFault _ = ⊥
