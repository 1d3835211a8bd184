-- The grammar of recordings: which lines make which recording.
use Rattle.std.specs.Prelude.{◌≡◌, ℕ, ◌+◌, List, [], ◌∷◌, ◌++◌, length, codes}
use Rattle.uv_ids.specs.declared.event.Event.{Event}
use Rattle.uv_script.specs.Program.{Program}
use Rattle.uv_script.specs.Lines.{lines_of, IsSkipped}
use Rattle.uv_script.specs.Grammar as script
use Rattle.uv_script.specs.Grammar.{Draft, unread, io_said, order_said}
use Rattle.uv_text.specs.Recorded.{SaysStep, IsCallbackLine}
use Rattle.uv_engine.specs.declared.version.Version.{Version}
use Rattle.uv_engine.specs.declared.version.Version.TheVariants as versions

-- the first line of a recording of this version
abbrev pub version_line : Version → List ℕ
version_line versions.V1 = codes "uvt 1"
version_line versions.V2 = codes "uvt 2"
version_line versions.V3 = codes "uvt 3"

-- before the first line of its script: in version 1 that says no order, which is that of libuv from 1.45 on; and in neither 1 nor 2 does it have
-- handles of I/O, or timers that are called from their heap
abbrev pub unread_in : Version → Draft
unread_in versions.V1 = order_said
unread_in versions.V2 = io_said
unread_in versions.V3 = unread

-- how far a recording was read: the script so far, the steps, and the lines of callbacks
pub data Part : Type 0 where
  Start : Part
  InScript : Draft → Part
  InSteps : Program → List Event → Part
  InCalls : Program → List Event → List (List ℕ) → Part
  -- its last line was read
  Whole : Program → List Event → List (List ℕ) → Part

-- the line goes on from one part to another
pub data Reads : Part → List ℕ → Part → Type 0 where
  version : (v : Version) → Reads Start (version_line v) (InScript (unread_in v))
  -- a recording takes no empty line and no comment
  in_script : {d e : Draft} {line : List ℕ} → (IsSkipped line → ⊥) → script.Reads d line e → Reads (InScript d) line (InScript e)
  begins : {d : Draft} → Reads (InScript d) (codes "begin") (InSteps d.program [])
  step : {p : Program} {es : List Event} {e : Event} {line : List ℕ} → SaysStep p line e →
      Reads (InSteps p es) line (InSteps p (es ++ e ∷ []))
  calls : {p : Program} {es : List Event} → Reads (InSteps p es) (codes "calls") (InCalls p es [])
  callback : {p : Program} {es : List Event} {called : List (List ℕ)} {line : List ℕ} → IsCallbackLine line →
      Reads (InCalls p es called) line (InCalls p es (called ++ line ∷ []))
  ends : {p : Program} {es : List Event} {called : List (List ℕ)} → Reads (InCalls p es called) (codes "end") (Whole p es called)

-- so do these lines, one after another
pub data ReadsAll : Part → List (List ℕ) → Part → Type 0 where
  none : {x : Part} → ReadsAll x [] x
  one : {x y z : Part} {line : List ℕ} {lines : List (List ℕ)} → Reads x line y → ReadsAll y lines z → ReadsAll x (line ∷ lines) z

-- the recording of a text
abbrev pub IsRecording : List ℕ → Program → List Event → List (List ℕ) → Type 0
IsRecording text p es called = ReadsAll Start (lines_of text) (Whole p es called)

-- the recording can't go on with these lines: the next one goes on nowhere, or it is missing
abbrev pub IsStuck : Part → List (List ℕ) → Type 0
IsStuck x (line ∷ lines) = (y : Part) → Reads x line y → ⊥
IsStuck (Whole p es called) [] = ⊥
IsStuck x [] = Unit {0}

-- behind so many lines, a text goes on from a part up to this line, from 1, which is outside the grammar or missing
pub record IsBadFrom (x : Part) (lines : ℕ) (text : List ℕ) (number : ℕ) : Type 0 where
  pub before : List (List ℕ)
  pub after : List (List ℕ)
  pub part : Part
  pub lines_are : lines_of text ≡ before ++ after
  pub counted : number ≡ lines + length before + 1
  pub read : ReadsAll x before part
  pub stuck : IsStuck part after

-- the text's first line outside the grammar of recordings, or the one behind its last line where it isn't whole
abbrev pub IsBadLine : List ℕ → ℕ → Type 0
IsBadLine text number = IsBadFrom Start 0 text number
