-- The verdict on a recording, by the loop's definition.
use Rattle.std.specs.Prelude.{◌≡◌, ◌≢◌, ℕ, ◌+◌, ◌<◌, ◌≤◌, List, [], ◌∷◌, ◌++◌, length, Result, Ok, Err, codes, decimal}
use Rattle.uv_ids.specs.declared.event.Event.{Event}
use Rattle.uv_ids.specs.declared.fault.Fault.{Fault}
use Rattle.uv_ids.specs.declared.fault.Fault.TheVariants as fault
use Rattle.uv_ids.specs.declared.fault.Why.{Why}
use Rattle.uv_ids.specs.Words.{why_word}
use Rattle.uv_script.specs.Program.{Program}
use Rattle.uv_model.specs.Next.{Refuses, next}
use Rattle.uv_model.specs.After.{after, Accepts, STEPS}
use Rattle.uv_text.specs.Recording.{callback_lines}
use Rattle.uv_engine.specs.declared.verdict.Verdict.{Verdict}
use Rattle.uv_engine.specs.declared.verdict.Verdict.TheVariants.{Same, Differs, Refused, Full}
use Rattle.uv_script.specs.Writes.{CutShort}
use Rattle.uv_engine.specs.Recordings.{IsRecording, IsBadLine}

-- the first step that isn't taken: the loop refuses it, or as many stand as may
pub data IsHalt (p : Program) (es : List Event) : Verdict → Type 0 where
  refused : (before rest : List Event) (e : Event) (why : Why) → es ≡ before ++ e ∷ rest → Accepts p before → length before < STEPS →
      next p (after p before) e ≡ Refuses why → IsHalt p es (Refused (length before + 1) why)
  full : (before rest : List Event) (e : Event) → es ≡ before ++ e ∷ rest → Accepts p before → length before ≡ STEPS →
      IsHalt p es (Full (length before + 1))

-- the first lines differ, or there is one in one list alone
abbrev pub AreApart : List (List ℕ) → List (List ℕ) → Type 0
AreApart [] [] = ⊥
AreApart [] (y ∷ ys) = Unit {0}
AreApart (x ∷ xs) [] = Unit {0}
AreApart (x ∷ xs) (y ∷ ys) = x ≢ y

-- the first place, from 1, where two lists of lines differ or one has ended
pub record PartAt (xs ys : List (List ℕ)) (place : ℕ) : Type 0 where
  pub same : List (List ℕ)
  pub left : List (List ℕ)
  pub right : List (List ℕ)
  pub left_is : xs ≡ same ++ left
  pub right_is : ys ≡ same ++ right
  pub apart : AreApart left right
  pub counted : place ≡ length same + 1

-- each step is taken
abbrev pub AllTaken : Program → List Event → Type 0
AllTaken p es = Accepts p es × (length es ≤ STEPS)

-- the verdict on a script, some steps, and the lines of callbacks that are recorded
pub data IsVerdict (p : Program) (es : List Event) (called : List (List ℕ)) : Verdict → Type 0 where
  halts : (v : Verdict) → IsHalt p es v → IsVerdict p es called v
  same : AllTaken p es → called ≡ callback_lines p es → IsVerdict p es called Same
  differs : (place : ℕ) → AllTaken p es → PartAt called (callback_lines p es) place → IsVerdict p es called (Differs place)

-- the verdict on a text that is a recording
pub record HasVerdict (text : List ℕ) (v : Verdict) : Type 0 where
  pub program : Program
  pub steps : List Event
  pub called : List (List ℕ)
  pub recording : IsRecording text program steps called
  pub verdict : IsVerdict program steps called v

-- a text has one verdict at most, one first bad line at most, and not both
pub record HasOneVerdict (text : List ℕ) : Type 0 where
  pub verdict : (v w : Verdict) → HasVerdict text v → HasVerdict text w → v ≡ w
  pub line : (m n : ℕ) → IsBadLine text m → IsBadLine text n → m ≡ n
  pub apart : (v : Verdict) (n : ℕ) → HasVerdict text v → IsBadLine text n → ⊥

-- ---- what is told of it

abbrev pub refused_at : ℕ → List ℕ → List ℕ
refused_at step why = codes "refused at " ++ decimal step ++ codes " " ++ why ++ codes "\n"

abbrev pub verdict_text : Verdict → List ℕ
verdict_text Same = codes "same\n"
verdict_text (Differs place) = codes "differs at " ++ decimal place ++ codes "\n"
verdict_text (Refused step why) = refused_at step (why_word why)
verdict_text (Full step) = refused_at step (codes "steps")

abbrev pub answer_of : Verdict → Result (Unit {0}) Fault
answer_of Same = Ok tt
answer_of (Differs place) = Err (fault.Differs place)
answer_of (Refused step why) = Err (fault.Refused why)
answer_of (Full step) = Err fault.StepsFull

-- a verdict was told: its line was written and it was answered, or there was no memory, or the writer failed
pub data Tells (v : Verdict) (r : Result (Unit {0}) Fault) (old new : List ℕ) : Type 0 where
  told : r ≡ answer_of v → new ≡ old ++ verdict_text v → Tells v r old new
  no_memory : r ≡ Err fault.Memory → new ≡ old → Tells v r old new
  cut_short : r ≡ Err fault.Write → CutShort old (verdict_text v) new → Tells v r old new

-- what may be answered to an input, and what was written then: the verdict; its first line that is outside the grammar; or want of memory, a
-- reader that failed, and nothing was written; or a writer that failed, and a beginning of the verdict was written
pub data Replays (input : List ℕ) (r : Result (Unit {0}) Fault) (old new : List ℕ) : Type 0 where
  judged : (v : Verdict) → HasVerdict input v → Tells v r old new → Replays input r old new
  bad_line : (line : ℕ) → r ≡ Err (fault.Script line) → IsBadLine input line → new ≡ old → Replays input r old new
  no_memory : r ≡ Err fault.Memory → new ≡ old → Replays input r old new
  no_read : r ≡ Err fault.Read → new ≡ old → Replays input r old new

-- what a replay may answer except `same`: a bad line, a verdict, a growth that was refused, or a reader or a writer that failed
abbrev pub IsReplayFault : Fault → Type 0
IsReplayFault (fault.Script line) = Unit {0}
IsReplayFault (fault.Refused why) = Unit {0}
IsReplayFault fault.StepsFull = Unit {0}
IsReplayFault (fault.Differs place) = Unit {0}
IsReplayFault fault.Memory = Unit {0}
IsReplayFault fault.Read = Unit {0}
IsReplayFault fault.Write = Unit {0}
IsReplayFault _ = ⊥
