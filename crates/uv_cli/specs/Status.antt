-- Exit statuses, and what was written where a run ended with one.
use Rattle.std.specs.Prelude.{◌≡◌, ℕ, ◌==◌, List, [], ◌∷◌, ◌++◌, true, Option, Some, None, Result, Ok, Err, IfErr}
use Rattle.std.specs.List.{list_any}
use Rattle.uv_ids.specs.declared.fault.Fault.{Fault}
use Rattle.uv_ids.specs.declared.fault.Fault.TheVariants as fault
use Rattle.uv_engine.specs.declared.conversation.Ended.{Ended}
use Rattle.uv_engine.specs.declared.verdict.Verdict.{Verdict}
use Rattle.uv_engine.specs.declared.verdict.Verdict.TheVariants.{Same, Differs, Refused, Full}
use Rattle.uv_engine.specs.Devices.{ReaderCounts, WriterCounts}
use Rattle.uv_engine.specs.Out as out
use Rattle.uv_engine.specs.Out.{Out, BadScript, IsCut, IsWhole, IsConversationFault}
use Rattle.uv_script.specs.Writes.{CutShort}
use Rattle.uv_engine.specs.Recordings.{IsBadLine}
use Rattle.uv_engine.specs.Verdict.{HasVerdict, IsReplayFault, verdict_text}
use Rattle.uv_words.specs.declared.command_line.Job.{Job}
use Rattle.uv_words.specs.declared.command_line.Job.TheVariants.{Debug, Replay, Live}
use Rattle.uv_cli.specs.Live.{EndsLive, Lives}

-- the status of a fault
abbrev pub status_of : Fault → ℕ
status_of (fault.Script line) = 2
status_of (fault.Differs place) = 3
status_of (fault.Refused why) = 3
status_of fault.StepsFull = 3
status_of _ = 4

-- the statuses with which a run may end, by what its words ask for
abbrev pub statuses : Option Job → List ℕ
statuses (Some Debug) = 0 ∷ 2 ∷ 4 ∷ []
statuses (Some Replay) = 0 ∷ 2 ∷ 3 ∷ 4 ∷ []
statuses (Some (Live workers)) = 0 ∷ 2 ∷ 4 ∷ []
statuses None = 2 ∷ 4 ∷ []

-- it ends with one of these
abbrev pub MayEnd : Option Job → ℕ → Type 0
MayEnd asked status = list_any (λ s. s == status) (statuses asked) ≡ true

-- a conversation. 0: all that the input asks for was written. 2: the script is bad, and nothing was written. 4: a beginning was written
pub data Runs (input old new : List ℕ) : ℕ → Type 0 where
  done : (end : Ended) → IsWhole input (out.Ends end) old new → Runs input old new 0
  bad_script : (line : ℕ) → Out input [] (BadScript line) → new ≡ old → Runs input old new 2
  broken : IsCut input old new → Runs input old new 4

-- the status of a verdict
abbrev pub status_by : Verdict → ℕ
status_by Same = 0
status_by (Differs place) = 3
status_by (Refused step why) = 3
status_by (Full step) = 3

-- a replay. 0 or 3: the verdict was written. 2: the recording has a bad line, and nothing was written. 4: nothing was written, or a beginning
-- of the verdict
pub data Reruns (input old new : List ℕ) : ℕ → Type 0 where
  judged : (v : Verdict) → HasVerdict input v → new ≡ old ++ verdict_text v → Reruns input old new (status_by v)
  bad_line : (line : ℕ) → IsBadLine input line → new ≡ old → Reruns input old new 2
  nothing : new ≡ old → Reruns input old new 4
  cut_short : (v : Verdict) → HasVerdict input v → CutShort old (verdict_text v) new → Reruns input old new 4

-- ---- the causes

-- a fault of a conversation or of a replay
abbrev pub IsFaultOf : Job → Fault → Type 0
IsFaultOf Debug f = IsConversationFault f
IsFaultOf Replay f = IsReplayFault f
IsFaultOf (Live workers) f = ⊥

abbrev pub status_in : {A : Type 0} → Result A Fault → ℕ
status_in (Ok ended) = 0
status_in (Err f) = status_of f

-- a conversation or a replay ends with the status of what it came to: 0, or that of its fault. The fault is `Read` where the reader
-- failed, and else only where the input is too long; it is `Write` where the writer failed, and only there
pub record EndsBy (A : Type 0) (job : Job) (TooLong : Type 0) (reads reads' writes writes' status : ℕ) : Type 0 where
  pub came_to : Result A Fault
  pub is : status ≡ status_in came_to
  pub fault : IfErr came_to (IsFaultOf job)
  pub reader : ReaderCounts came_to TooLong reads reads'
  pub writer : WriterCounts came_to writes writes'

-- by which cause a run of the program ends with its status, by what its words ask for. Where they ask for nothing, no device was asked
abbrev pub Ends : Option Job → Type 0 → ℕ → ℕ → ℕ → ℕ → ℕ → Type 0
Ends (Some Debug) TooLong reads reads' writes writes' status = EndsBy Ended Debug TooLong reads reads' writes writes' status
Ends (Some Replay) TooLong reads reads' writes writes' status = EndsBy (Unit {0}) Replay TooLong reads reads' writes writes' status
Ends (Some (Live workers)) TooLong reads reads' writes writes' status = EndsLive TooLong reads reads' writes writes' status
Ends None TooLong reads reads' writes writes' status = (reads' ≡ reads) × (writes' ≡ writes)

-- what a run of the program comes to, by what its words ask for
pub data Ran (asked : Option Job) (input old new : List ℕ) (status : ℕ) : Type 0 where
  conversed : asked ≡ Some Debug → Runs input old new status → Ran asked input old new status
  replayed : asked ≡ Some Replay → Reruns input old new status → Ran asked input old new status
  lived : (workers : Option ℕ) → asked ≡ Some (Live workers) → Lives workers input old new status → Ran asked input old new status
  -- the words are no command line, and nothing was written
  bad_words : asked ≡ None → status ≡ 2 → new ≡ old → Ran asked input old new status
  -- there was no memory to read the words, and nothing was written
  no_memory : status ≡ 4 → new ≡ old → Ran asked input old new status
