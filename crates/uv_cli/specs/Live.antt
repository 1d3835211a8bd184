-- What a live run writes.
use Rattle.std.specs.Prelude.{◌≡◌, ℕ, List, ◌++◌, Option, Some, None, Result, Ok, Err, IfErr}
use Rattle.uv_ids.specs.declared.fault.Fault.{Fault}
use Rattle.uv_ids.specs.declared.fault.Fault.TheVariants as fault
use Rattle.uv_ids.specs.declared.fault.Why.TheVariants.{Ended}
use Rattle.uv_script.specs.Program.{Program, with_workers}
use Rattle.uv_session.specs.Shown.{Shown}
use Rattle.uv_text.specs.Recording.{recording_text}
use Rattle.uv_engine.specs.Alone.{SaysInFront}
use Rattle.uv_engine.specs.Devices.{ReaderCounts, WriterCounts}
use Rattle.uv_script.specs.Writes.{CutShort}
use Rattle.uv_live.specs.Faults.{IsRunFault}
use Rattle.uv_live.specs.Running.{RunSettles}
use Rattle.uv_run.specs.Bound.{plan_of, course_of, refusal_in}
use Rattle.uv_cli.specs.declared.live.NoRecording.{NoRecording}
use Rattle.uv_cli.specs.declared.live.NoRecording.TheVariants.{BadScript, Unread, Failed, Unwritten}

-- the script that runs: the one that was read, with the number of workers that is asked for
abbrev pub to_run : Option ℕ → Program → Program
to_run None p = p
to_run (Some n) p = with_workers n p

-- the session is one of this script, the main program is at its end, and the session is what the threads did
pub record IsLived (p : Program) (s : Shown) : Type 0 where
  pub program : s.program ≡ p
  pub end : refusal_in s ≡ Some Ended
  pub settled : RunSettles (plan_of p p.threads) (course_of s)

-- a text is the recording of a live run of the script that the input has
pub record IsRecording (workers : Option ℕ) (input text : List ℕ) : Type 0 where
  pub script : Program
  pub read : SaysInFront input (Ok script)
  pub session : Shown
  pub lived : IsLived (to_run workers script) session
  pub is : text ≡ recording_text session.program session.standing

-- such a text was written
pub record IsWritten (workers : Option ℕ) (input old new : List ℕ) : Type 0 where
  pub text : List ℕ
  pub is : IsRecording workers input text
  pub written : new ≡ old ++ text

-- nothing was written, or a beginning of such a text
pub data IsBroken (workers : Option ℕ) (input old new : List ℕ) : Type 0 where
  nothing : new ≡ old → IsBroken workers input old new
  cut_short : (text : List ℕ) → IsRecording workers input text → CutShort old text new → IsBroken workers input old new

-- what a live run may answer, and what it has written then
abbrev pub RunsLive : Option ℕ → List ℕ → Result (Unit {0}) NoRecording → List ℕ → List ℕ → Type 0
RunsLive workers input (Ok done) old new = IsWritten workers input old new
RunsLive workers input (Err (BadScript line)) old new = SaysInFront input (Err (fault.Script line)) × (new ≡ old)
RunsLive workers input (Err (Unread why)) old new = new ≡ old
RunsLive workers input (Err (Failed why)) old new = new ≡ old
RunsLive workers input (Err Unwritten) old new = IsBroken workers input old new

-- where the script was read, be it bad, and the run didn't fail
abbrev pub OnRead : Result (Unit {0}) NoRecording → Type 0 → Type 0
OnRead (Ok done) Holds = Holds
OnRead (Err (BadScript line)) Holds = Holds
OnRead (Err _) Holds = Unit {0}

-- a script is unread for want of memory, or since the reader failed or the input is too long
abbrev pub IsUnreadFault : Fault → Type 0
IsUnreadFault fault.Memory = Unit {0}
IsUnreadFault fault.Read = Unit {0}
IsUnreadFault _ = ⊥

-- and it fails by a fault that a run of some workers has
abbrev pub IsLiveFault : NoRecording → Type 0
IsLiveFault (Unread why) = IsUnreadFault why
IsLiveFault (Failed why) = (workers : ℕ) × IsRunFault workers why
IsLiveFault _ = Unit {0}

-- what the reader answered to a live run, and what the writer did
abbrev pub of_reader : Result (Unit {0}) NoRecording → Result (Unit {0}) Fault
of_reader (Err (Unread why)) = Err why
of_reader _ = Ok tt

abbrev pub of_writer : Result (Unit {0}) NoRecording → Result (Unit {0}) Fault
of_writer (Err Unwritten) = Err fault.Write
of_writer _ = Ok tt

-- the status of a live run: 4 where the script is unread, where the run failed, and where the writer did
abbrev pub live_status : Result (Unit {0}) NoRecording → ℕ
live_status (Ok done) = 0
live_status (Err (BadScript line)) = 2
live_status (Err _) = 4

-- a live run ends with the status of what it came to. The reader failed, or the input is too long, just where that says `Read`; and the
-- writer failed just where it says so
pub record EndsLive (TooLong : Type 0) (reads reads' writes writes' status : ℕ) : Type 0 where
  pub came_to : Result (Unit {0}) NoRecording
  pub is : status ≡ live_status came_to
  pub fault : IfErr came_to IsLiveFault
  pub reader : ReaderCounts (of_reader came_to) TooLong reads reads'
  pub writer : WriterCounts (of_writer came_to) writes writes'

-- a live run. 0: the recording was written. 2: the script is bad, and nothing was written. 4: nothing was written, or a beginning
-- of the recording
pub data Lives (workers : Option ℕ) (input old new : List ℕ) : ℕ → Type 0 where
  recorded : IsWritten workers input old new → Lives workers input old new 0
  bad_script : (line : ℕ) → SaysInFront input (Err (fault.Script line)) → new ≡ old → Lives workers input old new 2
  broken : IsBroken workers input old new → Lives workers input old new 4
