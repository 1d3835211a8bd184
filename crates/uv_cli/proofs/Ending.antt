-- How the end of a conversation or of a replay is a status.
use Rattle.std.proofs.Common.{ℕ, List, Option, Some, None, Result, Ok, Err, ◌≡◌, refl, sym, ap, subst, ◌∙◌}
use Rattle.uv_ids.specs.declared.fault.Fault.{Fault}
use Rattle.uv_ids.specs.declared.fault.Fault.TheVariants as fault
use Rattle.uv_engine.specs.declared.verdict.Verdict.{Verdict}
use Rattle.uv_engine.specs.declared.verdict.Verdict.TheVariants.{Same, Differs, Refused, Full}
use Rattle.uv_engine.specs.Devices.{IfOfInput}
use Rattle.uv_engine.specs.Out.{Converses, IsConversationFault}
use Rattle.uv_engine.specs.Verdict as verdict
use Rattle.uv_engine.specs.Verdict.{HasVerdict, answer_of, Tells, Replays, IsReplayFault}
use Rattle.std.proofs.lemmas.Option.{none-some}
use Rattle.uv_words.specs.declared.command_line.Job.{Job}
use Rattle.uv_words.specs.declared.command_line.Job.TheVariants.{Debug, Replay, Live}
use Rattle.uv_cli.specs.declared.live.NoRecording.TheVariants.{Failed}
use Rattle.uv_cli.specs.Status.{Ends, MayEnd, Runs, bad_script, broken, Reruns, judged, bad_line, nothing, cut_short, status_by, status_in, status_of}

-- ---- the statuses

pub conversed_status : (f : Fault) → IsConversationFault f → MayEnd (Some Debug) (status_of f)
conversed_status (fault.Script line) h = refl
conversed_status fault.Memory h = refl
conversed_status fault.Read h = refl
conversed_status fault.Write h = refl
conversed_status _ h = absurd h

pub replayed_status : (f : Fault) → IsReplayFault f → MayEnd (Some Replay) (status_of f)
replayed_status (fault.Script line) h = refl
replayed_status (fault.Refused why) h = refl
replayed_status fault.StepsFull h = refl
replayed_status (fault.Differs place) h = refl
replayed_status fault.Memory h = refl
replayed_status fault.Read h = refl
replayed_status fault.Write h = refl
replayed_status _ h = absurd h

-- what holds of a fault of the input alone holds where the status isn't 4
pub of_status : (f : Fault) (Holds : Type 0) → (status_of f ≡ 4 → ⊥) → IfOfInput f Holds → Holds
of_status fault.Memory Holds n h = absurd (n refl)
of_status fault.Read Holds n h = absurd (n refl)
of_status fault.Write Holds n h = absurd (n refl)
of_status _ Holds n h = h

-- where there was no memory to read the words
pub no_memory_status : (asked : Option Job) → MayEnd asked 4
no_memory_status (Some Debug) = refl
no_memory_status (Some Replay) = refl
no_memory_status (Some (Live workers)) = refl
no_memory_status None = refl

-- ---- the causes

-- where there was no memory to read the words
pub no_memory_ends : (asked : Option Job) (TooLong : Type 0) (reads writes : ℕ) → Ends asked TooLong reads reads writes writes 4
no_memory_ends (Some Debug) TooLong reads writes =
    record { came_to = Err fault.Memory; is = refl; fault = tt; reader = refl; writer = refl }
no_memory_ends (Some Replay) TooLong reads writes =
    record { came_to = Err fault.Memory; is = refl; fault = tt; reader = refl; writer = refl }
no_memory_ends (Some (Live workers)) TooLong reads writes =
    record { came_to = Err (Failed fault.Memory); is = refl; fault = (0, tt); reader = refl; writer = refl }
no_memory_ends None TooLong reads writes = (refl, refl)

-- words that ask for something are a command line
pub asks_something : {A : Type 0} (asked : Option Job) (job : Job) → asked ≡ Some job → asked ≡ None → A
asks_something {A} asked job e none = absurd (none-some job (sym none ∙ e))

-- ---- a conversation

pub by_fault : (input old new : List ℕ) (f : Fault) → Converses input (Err f) old new → Runs input old new (status_of f)
by_fault input old new (fault.Script line) h = bad_script line h.0 h.1
by_fault input old new fault.Memory h = broken h
by_fault input old new fault.Read h = broken h
by_fault input old new fault.Write h = broken h
by_fault input old new (fault.Refused why) h = absurd h
by_fault input old new fault.StepsFull h = absurd h
by_fault input old new (fault.Torn at) h = absurd h
by_fault input old new fault.Stalled h = absurd h
by_fault input old new (fault.Differs at) h = absurd h
by_fault input old new fault.Limit h = absurd h

-- ---- a replay

answered : (v : Verdict) → status_in (answer_of v) ≡ status_by v
answered Same = refl
answered (Differs place) = refl
answered (Refused step why) = refl
answered (Full step) = refl

told : (input old new : List ℕ) (v : Verdict) (r : Result (Unit {0}) Fault) → HasVerdict input v → Tells v r old new →
    Reruns input old new (status_in r)
told input old new v r h (verdict.told e w) =
    subst (λ (n : ℕ). Reruns input old new n) (sym (ap status_in e ∙ answered v)) (judged v h w)
told input old new v r h (verdict.no_memory e w) = subst (λ (n : ℕ). Reruns input old new n) (sym (ap status_in e)) (nothing w)
told input old new v r h (verdict.cut_short e w) = subst (λ (n : ℕ). Reruns input old new n) (sym (ap status_in e)) (cut_short v h w)

replayed : (input old new : List ℕ) (r : Result (Unit {0}) Fault) → Replays input r old new → Reruns input old new (status_in r)
replayed input old new r (verdict.judged v h t) = told input old new v r h t
replayed input old new r (verdict.bad_line line e h w) = subst (λ (n : ℕ). Reruns input old new n) (sym (ap status_in e)) (bad_line line h w)
replayed input old new r (verdict.no_memory e w) = subst (λ (n : ℕ). Reruns input old new n) (sym (ap status_in e)) (nothing w)
replayed input old new r (verdict.no_read e w) = subst (λ (n : ℕ). Reruns input old new n) (sym (ap status_in e)) (nothing w)

pub replayed_well : (input old new : List ℕ) (done : Unit {0}) → Replays input (Ok done) old new → Reruns input old new 0
replayed_well input old new done h = replayed input old new (Ok done) h

pub replayed_fault : (input old new : List ℕ) (f : Fault) → Replays input (Err f) old new → Reruns input old new (status_of f)
replayed_fault input old new f h = replayed input old new (Err f) h
