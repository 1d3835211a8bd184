-- Which faults a live run may answer, and its parts.
use Rattle.std.specs.Prelude.{Bool, true, false, ℕ}
use Rattle.uv_ids.specs.declared.fault.Fault.{Fault}
use Rattle.uv_ids.specs.declared.fault.Fault.TheVariants as fault
use Rattle.uv_ids.specs.declared.fault.Why.TheVariants as why
use Rattle.uv_live.specs.Running.{IsNoWorkerCount}

-- of an event from outside: no memory, as many steps as the session may take, or a refusal
abbrev pub IsEventFault : Fault → Type 0
IsEventFault (fault.Refused w) = Unit {0}
IsEventFault fault.Memory = Unit {0}
IsEventFault fault.StepsFull = Unit {0}
IsEventFault _ = ⊥

-- of a step of the loop, which waits at a poll or is at its end
abbrev pub IsStepFault : Fault → Type 0
IsStepFault (fault.Refused why.Blocked) = Unit {0}
IsStepFault (fault.Refused why.Ended) = Unit {0}
IsStepFault fault.Memory = Unit {0}
IsStepFault fault.StepsFull = Unit {0}
IsStepFault _ = ⊥

-- of what the log has gained, which may part from the session
abbrev pub IsSyncFault : Fault → Type 0
IsSyncFault (fault.Torn at) = Unit {0}
IsSyncFault fault.Memory = Unit {0}
IsSyncFault fault.StepsFull = Unit {0}
IsSyncFault _ = ⊥

-- of a turn: one of the last two, or the log is full
abbrev pub IsTurnFault : Fault → Type 0
IsTurnFault (fault.Refused why.Blocked) = Unit {0}
IsTurnFault (fault.Refused why.Ended) = Unit {0}
IsTurnFault (fault.Torn at) = Unit {0}
IsTurnFault fault.Memory = Unit {0}
IsTurnFault fault.StepsFull = Unit {0}
IsTurnFault fault.Limit = Unit {0}
IsTurnFault _ = ⊥

-- of a loop's turns up to its end, which may have nothing to wait for
abbrev pub IsLoopFault : Fault → Type 0
IsLoopFault (fault.Torn at) = Unit {0}
IsLoopFault fault.Memory = Unit {0}
IsLoopFault fault.StepsFull = Unit {0}
IsLoopFault fault.Limit = Unit {0}
IsLoopFault fault.Stalled = Unit {0}
IsLoopFault _ = ⊥

-- of a worker: no memory, a limit, or what the book refused it, which has no place for it, or in which it runs a job already, another one or
-- none
abbrev pub is_workers : Fault → Bool
is_workers (fault.Refused why.NoWorker) = true
is_workers (fault.Refused why.BusyWorker) = true
is_workers (fault.Refused why.IdleWorker) = true
is_workers (fault.Refused why.NoWork) = true
is_workers fault.Memory = true
is_workers fault.Limit = true
is_workers _ = false

-- of a live run for so many workers: those of the loop and of its workers, and a number of workers that there isn't
abbrev pub IsRunFault : ℕ → Fault → Type 0
IsRunFault workers (fault.Refused why.Range) = IsNoWorkerCount workers
IsRunFault workers (fault.Refused why.NoWorker) = Unit {0}
IsRunFault workers (fault.Refused why.BusyWorker) = Unit {0}
IsRunFault workers (fault.Refused why.IdleWorker) = Unit {0}
IsRunFault workers (fault.Refused why.NoWork) = Unit {0}
IsRunFault workers (fault.Torn at) = Unit {0}
IsRunFault workers fault.Memory = Unit {0}
IsRunFault workers fault.StepsFull = Unit {0}
IsRunFault workers fault.Limit = Unit {0}
IsRunFault workers fault.Stalled = Unit {0}
IsRunFault workers _ = ⊥
