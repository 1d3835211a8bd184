-- What a call that does a step may answer, and which lines are of the loop.
use Rattle.std.specs.Prelude.{◌≡◌, Option, Some, Result, Ok, Err}
use Rattle.uv_ids.specs.declared.fault.Fault.{Fault}
use Rattle.uv_ids.specs.declared.fault.Fault.TheVariants as fault
use Rattle.uv_ids.specs.declared.fault.Why.{Why}
use Rattle.uv_ids.specs.declared.seen.Seen.{Seen}
use Rattle.uv_ids.specs.declared.seen.Seen.TheVariants as seen
use Rattle.uv_model.specs.declared.machine.Outcome.{Outcome}
use Rattle.uv_model.specs.State.{State}
use Rattle.uv_model.specs.Next.{Next, Moves, Refuses}

-- the step is taken, or refused, or there is no memory for it; then the state stays as it was
abbrev pub Steps : Next → State → Result Outcome Fault → State → Type 0
Steps n s (Ok outcome) t = n ≡ Moves t outcome.seen
Steps n s (Err fault.Memory) t = t ≡ s
Steps n s (Err (fault.Refused why)) t = (n ≡ Refuses why) × (t ≡ s)
Steps n s (Err _) t = ⊥

-- the step is taken, or refused; it takes no memory
abbrev pub Falls : Next → State → Result Outcome Why → State → Type 0
Falls n s (Ok outcome) t = n ≡ Moves t outcome.seen
Falls n s (Err why) t = (n ≡ Refuses why) × (t ≡ s)

-- a step of the loop may have appended this: it is none of the lines of events from outside
abbrev pub IsOfLoop : Option Seen → Type 0
IsOfLoop (Some (seen.Take k v id)) = ⊥
IsOfLoop (Some (seen.Finish k v id)) = ⊥
IsOfLoop (Some (seen.Cancel v a)) = ⊥
IsOfLoop (Some (seen.Send v code)) = ⊥
IsOfLoop (Some (seen.Io v id)) = ⊥
IsOfLoop (Some (seen.Tick ms)) = ⊥
IsOfLoop l = Unit {0}
