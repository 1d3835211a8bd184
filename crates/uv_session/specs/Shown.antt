-- A session: the steps that stand, and those that were taken back. The state shown is the one after the standing steps.
use Rattle.std.specs.Prelude.{◌≡◌, ℕ, ◌-◌, ◌<◌, ◌≤◌, List, [], ◌∷◌, ◌++◌, length, map, take, drop, Some, Result, Ok, Err}
use Rattle.uv_ids.specs.declared.event.Event.{Event}
use Rattle.uv_ids.specs.declared.event.Event.TheVariants.{Finish}
use Rattle.uv_ids.specs.declared.fault.Fault.{Fault}
use Rattle.uv_ids.specs.declared.fault.Fault.TheVariants.{Memory, Refused, StepsFull}
use Rattle.uv_ids.specs.declared.fault.Why.TheVariants.{Range}
use Rattle.uv_script.specs.Program.{Program}
use Rattle.uv_model.specs.declared.machine.Outcome.{Outcome}
use Rattle.uv_ids.specs.declared.seen.Seen.{Seen}
use Rattle.uv_model.specs.Next.{next, Moves, Refuses}
use Rattle.uv_model.specs.After.{after}
use Rattle.uv_model.specs.Handing.{job_run, RefusesResult}
use Rattle.uv_work.specs.declared.job.Job.{Job}
use Rattle.uv_session.specs.declared.breaks.Break.{Break}
use Rattle.uv_order.specs.Line.{Line}
use Rattle.uv_order.specs.History.{history}
use Rattle.uv_order.specs.Documented.{Documented}

pub record Shown : Type 0 where
  pub program : Program
  -- how many steps there may be
  pub limit : ℕ
  pub standing : List Event
  pub taken_back : List Event
  -- where a run is to stop; one that was added twice stands twice
  pub breaks : List Break

-- the last n standing steps go to the front of those taken back
abbrev pub moved_back : ℕ → Shown → Shown
moved_back n s =
    let rest = length s.standing - n in
    record s { standing = take rest s.standing; taken_back = drop rest s.standing ++ s.taken_back }

-- an accepted event discards what was taken back, a refused one keeps it
abbrev pub taken_after : Result Outcome Fault → List Event → List Event
taken_after (Ok outcome) taken = []
taken_after (Err fault) taken = taken

-- what may be answered to an event, and the steps that stand then: an accepted event is one more step and says what it appended, a
-- refused one is none. The session makes room in its own list before it asks the machine, so want of memory may come first
abbrev pub Responds : ℕ → Program → List Event → Event → Result Outcome Fault → List Event → Type 0
Responds limit p es e (Ok outcome) fs = (length es < limit) × (fs ≡ es ++ e ∷ []) × (next p (after p es) e ≡ Moves (after p fs) outcome.seen)
Responds limit p es e (Err Memory) fs = (length es < limit) × (fs ≡ es)
Responds limit p es e (Err (Refused why)) fs = (length es < limit) × (fs ≡ es) × (next p (after p es) e ≡ Refuses why)
Responds limit p es e (Err StepsFull) fs = (limit ≤ length es) × (fs ≡ es)
Responds limit p es e (Err _) fs = ⊥

-- what may be answered to an event, and the session after it
pub record TakesEvent (s : Shown) (e : Event) (r : Result Outcome Fault) (t : Shown) : Type 0 where
  pub same_program : t.program ≡ s.program
  pub same_limit : t.limit ≡ s.limit
  pub same_breaks : t.breaks ≡ s.breaks
  pub answer : Responds s.limit s.program s.standing e r t.standing
  pub taken_back : t.taken_back ≡ taken_after r s.taken_back

-- what may be answered to a finish with the result of this job, and the steps that stand then: where the worker runs that very job it
-- is what may be answered to the event, and where it runs another one the finish is refused
abbrev pub RespondsResult : ℕ → Program → List Event → ℕ → Job → Result Outcome Fault → List Event → Type 0
RespondsResult limit p es k job (Ok outcome) fs = (job_run (after p es) k ≡ Some job) × Responds limit p es (Finish k) (Ok outcome) fs
RespondsResult limit p es k job (Err (Refused why)) fs = (length es < limit) × (fs ≡ es) × RefusesResult p (after p es) k job why
RespondsResult limit p es k job (Err f) fs = Responds limit p es (Finish k) (Err f) fs

-- what may be answered to a finish with the result of this job, and the session after it
pub record TakesResult (s : Shown) (k : ℕ) (job : Job) (r : Result Outcome Fault) (t : Shown) : Type 0 where
  pub same_program : t.program ≡ s.program
  pub same_limit : t.limit ≡ s.limit
  pub same_breaks : t.breaks ≡ s.breaks
  pub answer : RespondsResult s.limit s.program s.standing k job r t.standing
  pub taken_back : t.taken_back ≡ taken_after r s.taken_back

-- what may be answered to `back n`, and the session after it; after want of memory some of the steps, and not all, may be taken back
abbrev pub MovesBack : Shown → ℕ → Result (Unit {0}) Fault → Shown → Type 0
MovesBack s n (Ok done) t = (n ≤ length s.standing) × (t ≡ moved_back n s)
MovesBack s n (Err Memory) t = (k : ℕ) × ((k < n) × (n ≤ length s.standing) × (t ≡ moved_back k s))
MovesBack s n (Err (Refused Range)) t = (length s.standing < n) × (t ≡ s)
MovesBack s n (Err _) t = ⊥

-- these are all lines of the standing steps; with the states before and after each, they are in the documented order
unfoldable pub IsDocumented : Shown → List Seen → Type 0
IsDocumented s trace = (trace ≡ map (λ (l : Line). l.seen) (history s.program s.standing)) × Documented s.program (history s.program s.standing)
