-- A session as a live run follows it.
use Rattle.std.specs.Prelude.{◌≡◌, ◌==◌, ◌+◌, ℕ, Bool, List, Option, Result, Ok, Err, length, cond, count_by}
use Rattle.uv_ids.specs.declared.fault.Fault.{Fault}
use Rattle.uv_ids.specs.declared.fault.Why.{Why}
use Rattle.uv_script.specs.Program.{Program, worker_count}
use Rattle.uv_work.specs.declared.event.PoolEvent.{PoolEvent}
use Rattle.uv_session.specs.Shown.{Shown}
use Rattle.uv_ids.specs.declared.thread_line.ThreadLine.{ThreadLine}
use Rattle.uv_live.specs.Course.{Plan, Course, AreNamed}
use Rattle.uv_live.specs.Settling.{is_send, is_line}
use Rattle.uv_run.specs.Counts.{AreCounts}
use Rattle.uv_run.specs.Events.{events_by, refusal_after, polls_after, due_after, hours_after}

-- the session, and the `thread` lines of its run
pub record Bound : Type 0 where
  pub session : Shown
  pub lines : List ThreadLine

-- what a script, with these `thread` lines, says of a run
abbrev pub plan_of : Program → List ThreadLine → Plan Program
plan_of p lines = record { script = p; workers = worker_count p; names = length p.names; lines = lines }

-- what a session runs: its script, and how many steps it may take
pub record Asked : Type 0 where
  pub program : Program
  pub limit : ℕ

-- the same of such a session
abbrev pub plan_within : Shown → List ThreadLine → Plan Asked
plan_within s lines = record {
  script = record { program = s.program; limit = s.limit };
  workers = worker_count s.program;
  names = length s.program.names;
  lines = lines;
}

-- the steps that stand, with the pool's events that they are
abbrev pub course_of : Shown → Course
course_of s = record { steps = s.standing; events = events_by s.program s.standing }

-- why the loop's next step would be refused
abbrev pub refusal_in : Shown → Option Why
refusal_in s = refusal_after s.program s.standing

-- whether the loop is at a poll
abbrev pub polls_in : Shown → Bool
polls_in s = polls_after s.program s.standing

-- when that poll times out, and the loop's clock
abbrev pub due_in : Shown → Option ℕ
due_in s = due_after s.program s.standing

abbrev pub hours_in : Shown → ℕ
hours_in s = hours_after s.program s.standing

-- a name was sent to as often as before
abbrev pub SameSends : Shown → Shown → Type 0
SameSends s t = (v : ℕ) → count_by (is_send v) t.standing ≡ count_by (is_send v) s.standing

-- one send more, to this name; or none
abbrev pub Sends : ℕ → Shown → Result (Unit {0}) Fault → Shown → Type 0
Sends name s (Ok _) t = (v : ℕ) → count_by (is_send v) t.standing ≡ count_by (is_send v) s.standing + cond (name == v) 1 0
Sends name s (Err f) t = SameSends s t

-- what always holds: these are the pool's events of the steps that stand, the lines' names are the script's, and of each name it is
-- counted how many of the steps, and of the lines, send to it
pub record IsBound (s : Shown) (events : List PoolEvent) (lines : List ThreadLine) (sends allowed : List ℕ) : Type 0 where
  pub events_are : events ≡ events_by s.program s.standing
  pub named : AreNamed (length s.program.names) lines
  pub sends_are : AreCounts (length s.program.names) (λ v. count_by (is_send v) s.standing) sends
  pub allowed_are : AreCounts (length s.program.names) (λ v. count_by (is_line v) lines) allowed
