-- A state whose times are all later by as many ms, and whose numbers of starts are larger by a number of their own.
use Rattle.std.specs.Prelude.{◌≡◌, ℕ, ◌+◌, ◌<◌, ◌≤◌, ◌^◌, true, Option, Some, option_map}
use Rattle.uv_ids.specs.declared.id.Id.{Id}
use Rattle.uv_ids.specs.declared.event.Event.{Event}
use Rattle.uv_ids.specs.declared.event.Event.TheVariants.{Tick}
use Rattle.uv_ids.specs.declared.seen.Seen.{Seen}
use Rattle.uv_ids.specs.declared.seen.Site.{Site}
use Rattle.uv_script.specs.declared.op.Op.{Op}
use Rattle.uv_script.specs.declared.op.Op.TheVariants as op
use Rattle.uv_script.specs.Program.{Program, op_at}
use Rattle.uv_records.specs.declared.handle.HandleRecord.{HandleRecord}
use Rattle.uv_records.specs.Handles.{is_timer}
use Rattle.uv_model.specs.Limits.{LATEST}
use Rattle.uv_model.specs.State.{State, handle, front}
use Rattle.uv_model.specs.Next.{Next, Moves, first_due}
use Rattle.uv_shift.specs.Retimed.{Retiming, retimed, retimed_line}

-- by how much: the times, in ms, and the numbers of starts
pub record By : Type 0 where
  pub ms : ℕ
  pub starts : ℕ

abbrev pub later : By → Retiming
later d = record { time = λ at. at + d.ms; start = λ n. n + d.starts }

abbrev pub shift : By → State → State
shift d s = retimed (later d) s

abbrev pub shift_line : Program → By → Seen → Seen
shift_line p d line = retimed_line p (later d) line

-- ---- where a step is that of the earlier state, moved

-- the due time of a start isn't cut at the largest number
abbrev pub FitsOp : ℕ → Op → Type 0
FitsOp time (op.Start v timeout repeat) = time + timeout < 2 ^ 64
FitsOp time o = Unit {0}

-- no due time that the next step sets is cut at the largest number, and who is called as a timer is one
pub record TimesFit (p : Program) (s : State) : Type 0 where
  -- no timeout of the script is that long
  pub starts : (site : Site) (o : Op) → op_at p site ≡ Some o → FitsOp s.time o
  -- nor is the repeat of a handle
  pub repeats : (id : Id) (h : HandleRecord) → handle s id ≡ Some h → s.time + h.repeat < 2 ^ 64
  -- the first of those that were collected is a timer, and so is the first one that is due
  pub ready : (t : Id × HandleRecord) → front s s.ready ≡ Some t → is_timer t.1.kind ≡ true
  pub first : (t : Id × HandleRecord) → first_due s s.timers ≡ Some t → is_timer t.1.kind ≡ true

-- the event doesn't take the clock beyond its limit
abbrev pub ClockFits : State → Event → Type 0
ClockFits s (Tick ms) = s.clock + ms ≤ LATEST
ClockFits s e = Unit {0}

-- what a state took whose times are later: the state itself takes it, too, and comes to where that came to, moved, with its line
pub record IsMoved (p : Program) (d : By) (x : Next) (t : State) (line : Option Seen) : Type 0 where
  pub state : State
  pub says : Option Seen
  pub takes : x ≡ Moves state says
  pub moved : t ≡ shift d state
  pub moved_line : line ≡ option_map (shift_line p d) says

-- ---- scripts whose numbers are small

-- the timeout and the repeat of an op are below this
abbrev pub IsShortOp : ℕ → Op → Type 0
IsShortOp n (op.Start v timeout repeat) = (timeout < n) × (repeat < n)
IsShortOp n (op.SetRepeat v repeat) = repeat < n
IsShortOp n o = Unit {0}

-- those of each op of a script are
abbrev pub IsShort : ℕ → Program → Type 0
IsShort n p = (site : Site) (o : Op) → op_at p site ≡ Some o → IsShortOp n o
