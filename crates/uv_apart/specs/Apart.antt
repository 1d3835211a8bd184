-- Where the loop's next own step is apart from what comes from outside: the two can change places.
use Rattle.std.specs.Prelude.{◌≡◌, Bool, true, false, not, Option, Some, None, slice_get}
use Rattle.uv_ids.specs.declared.event.Event.{Event}
use Rattle.uv_ids.specs.declared.event.Event.TheVariants.{Loop}
use Rattle.uv_ids.specs.declared.seen.Seen.{Seen}
use Rattle.uv_script.specs.declared.op.Op.{Op}
use Rattle.uv_script.specs.declared.op.Op.TheVariants as op
use Rattle.uv_script.specs.declared.op.MainOp.{MainOp}
use Rattle.uv_script.specs.declared.op.MainOp.TheVariants as main
use Rattle.uv_script.specs.declared.op.CallbackLine.{CallbackLine}
use Rattle.uv_script.specs.Program.{Program, lines_in}
use Rattle.uv_model.specs.declared.place.Body.{Body}
use Rattle.uv_model.specs.declared.place.Run.{Run}
use Rattle.uv_model.specs.declared.place.Stage.{Stage}
use Rattle.uv_model.specs.declared.place.Stage.TheVariants.{Poll, Polled}
use Rattle.uv_model.specs.declared.place.Place.{Place}
use Rattle.uv_model.specs.declared.place.Place.TheVariants.{Main, Running}
use Rattle.uv_model.specs.State.{State}
use Rattle.uv_model.specs.Next.{Moves, next}
use Rattle.uv_alike.specs.Asks.{reads_clock}

-- ---- the thread pool

-- an op is apart; only a cancel asks who still waits for a worker
abbrev pub is_apart_op : Op → Bool
is_apart_op (op.Cancel v) = false
is_apart_op _ = true

-- so is a body's next line; behind its last one the body ends
abbrev pub is_apart_line : Option CallbackLine → Bool
is_apart_line None = true
is_apart_line (Some line) = is_apart_op line.op

-- and a line of the main program; behind its last one the loop has no step
abbrev pub is_apart_main : Option MainOp → Bool
is_apart_main None = false
is_apart_main (Some (main.Run mode)) = true
is_apart_main (Some (main.Op o)) = is_apart_op o

-- where no body is under way: the poll asks whether a request is done, and behind a woken one those that are done are set aside
abbrev pub is_apart_stage : Stage → Bool
is_apart_stage (Poll deadline) = false
is_apart_stage (Polled woken) = not woken
is_apart_stage _ = true

abbrev pub is_apart_run : Program → Run → Option Body → Bool
is_apart_run p run None = is_apart_stage run.stage
is_apart_run p run (Some body) = is_apart_line (slice_get (lines_in p body.callback body.name) body.next)

abbrev pub is_apart_at : Program → Place → Bool
is_apart_at p (Main line) = is_apart_main (slice_get p.main line)
is_apart_at p (Running run) = is_apart_run p run run.body

-- the loop's next step is apart from what workers take and finish
abbrev pub is_apart : Program → State → Bool
is_apart p s = is_apart_at p s.place

-- ---- what being apart is

-- the loop's step led to one state and the event to another: each is taken behind the other as well, with the same line, to one state
pub record Meets (p : Program) (e : Event) (by_loop by_event : State) (said told : Option Seen) : Type 0 where
  pub state : State
  pub event_after : next p by_loop e ≡ Moves state told
  pub loop_after : next p by_event Loop ≡ Moves state said

-- two events from outside led to two states: each is taken behind the other as well, with the same line, to one state
pub record Crosses (p : Program) (one other : Event) (by_one by_other : State) (said told : Option Seen) : Type 0 where
  pub state : State
  pub one_after : next p by_other one ≡ Moves state said
  pub other_after : next p by_one other ≡ Moves state told

-- a step leaves where the loop stands and what is named; so the loop's next step is apart, or reads the clock, just as before
pub record LeavesPlace (p : Program) (s b : State) : Type 0 where
  pub place : b.place ≡ s.place
  pub names : b.names ≡ s.names
  pub apart : is_apart p b ≡ is_apart p s
  pub clock : reads_clock p b ≡ reads_clock p s
