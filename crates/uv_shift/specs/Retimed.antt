-- A state with other times and other numbers of starts. Its times are the clock, the loop's time, when the active timers are due, and
-- when a poll is over; whatever else a state has stays.
use Rattle.std.specs.Prelude.{ℕ, ◌&&◌, Bool, true, false, map, Option, Some, option_map}
use Rattle.uv_ids.specs.declared.id.Id.{Id}
use Rattle.uv_ids.specs.declared.due.Due.{Due}
use Rattle.uv_ids.specs.declared.seen.Seen.{Seen}
use Rattle.uv_ids.specs.declared.seen.Seen.TheVariants as seen
use Rattle.uv_ids.specs.declared.code.Answer.{Answer}
use Rattle.uv_ids.specs.declared.code.Answer.TheVariants as answer
use Rattle.uv_script.specs.declared.op.Op.{Op}
use Rattle.uv_script.specs.declared.op.Op.TheVariants as op
use Rattle.uv_script.specs.Program.{Program, op_at}
use Rattle.uv_records.specs.declared.handle.HandleRecord.{HandleRecord}
use Rattle.uv_records.specs.declared.slot.Slot.{Slot}
use Rattle.uv_records.specs.Handles.{is_timer}
use Rattle.uv_records.specs.Slots.{Slots}
use Rattle.uv_work.specs.declared.content.Content.{Content}
use Rattle.uv_work.specs.declared.content.Content.TheVariants as content
use Rattle.uv_model.specs.declared.place.Place.{Place}
use Rattle.uv_model.specs.declared.place.Place.TheVariants.{Main, Running}
use Rattle.uv_model.specs.declared.place.Run.{Run}
use Rattle.uv_model.specs.declared.place.Stage.{Stage}
use Rattle.uv_model.specs.declared.place.Stage.TheVariants.{Poll}
use Rattle.uv_model.specs.State.{State}

-- what becomes of a time, in ms, and of the number of a start
pub record Retiming : Type 0 where
  pub time : ℕ → ℕ
  pub start : ℕ → ℕ

abbrev pub retimed_due : Retiming → Due → Due
retimed_due r due = record { at = r.time due.at; start = r.start due.start }

abbrev pub retimed_if : Bool → Retiming → Due → Due
retimed_if true r due = retimed_due r due
retimed_if false r due = due

-- only an active timer has a due time
abbrev pub retimed_handle : Retiming → HandleRecord → HandleRecord
retimed_handle r h = record h { due = retimed_if (h.active && is_timer h.kind) r h.due }

abbrev pub retimed_content : Retiming → Content → Content
retimed_content r (content.Handle h) = content.Handle (retimed_handle r h)
retimed_content r (content.Request request) = content.Request request

abbrev pub retimed_slot : Retiming → Slot Content → Slot Content
retimed_slot r slot = record slot { content = option_map (retimed_content r) slot.content }

abbrev pub retimed_arena : Retiming → Slots Content → Slots Content
retimed_arena r a = record a { slots = map (retimed_slot r) a.slots }

-- an entry of the order of timers
abbrev pub retimed_entry : Retiming → Due × Id → Due × Id
retimed_entry r t = (retimed_due r t.0, t.1)

-- only a poll has a time at which it is over
abbrev pub retimed_stage : Retiming → Stage → Stage
retimed_stage r (Poll deadline) = Poll (option_map r.time deadline)
retimed_stage r stage = stage

abbrev pub retimed_run : Retiming → Run → Run
retimed_run r run = record run { stage = retimed_stage r run.stage }

abbrev pub retimed_place : Retiming → Place → Place
retimed_place r (Main line) = Main line
retimed_place r (Running run) = Running (retimed_run r run)

abbrev pub retimed : Retiming → State → State
retimed r s = record s {
  place = retimed_place r s.place;
  arena = retimed_arena r s.arena;
  timers = map (retimed_entry r) s.timers;
  time = r.time s.time;
  clock = r.time s.clock;
  next_start = r.start s.next_start;
}

-- ---- the line of a step: only the answer of the op `now` is a time

abbrev pub retimed_answer : Retiming → Option Op → Answer → Answer
retimed_answer r (Some op.Now) (answer.Number n) = answer.Number (r.time n)
retimed_answer r o a = a

abbrev pub retimed_line : Program → Retiming → Seen → Seen
retimed_line p r (seen.Op site a) = seen.Op site (retimed_answer r (op_at p site) a)
retimed_line p r line = line
