-- What becomes of a timer by each op and section.
use Rattle.std.specs.Prelude.{ℕ, ◌==◌, true, not, Option, Some, None, if◌then◌else◌}
use Rattle.uv_ids.specs.declared.due.Due.{Due}
use Rattle.uv_records.specs.declared.handle.HandleRecord.{HandleRecord}
use Rattle.uv_records.specs.Handles.{stopped, begun_at}
use Rattle.uv_records.specs.Dues.{due_after}
use Rattle.uv_timer.specs.declared.change.Times.{Times}
use Rattle.uv_timer.specs.declared.change.TimerChange.{TimerChange}

-- its record is another one, it leaves its list, and it is set if it is due at some time
abbrev pub becoming : HandleRecord → HandleRecord → Option Due → TimerChange
becoming from to due = record { from = from; to = to; leaves = true; due = due }

-- set, at its due time and with its repeat
abbrev pub set_at : Due → HandleRecord → ℕ → TimerChange
set_at due h repeat = becoming h (begun_at due repeat h) (Some due)

-- `start v T R`: it is due the timeout from now, under the next start number
abbrev pub starting : Times → HandleRecord → ℕ → ℕ → TimerChange
starting t h timeout repeat = set_at (due_after t.time t.next_start timeout) h repeat

-- `stop v`: a closing one stays on the closing list
abbrev pub stopping : HandleRecord → TimerChange
stopping h = record { from = h; to = stopped h; leaves = not h.closing; due = None }

-- collected in a timers section: inactive from then on
abbrev pub collecting : HandleRecord → TimerChange
collecting h = becoming h (stopped h) None

-- `again v`: stopped, and started with its repeat as timeout if it repeats
abbrev pub starting_again : Times → HandleRecord → TimerChange
starting_again t h = if h.repeat == 0 then becoming h (stopped h) None else starting t h h.repeat h.repeat

-- called in a timers section: started again, from now, if it repeats
abbrev pub firing : Times → HandleRecord → TimerChange
firing t h = if h.repeat == 0 then becoming h h None else starting t h h.repeat h.repeat
