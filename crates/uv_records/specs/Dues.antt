-- When timers are due.
use Rattle.std.specs.Prelude.{ℕ, ◌+◌, ◌^◌, ◌-◌, min, if◌then◌else◌}
use Rattle.uv_ids.specs.declared.due.Due.{Due}
use Rattle.uv_records.specs.declared.handle.HandleRecord.{HandleRecord}

-- when a timer is due that is started at this time with this start number: no later than the largest time (uv_timer_start)
abbrev pub due_after : ℕ → ℕ → ℕ → Due
due_after time start timeout = record { at = min (time + timeout) (2 ^ 64 - 1); start = start }

-- in how many ms a timer is due (uv_timer_get_due_in): 0 where it is due already, and where it isn't active
abbrev pub due_in : ℕ → HandleRecord → ℕ
due_in time h = if h.active then h.due.at - time else 0
