-- The records of handles, and what each op makes of one.
use Rattle.std.specs.Prelude.{ℕ, Bool, true, false, ◌&&◌}
use Rattle.uv_ids.specs.declared.id.Var.{Var}
use Rattle.uv_ids.specs.declared.phase.Kind.{Kind}
use Rattle.uv_ids.specs.declared.phase.Kind.TheVariants as kind
use Rattle.uv_ids.specs.declared.due.Due.{Due}
use Rattle.uv_records.specs.declared.handle.HandleRecord.{HandleRecord}

abbrev pub is_timer : Kind → Bool
is_timer kind.Timer = true
is_timer kind.Idle = false
is_timer kind.Prepare = false
is_timer kind.Check = false
is_timer kind.Async = false
is_timer kind.Io = false

abbrev pub is_async : Kind → Bool
is_async kind.Timer = false
is_async kind.Idle = false
is_async kind.Prepare = false
is_async kind.Check = false
is_async kind.Async = true
is_async kind.Io = false

abbrev pub is_io : Kind → Bool
is_io kind.Timer = false
is_io kind.Idle = false
is_io kind.Prepare = false
is_io kind.Check = false
is_io kind.Async = false
is_io kind.Io = true

-- the due time of a timer that isn't active (own)
abbrev pub no_due : Due
no_due = record { at = 0; start = 0 }

-- a handle as `init` makes it: referenced, and inactive, except an async one (uv_async_init)
abbrev pub inited : Var → Kind → HandleRecord
inited v k = record {
  name = v;
  kind = k;
  referenced = true;
  active = is_async k;
  closing = false;
  begun = false;
  pending = false;
  due = no_due;
  repeat = 0;
}

-- the handle, stopped
abbrev pub stopped : HandleRecord → HandleRecord
stopped h = record h { active = false; due = no_due }

-- a watcher or a handle of I/O, started
abbrev pub activated : HandleRecord → HandleRecord
activated h = record h { active = true }

-- a timer, started
abbrev pub begun_at : Due → ℕ → HandleRecord → HandleRecord
begun_at due repeat h = record h { active = true; begun = true; due = due; repeat = repeat }

-- a timer with another repeat (uv_timer_set_repeat)
abbrev pub repeating : ℕ → HandleRecord → HandleRecord
repeating n h = record h { repeat = n }

-- the handle, referenced or not (uv_ref, uv_unref)
abbrev pub referenced_as : Bool → HandleRecord → HandleRecord
referenced_as flag h = record h { referenced = flag }

-- the handle, closing: stopped, and no send pending (uv_close)
abbrev pub closed : HandleRecord → HandleRecord
closed h = record (stopped h) { closing = true; pending = false }

-- an async handle that was sent to (uv_async_send): further sends before its callback change nothing
abbrev pub sent : HandleRecord → HandleRecord
sent h = record h { pending = true }

-- an async handle whose callback begins
abbrev pub woken : HandleRecord → HandleRecord
woken h = record h { pending = false }

-- the handle keeps the loop alive: it is active and referenced (uv_loop_alive)
abbrev pub keeps_alive : HandleRecord → Bool
keeps_alive h = h.active && h.referenced
