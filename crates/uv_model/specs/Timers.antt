-- The timers of a state, a map in the order of due times and start numbers; and what stopping any handle does.
use Rattle.std.specs.Prelude.{ℕ, ◌+◌, ◌==◌, ◌&&◌, List, if◌then◌else◌}
use Rattle.std.specs.Map.{remove_entry}
use Rattle.std.specs.BTreeMap.{insert_entry, is_at}
use Rattle.uv_ids.specs.Due.{due_cmp}
use Rattle.uv_ids.specs.declared.id.Id.{Id}
use Rattle.uv_ids.specs.declared.due.Due.{Due}
use Rattle.uv_records.specs.declared.handle.HandleRecord.{HandleRecord}
use Rattle.uv_records.specs.Dues as dues
use Rattle.uv_records.specs.Handles as records
use Rattle.uv_records.specs.Handles.{is_timer, begun_at}
use Rattle.uv_model.specs.Ids.{without_id, walk_without_id}
use Rattle.uv_model.specs.State.{State, Watchers, with_handle}

-- the timers with one more, at its place in the order
abbrev pub with_timer : List (Due × Id) → Due → Id → List (Due × Id)
with_timer timers due id = insert_entry due_cmp timers due id

-- the timers without the one that is due then
abbrev pub without_timer : List (Due × Id) → Due → List (Due × Id)
without_timer timers due = remove_entry (is_at (due_cmp due)) timers

-- the watchers without one of them
abbrev pub watchers_without_id : Watchers → Id → Watchers
watchers_without_id all id = record {
  idle = walk_without_id all.idle id;
  prepare = walk_without_id all.prepare id;
  check = walk_without_id all.check id;
  async = walk_without_id all.async id;
}

-- a handle off the order of timers, the ready list and the lists of its kind
abbrev pub taken_off : State → Id → HandleRecord → State
taken_off s id h = record s {
  timers = if is_timer h.kind && h.active then without_timer s.timers h.due else s.timers;
  ready = without_id s.ready id;
  watchers = watchers_without_id s.watchers id;
}

-- a handle that is stopped: off each of these, and inactive
abbrev pub stopped : State → Id → HandleRecord → State
stopped s id h = with_handle (taken_off s id h) id (records.stopped h)

-- when a timer is due that is started now
abbrev pub due_after : State → ℕ → Due
due_after s timeout = dues.due_after s.time s.next_start timeout

-- a stopped timer that is started: it gets its due time, the next start number and its repeat, and is active
abbrev pub started : State → Id → HandleRecord → ℕ → ℕ → State
started s id h timeout repeat = with_handle
    (record s {
      timers = with_timer s.timers (due_after s timeout) id;
      next_start = s.next_start + 1;
    })
    id
    (begun_at (due_after s timeout) repeat h)

-- a stopped timer that repeats is started again with its repeat as timeout
abbrev pub restarted : State → Id → HandleRecord → State
restarted s id h = if h.repeat == 0 then s else started s id h h.repeat h.repeat
