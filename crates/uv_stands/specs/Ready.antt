-- What each step of the loop finds in the memory: its numbers fit their types and can go on, and the heap has room for every used slot.
use Rattle.std.specs.Prelude.{◌≡◌, ◌<◌, ◌≤◌, ◌^◌, ℕ, Some, None, false, length}
use Rattle.uv_ids.specs.declared.id.Id.{Id}
use Rattle.uv_ids.specs.declared.seen.Callback.{Callback}
use Rattle.uv_records.specs.declared.handle.HandleRecord.{HandleRecord}
use Rattle.uv_records.specs.Refusals.{start_watcher_refusal}
use Rattle.uv_arena.specs.Image.{on_list}
use Rattle.uv_handle.specs.Counted.{record_at}
use Rattle.uv_model.specs.declared.place.Place.{Place}
use Rattle.uv_model.specs.Bounds.{line_of}
use Rattle.uv_work.specs.Content.{handle_of}
use Rattle.uv_memory.specs.Image.{Held}
use Rattle.uv_records.specs.Names.{named, count_of}

pub record IsReady (h : Held Place) : Type 0 where
  -- the heap has room for the timer of each slot that is used
  pub room : length h.image.arena.memory.row.items ≤ h.room
  pub starts : h.image.times.next_start < 2 ^ 63
  pub time : h.image.times.time < 2 ^ 63
  pub line : line_of h.image.place < 2 ^ 63
  -- how often each callback of each name was called
  pub calls : (v : ℕ) (k : Callback) → count_of k (named h.image.names v).calls < 2 ^ 31
  -- a watcher that may be started and isn't active is on no list
  pub loose : (d : Id) (r : HandleRecord) → record_at handle_of h.image.arena d ≡ Some r → start_watcher_refusal r ≡ None → r.active ≡ false
      → on_list h.image.arena d ≡ false
