-- The memory of a loop, as it lies there: all that a step may change.
use Rattle.std.specs.Prelude.{◌≡◌, ℕ, List, [], Bool, false, replicate}
use Rattle.uv_handle.specs.Counted.{Counted, counted}
use Rattle.uv_heap.specs.declared.entry.Entry.{Entry}
use Rattle.uv_timer.specs.declared.change.Times.{Times}
use Rattle.uv_timer.specs.Timed.{Timed}
use Rattle.uv_requests.specs.Working.{Running, Working, working, idle_workers}
use Rattle.uv_arena.specs.Image as arena
use Rattle.uv_work.specs.declared.content.Content.{Content}
use Rattle.uv_records.specs.declared.named.Named.{Named}
use Rattle.uv_memory.specs.MemoryParts.{MemoryParts}
use Rattle.uv_records.specs.Names.{unbound}

pub record Image (P : Type 0) : Type 0 where
  -- where the loop stands
  pub place : P
  -- for each name, what it is bound to and how often its callbacks were called
  pub names : List Named
  -- the slots, their links, and the ends of the lists
  pub arena : arena.Image Content
  -- how many handles are active and referenced
  pub active : ℕ
  -- what each worker runs, and how many requests are open
  pub running : Running
  -- the heap of the active timers, as an array
  pub heap : List Entry
  -- the loop's time, and the next start number
  pub times : Times
  pub clock : ℕ
  -- the run is to end before its next iteration
  pub stop_flag : Bool
  -- an idle handle was active as the iteration began
  pub idled : Bool

-- what the memory holds: the image, and the heap's room, which is no part of the image
pub record Held (P : Type 0) : Type 0 where
  pub image : Image P
  pub room : ℕ

module _ {P : Type 0} where
  abbrev pub image_of : MemoryParts P → Image P
  image_of m = record {
    place = m.place;
    names = m.names;
    arena = m.slots.image;
    active = m.handles;
    running = m.requests;
    heap = m.heap.array;
    times = m.times;
    clock = m.clock;
    stop_flag = m.stop_flag;
    idled = m.idled;
  }

  abbrev pub held : MemoryParts P → Held P
  held m = record { image = image_of m; room = m.heap.room }

  -- nothing of it changed, what takes the last step back is the same, and so is how many slots there is memory for
  abbrev pub Untouched : MemoryParts P → MemoryParts P → Type 0
  Untouched old new = (held new ≡ held old) × (new.step_record ≡ old.step_record) × (new.slots.room ≡ old.slots.room)

  -- what the calls of handles see and change
  abbrev pub counted_of : Image P → Counted Content
  counted_of i = counted i.arena i.active

  abbrev pub with_counted : Counted Content → Image P → Image P
  with_counted c i = record i { arena = c.arena; active = c.count }

  -- what the calls of timers see and change
  abbrev pub timed_of : Image P → Timed Content
  timed_of i = record { handles = counted_of i; heap = i.heap; times = i.times }

  abbrev pub with_timed : Timed Content → Image P → Image P
  with_timed t i = record i { arena = t.handles.arena; active = t.handles.count; heap = t.heap; times = t.times }

  -- what the calls of requests see and change
  abbrev pub working_of : Image P → Working Content
  working_of i = working i.arena i.running

  abbrev pub with_working : Working Content → Image P → Image P
  with_working w i = record i { arena = w.arena; running = w.running }

  -- nothing differs but the slots with their lists; these and the count of handles; these and the timers; the slots and what workers run
  abbrev pub OnlySlots : Image P → Image P → Type 0
  OnlySlots i j = j ≡ record i { arena = j.arena }

  abbrev pub OnlyHandles : Image P → Image P → Type 0
  OnlyHandles i j = j ≡ with_counted (counted_of j) i

  abbrev pub OnlyTimed : Image P → Image P → Type 0
  OnlyTimed i j = j ≡ with_timed (timed_of j) i

  abbrev pub OnlyWork : Image P → Image P → Type 0
  OnlyWork i j = j ≡ with_working (working_of j) i

  -- the loop stands here
  abbrev pub standing : P → Image P → Image P
  standing p i = record i { place = p }

  -- a loop that was never run, with so many names, slots and workers
  abbrev pub fresh : P → ℕ → ℕ → ℕ → ℕ → Image P
  fresh place names slots last workers = record {
    place = place;
    names = replicate names unbound;
    arena = arena.fresh_image Content slots last;
    active = 0;
    running = idle_workers workers;
    heap = [];
    times = record { time = 0; next_start = 0 };
    clock = 0;
    stop_flag = false;
    idled = false;
  }
