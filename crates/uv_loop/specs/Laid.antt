-- A layout that shows all that a loop's memory has.
use Rattle.std.specs.Prelude.{◌≡◌, ℕ, ◌-◌, List, map, length, Some, slice_get}
use Rattle.uv_records.specs.declared.lists.ListName.{ListName}
use Rattle.uv_records.specs.Lists.{all_lists}
use Rattle.uv_records.specs.Linked.{ends_of}
use Rattle.uv_arena.specs.declared.links.TheConstants.{FREE}
use Rattle.uv_arena.specs.Image as arena
use Rattle.uv_heap.specs.Array.{place_in}
use Rattle.uv_model.specs.declared.layout.LaidSlot.{LaidSlot}
use Rattle.uv_model.specs.declared.layout.Layout.{Layout}
use Rattle.uv_model.specs.declared.layout.ListEnds.{ListEnds}
use Rattle.uv_model.specs.declared.place.Place.{Place}
use Rattle.uv_work.specs.declared.content.Content.{Content}
use Rattle.uv_memory.specs.Image.{Image}

-- a slot's content, its two links, and the place where the heap has it
pub record ShowsSlot (i : Image Place) (x : ℕ) (c : LaidSlot) : Type 0 where
  pub slot : c.slot ≡ arena.slot_at i.arena.memory x
  pub prev : c.prev ≡ (arena.links_at i.arena.memory x).prev
  pub next : c.next ≡ (arena.links_at i.arena.memory x).next
  pub place : c.place ≡ place_in i.heap x

-- the slots that were ever used, by number
pub record ShowsSlots (i : Image Place) (slots : List LaidSlot) : Type 0 where
  pub all : length slots ≡ length i.arena.memory.row.items
  pub each : (x : ℕ) (c : LaidSlot) → slice_get slots x ≡ Some c → ShowsSlot i x c

-- a list with its first and last slot
abbrev pub shown_ends : arena.Image Content → ListName → ListEnds
shown_ends a l = record { list = l; ends = ends_of (arena.members a l) }

pub record ShowsAll (l : Layout) (i : Image Place) : Type 0 where
  -- the place, the single values and the names
  pub place : l.place ≡ i.place
  pub numbers : l.numbers ≡ record {
    time = i.times.time;
    clock = i.clock;
    next_start = i.times.next_start;
    stop_flag = i.stop_flag;
    idled = i.idled;
  }
  pub names : l.names.items ≡ i.names
  -- the slots, how many were never used, and what each worker runs
  pub slots : ShowsSlots i l.slots.items
  pub unused : l.unused ≡ i.arena.memory.row.capacity - length i.arena.memory.row.items
  pub running : l.running.items ≡ i.running.workers
  -- the ends of the free list and of the others
  pub free : l.free ≡ ends_of (arena.chain i.arena.memory FREE)
  pub lists : l.lists.items ≡ map (shown_ends i.arena) all_lists
  -- the heap's array, and the two counts
  pub heap : l.heap.items ≡ i.heap
  pub active : l.active ≡ i.active
  pub opened : l.opened ≡ i.running.count
