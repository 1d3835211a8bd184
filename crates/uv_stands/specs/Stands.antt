-- What it means that a loop's memory stands for a state.
use Rattle.std.specs.Prelude.{◌≡◌, ℕ, Bool, Option, List, map}
use Rattle.uv_ids.specs.declared.id.Id.{Id}
use Rattle.uv_ids.specs.declared.due.Due.{Due}
use Rattle.uv_records.specs.declared.lists.ListName.{ListName}
use Rattle.uv_records.specs.declared.named.Named.{Named}
use Rattle.uv_arena.specs.Image as arena
use Rattle.uv_arena.specs.Image.{plain_slots}
use Rattle.uv_heap.specs.declared.entry.Entry.{Entry}
use Rattle.uv_heap.specs.Order.{IsInOrder}
use Rattle.uv_requests.specs.Working.{id_in}
use Rattle.uv_model.specs.declared.place.Place.{Place}
use Rattle.uv_model.specs.State.{State}
use Rattle.uv_model.specs.Queries.{members}
use Rattle.uv_work.specs.declared.content.Content.{Content}
use Rattle.uv_memory.specs.Image.{Image}

-- when the timer of an entry is due, and its id
abbrev pub timer_in : arena.Image Content → Entry → Due × Id
timer_in a e = (e.due, id_in a e.slot)

-- the entries in order are these timers
pub record AreTimers (a : arena.Image Content) (heap : List Entry) (timers : List (Due × Id)) : Type 0 where
  pub entries : List Entry
  pub ordered : IsInOrder heap entries
  pub same : timers ≡ map (timer_in a) entries

-- the single values, which a memory and a state both have
pub record Values : Type 0 where
  pub place : Place
  pub names : List Named
  pub time : ℕ
  pub clock : ℕ
  pub next_start : ℕ
  pub stop_flag : Bool
  pub idled : Bool
  -- what each worker runs
  pub running : List (Option Id)

abbrev pub values_of : Image Place → Values
values_of i = record {
  place = i.place;
  names = i.names;
  time = i.times.time;
  clock = i.clock;
  next_start = i.times.next_start;
  stop_flag = i.stop_flag;
  idled = i.idled;
  running = i.running.workers;
}

abbrev pub values_in : State → Values
values_in s = record {
  place = s.place;
  names = s.names;
  time = s.time;
  clock = s.clock;
  next_start = s.next_start;
  stop_flag = s.stop_flag;
  idled = s.idled;
  running = s.running;
}

pub record StandsFor (i : Image Place) (s : State) : Type 0 where
  -- the place, the names, the single values and what each worker runs are the state's
  pub values : values_of i ≡ values_in s
  -- so are the slots, with the free list walked from its head
  pub slots : plain_slots i.arena ≡ s.arena
  -- each list, walked from its head, is the state's list of that name
  pub lists : (l : ListName) → members s l ≡ map (id_in i.arena) (arena.members i.arena l)
  -- the entries of the heap in order are the timers
  pub timers : AreTimers i.arena i.heap s.timers
