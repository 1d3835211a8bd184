-- What is told of a state: of each name what it is bound to, and how often its callbacks were called; where the loop stands; which names
-- stand on its lists; and how many slots were used. Where the same is told of two states, they go on alike (`Alike.antt`).
use Rattle.std.specs.Prelude.{◌-◌, ℕ, List, map, length, Option, Some, None, option_map}
use Rattle.uv_ids.specs.declared.id.Id.{Id}
use Rattle.uv_records.specs.declared.named.Calls.{Calls}
use Rattle.uv_records.specs.declared.named.Named.{Named}
use Rattle.uv_records.specs.declared.slot.Slot.{Slot}
use Rattle.uv_records.specs.Slots.{held}
use Rattle.uv_records.specs.Walks.{Walk}
use Rattle.uv_work.specs.declared.content.Content.{Content}
use Rattle.uv_model.specs.declared.numbers.Numbers.{Numbers}
use Rattle.uv_model.specs.declared.place.Place.{Place}
use Rattle.uv_model.specs.State.{State}
use Rattle.uv_shift.specs.Shift.{By}
use Rattle.uv_shift.specs.Earliest.{base, earlier}
use Rattle.uv_shift.specs.Retimed.{retimed_content, retimed_place}
use Rattle.uv_names.specs.Counts.{capped_calls, capped_place}
use Rattle.uv_alike.specs.Contents.{name_in}
use Rattle.uv_workers.specs.Workers.{ordered}

-- ---- names

-- what a name is bound to: nothing yet, what is gone, or what its slot holds
pub data Bound : Type 0 where
  Nothing : Bound
  Gone : Bound
  Holds : Content → Bound

-- its times so much earlier
abbrev pub bound_by : By → Option Content → Bound
bound_by d None = Gone
bound_by d (Some x) = Holds (retimed_content (earlier d) x)

abbrev pub bound_to : By → List (Slot Content) → Option Id → Bound
bound_to d slots None = Nothing
bound_to d slots (Some id) = bound_by d (held slots id)

pub record Told : Type 0 where
  pub bound : Bound
  -- how often each of its callbacks was called, up to a number
  pub calls : Calls

abbrev pub told_name : By → ℕ → List (Slot Content) → Named → Told
told_name d n slots x = record { bound = bound_to d slots x.id; calls = capped_calls n x.calls }

-- ---- lists

-- the number of the name of what is held; 0 of nothing
abbrev pub number_of : Option Content → ℕ
number_of None = 0
number_of (Some x) = (name_in x).0

-- of an id
abbrev pub name_at : List (Slot Content) → Id → ℕ
name_at slots id = number_of (held slots id)

abbrev pub names_at : List (Slot Content) → List Id → List ℕ
names_at slots ids = map (name_at slots) ids

abbrev pub walk_at : List (Slot Content) → Walk Id → Walk ℕ
walk_at slots w = record { list = names_at slots w.list; yet = names_at slots w.yet }

-- the number of a name, as an id
abbrev pub as_id : ℕ → Id
as_id name = record { slot = name; generation = 0 }

-- what each worker runs, by its name
abbrev pub run_names : List (Slot Content) → List (Option Id) → List (Option Id)
run_names slots running = map (option_map (λ (id : Id). as_id (name_at slots id))) running

-- whichever of them runs which: the names in order
abbrev pub runs_at : List (Slot Content) → List (Option Id) → List (Option Id)
runs_at slots running = ordered (run_names slots running)

-- ---- the whole

pub record Tale : Type 0 where
  pub place : Place
  pub names : List Told
  -- how many slots were used, and how many never were
  pub used : ℕ
  pub unused : ℕ
  pub ready : List ℕ
  pub idle : Walk ℕ
  pub prepare : Walk ℕ
  pub check : Walk ℕ
  pub async : Walk ℕ
  pub closing : Walk ℕ
  pub waiting : List ℕ
  pub running : List (Option Id)
  pub done : Walk ℕ
  pub numbers : Numbers

abbrev pub numbers_at : By → State → Numbers
numbers_at d s = record {
  time = s.time - d.ms;
  clock = s.clock - d.ms;
  next_start = s.next_start - d.starts;
  stop_flag = s.stop_flag;
  idled = s.idled;
}

-- its times so much earlier, with calls counted up to a number
abbrev pub tale_by : By → ℕ → State → Tale
tale_by d n s = record {
  place = retimed_place (earlier d) (capped_place n s.place);
  names = map (told_name d n s.arena.slots) s.names;
  used = length s.arena.slots;
  unused = s.arena.unused;
  ready = names_at s.arena.slots s.ready;
  idle = walk_at s.arena.slots s.watchers.idle;
  prepare = walk_at s.arena.slots s.watchers.prepare;
  check = walk_at s.arena.slots s.watchers.check;
  async = walk_at s.arena.slots s.watchers.async;
  closing = walk_at s.arena.slots s.closing;
  waiting = names_at s.arena.slots s.waiting;
  running = runs_at s.arena.slots s.running;
  done = walk_at s.arena.slots s.done;
  numbers = numbers_at d s;
}

-- as early as they can be
abbrev pub tale : ℕ → State → Tale
tale n s = tale_by (base s) n s
