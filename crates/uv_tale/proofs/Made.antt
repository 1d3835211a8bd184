-- What a tale makes of a form: its names, its slots and its lists. Each name that holds something has the next slot.
use Rattle.uv_tale.proofs.Names.{ℕ, zero, suc, ◌+◌, ◌-◌, ◌++◌, List, [], ◌∷◌, length, replicate, Option, Some, None, map, option_map, Due, Id, Named, Slot, Slots, Walk, Content, State, dead_id, ordered, Bound, Nothing, Gone, Holds, Told, Tale, as_id, name_at}

-- ---- places

abbrev pub holding : Bound → ℕ
holding Nothing = 0
holding Gone = 0
holding (Holds x) = 1

-- how many of the names before this one hold something
abbrev pub place_told : List Told → ℕ → ℕ
place_told [] v = 0
place_told (t ∷ ts) zero = 0
place_told (t ∷ ts) (suc v) = holding t.bound + place_told ts v

abbrev pub id_told : List Told → ℕ → Id
id_told ts v = as_id (place_told ts v)

-- that of a name which stands as an id
abbrev pub place_id : List Told → Id → Id
place_id ts name = id_told ts name.slot

-- ---- names

abbrev pub bound_told : ℕ → Id → Bound → Option Id
bound_told dead id Nothing = None
bound_told dead id Gone = Some (dead_id dead)
bound_told dead id (Holds x) = Some id

-- these names, of which the first has this number
abbrev pub names_told : ℕ → List Told → ℕ → List Told → List Named
names_told dead all v [] = []
names_told dead all v (t ∷ ts) = record { id = bound_told dead (id_told all v) t.bound; calls = t.calls } ∷ names_told dead all (suc v) ts

-- ---- slots

abbrev pub slot_told : Bound → List (Slot Content)
slot_told Nothing = []
slot_told Gone = []
slot_told (Holds x) = record { generation = 0; content = Some x } ∷ []

-- of what names hold, in the order of names
abbrev pub slots_held : List Told → List (Slot Content)
slots_held [] = []
slots_held (t ∷ ts) = slot_told t.bound ++ slots_held ts

abbrev pub empty_slot : Slot Content
empty_slot = record { generation = 0; content = None }

-- so many numbers, from this one on
abbrev pub numbers_from : ℕ → ℕ → List ℕ
numbers_from first zero = []
numbers_from first (suc n) = first ∷ numbers_from (suc first) n

abbrev pub free_told : Tale → ℕ
free_told tale = tale.used - length (slots_held tale.names)

abbrev pub arena_told : Tale → Slots Content
arena_told tale = record {
  slots = slots_held tale.names ++ replicate (free_told tale) empty_slot;
  free = numbers_from (length (slots_held tale.names)) (free_told tale);
  unused = tale.unused;
}

-- ---- lists

abbrev pub list_told : List Told → List ℕ → List Id
list_told ts names = map (id_told ts) names

abbrev pub walk_told : List Told → Walk ℕ → Walk Id
walk_told ts w = record { list = list_told ts w.list; yet = list_told ts w.yet }

-- an entry of the order of timers, by the name of its timer
abbrev pub named_entry : List (Slot Content) → Due × Id → Due × Id
named_entry slots t = (t.0, as_id (name_at slots t.1))

abbrev pub timer_told : List Told → Due × Id → Due × Id
timer_told ts t = (t.0, place_id ts t.1)

-- the form, with the timers by their names
abbrev pub made : ℕ → Tale → List (Due × Id) → State
made dead tale timers = record {
  place = tale.place;
  names = names_told dead tale.names 0 tale.names;
  arena = arena_told tale;
  timers = map (timer_told tale.names) timers;
  ready = list_told tale.names tale.ready;
  watchers = record {
    idle = walk_told tale.names tale.idle;
    prepare = walk_told tale.names tale.prepare;
    check = walk_told tale.names tale.check;
    async = walk_told tale.names tale.async;
  };
  closing = walk_told tale.names tale.closing;
  waiting = list_told tale.names tale.waiting;
  running = ordered (map (option_map (place_id tale.names)) tale.running);
  done = walk_told tale.names tale.done;
  time = tale.numbers.time;
  clock = tale.numbers.clock;
  next_start = tale.numbers.next_start;
  stop_flag = tale.numbers.stop_flag;
  idled = tale.numbers.idled;
}
