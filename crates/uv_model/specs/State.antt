-- The state of a loop: slots, plain lists, a map in the order of timers, and numbers.
use Rattle.std.specs.Prelude.{ℕ, Bool, false, List, [], ◌∷◌, length, Option, Some, None, Result, Ok, Err, replicate, slice_set}
use Rattle.uv_ids.specs.declared.id.Id.{Id}
use Rattle.uv_ids.specs.declared.id.Var.{Var}
use Rattle.uv_ids.specs.declared.due.Due.{Due}
use Rattle.uv_ids.specs.declared.phase.Kind.{Kind}
use Rattle.uv_ids.specs.declared.phase.Kind.TheVariants as kind
use Rattle.uv_ids.specs.declared.code.Code.{Code}
use Rattle.uv_ids.specs.declared.code.Code.TheVariants.{Estale, Ekind}
use Rattle.uv_records.specs.declared.handle.HandleRecord.{HandleRecord}
use Rattle.uv_records.specs.declared.lists.WatcherKind.{WatcherKind}
use Rattle.uv_records.specs.declared.lists.WatcherKind.TheVariants as watcher
use Rattle.uv_records.specs.Names as names
use Rattle.uv_records.specs.Names.{unbound}
use Rattle.uv_records.specs.Slots.{Slots, unused_slots, held, with_held}
use Rattle.uv_records.specs.Walks.{Walk, nothing_listed}
use Rattle.uv_script.specs.Program.{Program, arena_size, worker_count}
use Rattle.uv_work.specs.declared.content.Content.{Content}
use Rattle.uv_work.specs.declared.content.Content.TheVariants as content
use Rattle.uv_work.specs.declared.request.Request.{Request}
use Rattle.uv_records.specs.declared.named.Named.{Named}
use Rattle.uv_model.specs.declared.place.Place.{Place}
use Rattle.uv_model.specs.declared.place.Place.TheVariants.{Main}
use Rattle.uv_model.specs.Content.{handle_in, request_in}

-- the handles of each kind that a section walks: the active idle, prepare and check handles, and the async ones
pub record Watchers : Type 0 where
  pub idle : Walk Id
  pub prepare : Walk Id
  pub check : Walk Id
  pub async : Walk Id

-- those of a kind
abbrev pub those_of : WatcherKind → Watchers → Walk Id
those_of watcher.Idle all = all.idle
those_of watcher.Prepare all = all.prepare
those_of watcher.Check all = all.check
those_of watcher.Async all = all.async

-- the same with others of a kind
abbrev pub with_those_of : WatcherKind → Walk Id → Watchers → Watchers
with_those_of watcher.Idle w all = record all { idle = w }
with_those_of watcher.Prepare w all = record all { prepare = w }
with_those_of watcher.Check w all = record all { check = w }
with_those_of watcher.Async w all = record all { async = w }

-- none of any kind
abbrev pub no_watchers : Watchers
no_watchers = record { idle = nothing_listed Id; prepare = nothing_listed Id; check = nothing_listed Id; async = nothing_listed Id }

pub record State : Type 0 where
  -- where the loop stands
  pub place : Place
  -- for each name, what it is bound to and how often its callbacks were called
  pub names : List Named
  -- the slots that hold the handles and the requests
  pub arena : Slots Content
  -- the active timers, by due time and then by start number
  pub timers : List (Due × Id)
  -- the timers that a section collected and will call, front first
  pub ready : List Id
  -- the handles that sections walk, by kind
  pub watchers : Watchers
  -- the handles whose close callback is still to come
  pub closing : Walk Id
  -- the requests that wait for a worker, the one that waits longest first
  pub waiting : List Id
  -- what each worker of the thread pool runs, by its number
  pub running : List (Option Id)
  -- the requests that were finished or cancelled, whose after callback is still to come, in that order
  pub done : Walk Id
  -- the loop's cached time in ms (uv_now)
  pub time : ℕ
  -- the clock in ms
  pub clock : ℕ
  -- the number that the next start of a timer draws
  pub next_start : ℕ
  -- the run is to end before its next iteration (uv_stop)
  pub stop_flag : Bool
  -- an idle handle was active as the iteration began
  pub idled : Bool

-- the state in which every script begins
abbrev pub fresh : Program → State
fresh p = record {
  place = Main 0;
  names = replicate (length p.callbacks) unbound;
  arena = unused_slots Content (arena_size p).slots;
  timers = [];
  ready = [];
  watchers = no_watchers;
  closing = nothing_listed Id;
  waiting = [];
  running = replicate (worker_count p) None;
  done = nothing_listed Id;
  time = 0;
  clock = 0;
  next_start = 0;
  stop_flag = false;
  idled = false;
}

-- ---- handles and requests

-- the handle of an id whose slot still holds it
abbrev pub handle : State → Id → Option HandleRecord
handle s id = handle_in (held s.arena.slots id)

-- the state with this record in the slot of an id
abbrev pub with_handle : State → Id → HandleRecord → State
with_handle s id h = record s { arena = record s.arena { slots = with_held s.arena.slots id (content.Handle h) } }

-- the request of an id whose slot still holds it
abbrev pub request : State → Id → Option Request
request s id = request_in (held s.arena.slots id)

-- the state with this record in the slot of an id
abbrev pub with_request : State → Id → Request → State
with_request s id r = record s { arena = record s.arena { slots = with_held s.arena.slots id (content.Request r) } }

-- an id with what it stands for
abbrev pub with_id : {X : Type 0} → Id → Option X → Option (Id × X)
with_id id None = None
with_id id (Some x) = Some (id, x)

-- the front of a list of handles
abbrev pub front : State → List Id → Option (Id × HandleRecord)
front s [] = None
front s (id ∷ ids) = with_id id (handle s id)

-- the front of a list of requests
abbrev pub front_request : State → List Id → Option (Id × Request)
front_request s [] = None
front_request s (id ∷ ids) = with_id id (request s id)

-- ---- names

-- what a name is bound to, and its counts
abbrev pub named : State → Var → Named
named s v = names.named s.names v.0

-- the state with a name bound or counted anew
abbrev pub with_named : State → Var → Named → State
with_named s v n = record s { names = slice_set s.names v.0 n }

-- the id of a name that is live, and what its slot holds: still the handle or the request that the name was bound to
abbrev pub live_id : State → Option Id → Option (Id × Content)
live_id s None = None
live_id s (Some id) = with_id id (held s.arena.slots id)

abbrev pub live : State → Var → Option (Id × Content)
live s v = live_id s (named s v).id

-- the handle of a name, for an op on handles: ESTALE if the name isn't live, EKIND if it is a request's
abbrev pub handle_at : Id → Content → Result (Id × HandleRecord) Code
handle_at id (content.Handle h) = Ok (id, h)
handle_at id (content.Request r) = Err Ekind

abbrev pub as_handle : Option (Id × Content) → Result (Id × HandleRecord) Code
as_handle None = Err Estale
as_handle (Some t) = handle_at t.0 t.1

abbrev pub live_handle : State → Var → Result (Id × HandleRecord) Code
live_handle s v = as_handle (live s v)

-- the request of a name, for an op on requests: ESTALE if the name isn't live, EKIND if it is a handle's
abbrev pub request_at : Id → Content → Result (Id × Request) Code
request_at id (content.Handle h) = Err Ekind
request_at id (content.Request r) = Ok (id, r)

abbrev pub as_request : Option (Id × Content) → Result (Id × Request) Code
as_request None = Err Estale
as_request (Some t) = request_at t.0 t.1

abbrev pub live_request : State → Var → Result (Id × Request) Code
live_request s v = as_request (live s v)

-- ---- lists

-- the kind of the handles that a section walks
abbrev pub kind_as : WatcherKind → Kind
kind_as watcher.Idle = kind.Idle
kind_as watcher.Prepare = kind.Prepare
kind_as watcher.Check = kind.Check
kind_as watcher.Async = kind.Async

-- the handles of a kind that a section walks
abbrev pub watched : State → WatcherKind → Walk Id
watched s kind = those_of kind s.watchers

abbrev pub with_watched : State → WatcherKind → Walk Id → State
with_watched s kind w = record s { watchers = with_those_of kind w s.watchers }

-- the loop's time is set to the clock (uv_update_time)
abbrev pub refreshed : State → State
refreshed s = record s { time = s.clock }
