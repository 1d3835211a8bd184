-- A state that is changed: ids, slots, times, starts, names, who runs what and what is asked for, each by a function of its own.
use Rattle.std.specs.Prelude.{◌≡◌, ℕ, ◌+◌, List, Bool, Option, Some, None, slice_get, slice_set, nat_le}
use Rattle.uv_ids.specs.declared.due.Due.{Due}
use Rattle.uv_ids.specs.declared.event.Event.{Event}
use Rattle.uv_ids.specs.declared.event.Event.TheVariants.{Take, Finish, Cancel, Send, Io, Tick}
use Rattle.uv_ids.specs.declared.id.Id.{Id}
use Rattle.uv_ids.specs.declared.id.Var.{Var}
use Rattle.uv_ids.specs.declared.phase.Kind.{Kind}
use Rattle.uv_ids.specs.declared.seen.Seen.{Seen}
use Rattle.uv_model.specs.Next.{Moves}
use Rattle.uv_model.specs.State.{State}
use Rattle.uv_model.specs.declared.place.Body.{Body}
use Rattle.uv_model.specs.declared.place.Place.{Place}
use Rattle.uv_model.specs.declared.place.Place.TheVariants.{Main, Running}
use Rattle.uv_model.specs.declared.place.Run.{Run}
use Rattle.uv_model.specs.declared.place.Stage.{Stage}
use Rattle.uv_model.specs.declared.place.Stage.TheVariants.{Poll}
use Rattle.uv_records.specs.Slots.{Slots}
use Rattle.uv_records.specs.declared.handle.HandleRecord.{HandleRecord}
use Rattle.uv_records.specs.declared.named.Named.{Named}
use Rattle.uv_records.specs.declared.slot.Slot.{Slot}
use Rattle.uv_script.specs.Program.{Program, Callbacks}
use Rattle.uv_script.specs.declared.op.CallbackLine.{CallbackLine}
use Rattle.uv_script.specs.declared.op.MainOp.{MainOp}
use Rattle.uv_script.specs.declared.op.Op.{Op}
use Rattle.uv_work.specs.declared.content.Content.{Content}
use Rattle.uv_work.specs.declared.outcome.Outcome.{Outcome}
use Rattle.uv_work.specs.declared.request.Request.{Request}
use Rattle.uv_work.specs.declared.task.Task.{Task}
use Rattle.std.specs.Prelude.{map, option_map}
use Rattle.uv_ids.specs.declared.code.Answer.{Answer}
use Rattle.uv_ids.specs.declared.code.Answer.TheVariants as answer
use Rattle.uv_ids.specs.declared.seen.Site.{Site}
use Rattle.uv_ids.specs.declared.seen.Site.TheVariants as site
use Rattle.uv_ids.specs.declared.seen.Seen.TheVariants as seen
use Rattle.uv_script.specs.declared.op.Op.TheVariants as op
use Rattle.uv_script.specs.declared.op.MainOp.TheVariants as main
use Rattle.uv_script.specs.Program.{op_at}
use Rattle.uv_records.specs.Walks.{Walk}
use Rattle.uv_work.specs.declared.content.Content.TheVariants as content
use Rattle.uv_model.specs.Limits.{LATEST}
use Rattle.uv_model.specs.State.{Watchers}
use Rattle.uv_model.specs.Next.{Next, Refuses}

-- what a step does, with another state for the one that it leads to
abbrev pub state_map : (State → State) → Next → Next
state_map f (Moves s line) = Moves (f s) line
state_map f (Refuses why) = Refuses why

-- and with another line for its own
abbrev pub next_map : (State → State) → (Seen → Seen) → Next → Next
next_map f g (Moves s line) = Moves (f s) (option_map g line)
next_map f g (Refuses why) = Refuses why

-- what becomes of the work that requests ask for
pub record Work : Type 0 where
  -- of a task, of what a request came to, and of the digest that its callback tells
  pub task : Task → Task
  pub outcome : Outcome → Outcome
  pub digest : Option (List ℕ) → Option (List ℕ)
  -- of the script's lines, which ask for it
  pub main : List MainOp → List MainOp
  pub callbacks : List Callbacks → List Callbacks

-- it stays
abbrev pub same : Work
same = record { task = λ t. t; outcome = λ o. o; digest = λ d. d; main = λ ops. ops; callbacks = λ cs. cs }

-- what becomes of times, and of the numbers of starts
pub record Times : Type 0 where
  -- when a timer is due: in the order of timers, and in the record of a handle, by whether it is active and by its kind
  pub due : Due → Due
  pub due_in : Bool → Kind → Due → Due
  -- the loop's time, and the number of the next start
  pub time : ℕ → ℕ
  pub start : ℕ → ℕ

-- they stay
abbrev pub same_times : Times
same_times = record { due = λ due. due; due_in = λ active k due. due; time = λ n. n; start = λ n. n }

pub record Change : Type 0 where
  -- names and ids
  pub var : Var → Var
  pub id : Id → Id
  -- what becomes of all slots, and of the free ones
  pub slots : List (Slot Content) → List (Slot Content)
  pub free : List ℕ → List ℕ
  pub times : Times
  -- the clock
  pub clock : ℕ → ℕ
  -- what names are bound to and how often they were called; the call that a body belongs to
  pub names : List Named → List Named
  pub count : ℕ → ℕ
  -- who waits for a worker, what the workers run, and who is done
  pub waits : List Id → List Id
  pub runs : List (Option Id) → List (Option Id)
  pub ends : List Id → List Id
  -- what requests ask for
  pub work : Work

-- none
abbrev pub unchanged : Change
unchanged = record {
  var = λ v. v;
  id = λ x. x;
  slots = λ slots. slots;
  free = λ ns. ns;
  times = same_times;
  clock = λ n. n;
  names = λ ns. ns;
  count = λ n. n;
  waits = map (λ x. x);
  runs = λ rs. rs;
  ends = map (λ x. x);
  work = same;
}

module _ (c : Change) where
  abbrev pub changed_handle : HandleRecord → HandleRecord
  changed_handle h = record h { name = c.var h.name; due = c.times.due_in h.active h.kind h.due }

  abbrev pub changed_request : Request → Request
  changed_request r = record { name = c.var r.name; task = c.work.task r.task; outcome = c.work.outcome r.outcome }

  abbrev pub changed_content : Content → Content
  changed_content (content.Handle h) = content.Handle (changed_handle h)
  changed_content (content.Request r) = content.Request (changed_request r)

  abbrev pub changed_arena : Slots Content → Slots Content
  changed_arena a = record a { slots = c.slots a.slots; free = c.free a.free }

  abbrev pub changed_walk : Walk Id → Walk Id
  changed_walk w = record { list = map c.id w.list; yet = map c.id w.yet }

  abbrev pub changed_watchers : Watchers → Watchers
  changed_watchers all = record {
    idle = changed_walk all.idle;
    prepare = changed_walk all.prepare;
    check = changed_walk all.check;
    async = changed_walk all.async;
  }

  abbrev pub changed_entry : Due × Id → Due × Id
  changed_entry t = (c.times.due t.0, c.id t.1)

  abbrev pub changed_body : Body → Body
  changed_body b = record b { name = c.var b.name; call = c.count b.call }

  -- only a poll has a time at which it is over
  abbrev pub changed_stage : Stage → Stage
  changed_stage (Poll deadline) = Poll (option_map c.times.time deadline)
  changed_stage stage = stage

  abbrev pub changed_run : Run → Run
  changed_run run = record run { stage = changed_stage run.stage; body = option_map changed_body run.body }

  abbrev pub changed_place : Place → Place
  changed_place (Main line) = Main line
  changed_place (Running run) = Running (changed_run run)

  abbrev pub changed : State → State
  changed s = record s {
    place = changed_place s.place;
    names = c.names s.names;
    arena = changed_arena s.arena;
    timers = map changed_entry s.timers;
    ready = map c.id s.ready;
    watchers = changed_watchers s.watchers;
    closing = changed_walk s.closing;
    waiting = c.waits s.waiting;
    running = c.runs s.running;
    done = record { list = c.ends s.done.list; yet = map c.id s.done.yet };
    time = c.times.time s.time;
    clock = c.clock s.clock;
    next_start = c.times.start s.next_start;
  }

  -- who is live
  abbrev pub changed_live : Id × Content → Id × Content
  changed_live t = (c.id t.0, changed_content t.1)

  -- ---- the script, where it names what is named anew

  abbrev pub changed_op : Op → Op
  changed_op (op.Init v k) = op.Init (c.var v) k
  changed_op (op.Queue v task) = op.Queue (c.var v) (c.work.task task)
  changed_op (op.Cancel v) = op.Cancel (c.var v)
  changed_op (op.Start v timeout repeat) = op.Start (c.var v) timeout repeat
  changed_op (op.StartWatcher v) = op.StartWatcher (c.var v)
  changed_op (op.Stop v) = op.Stop (c.var v)
  changed_op (op.Again v) = op.Again (c.var v)
  changed_op (op.SetRepeat v repeat) = op.SetRepeat (c.var v) repeat
  changed_op (op.DueIn v) = op.DueIn (c.var v)
  changed_op (op.Close v) = op.Close (c.var v)
  changed_op (op.Ref v) = op.Ref (c.var v)
  changed_op (op.Unref v) = op.Unref (c.var v)
  changed_op (op.HasRef v) = op.HasRef (c.var v)
  changed_op (op.IsActive v) = op.IsActive (c.var v)
  changed_op (op.IsClosing v) = op.IsClosing (c.var v)
  changed_op (op.Send v) = op.Send (c.var v)
  changed_op o = o

  abbrev pub changed_callback : CallbackLine → CallbackLine
  changed_callback l = record l { op = changed_op l.op }

  abbrev pub changed_main : MainOp → MainOp
  changed_main (main.Op o) = main.Op (changed_op o)
  changed_main (main.Run mode) = main.Run mode

  -- the script itself
  abbrev pub changed_program : Program → Program
  changed_program p = record p { main = c.work.main p.main; callbacks = c.work.callbacks p.callbacks }

  abbrev pub changed_event : Event → Event
  changed_event (Cancel v) = Cancel (c.var v)
  changed_event (Send v) = Send (c.var v)
  changed_event (Io v) = Io (c.var v)
  changed_event e = e

  abbrev pub changed_site : Site → Site
  changed_site (site.Main line) = site.Main line
  changed_site (site.In kind v line) = site.In kind (c.var v) line

  -- what comes from outside comes alike: the clock goes on, and a worker is found
  abbrev pub Comes : State → Event → Type 0
  Comes s (Take k) = (slice_get (c.runs s.running) k ≡ option_map (option_map c.id) (slice_get s.running k))
      × ((x : Option Id) → slice_set (c.runs s.running) k (option_map c.id x) ≡ c.runs (slice_set s.running k x))
  Comes s (Finish k) = (slice_get (c.runs s.running) k ≡ option_map (option_map c.id) (slice_get s.running k))
      × ((x : Option Id) → slice_set (c.runs s.running) k (option_map c.id x) ≡ c.runs (slice_set s.running k x))
  Comes s (Tick ms) = (c.clock (s.clock + ms) ≡ c.clock s.clock + ms) × (nat_le (c.clock s.clock + ms) LATEST ≡ nat_le (s.clock + ms) LATEST)
  Comes s e = Unit {0}

  -- ---- lines, and what a step does

  -- an op's answer is an id, or with `now` a time
  abbrev pub changed_answer : Answer → Option Op → Answer
  changed_answer (answer.Id id) o = answer.Id (c.id id)
  changed_answer (answer.Cancelled id) o = answer.Cancelled (c.id id)
  changed_answer (answer.Number n) (Some op.Now) = answer.Number (c.times.time n)
  changed_answer a o = a

  abbrev pub changed_line : Program → Seen → Seen
  changed_line p (seen.Op at a) = seen.Op (changed_site at) (changed_answer a (op_at p at))
  changed_line p (seen.Call v id) = seen.Call (c.var v) (c.id id)
  changed_line p (seen.Io v id) = seen.Io (c.var v) (c.id id)
  changed_line p (seen.After digest v id) = seen.After (c.work.digest digest) (c.var v) (c.id id)
  changed_line p (seen.Closed v id) = seen.Closed (c.var v) (c.id id)
  changed_line p (seen.Take worker v id) = seen.Take worker (c.var v) (c.id id)
  changed_line p (seen.Finish worker v id) = seen.Finish worker (c.var v) (c.id id)
  changed_line p (seen.Cancel v a) = seen.Cancel (c.var v) (changed_answer a None)
  changed_line p (seen.Send v code) = seen.Send (c.var v) code
  changed_line p line = line
