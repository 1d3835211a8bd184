-- A script, as its parts.
use Rattle.std.specs.Prelude.{◌≡◌, ℕ, ◌+◌, ◌<◌, ◌≤◌, ◌==◌, Bool, true, false, List, [], ◌∷◌, ◌++◌, Option, Some, None, option_map, unwrap_or, slice_get, length, sum_by, All, if◌then◌else◌}
use Rattle.uv_ids.specs.Limits.{MOST_WORKERS}
use Rattle.uv_ids.specs.declared.id.Var.{Var}
use Rattle.uv_ids.specs.declared.order.Order.{Order}
use Rattle.uv_ids.specs.declared.order.Order.TheVariants as orders
use Rattle.uv_ids.specs.declared.seen.Callback.{Callback}
use Rattle.uv_ids.specs.declared.seen.Callback.TheVariants as callback
use Rattle.uv_ids.specs.declared.seen.Site.{Site}
use Rattle.uv_ids.specs.declared.seen.Site.TheVariants as site
use Rattle.uv_ids.specs.declared.phase.Kind.TheVariants as kinds
use Rattle.uv_script.specs.declared.op.Op.{Op}
use Rattle.uv_script.specs.declared.op.Op.TheVariants as op
use Rattle.uv_script.specs.declared.op.MainOp.{MainOp}
use Rattle.uv_script.specs.declared.op.MainOp.TheVariants as main
use Rattle.uv_script.specs.declared.op.CallbackLine.{CallbackLine}
use Rattle.uv_script.specs.declared.size.ArenaSize.{ArenaSize}
use Rattle.uv_script.specs.Limits.{MOST_SLOTS, MOST_LINES, MOST_SENDERS}
use Rattle.uv_ids.specs.declared.thread_line.ThreadLine.{ThreadLine}

-- the lines of a name's callbacks
pub record Callbacks : Type 0 where
  -- of its handle callback
  pub handle : List CallbackLine
  -- of its request's after callback
  pub after : List CallbackLine
  -- of its close callback
  pub close : List CallbackLine

pub record Program : Type 0 where
  -- the declared names; a name's place in this list is its number
  pub names : List (List ℕ)
  -- the lines of the main program
  pub main : List MainOp
  -- for each name, the lines of its callbacks
  pub callbacks : List Callbacks
  -- how large the arena is
  pub size : ArenaSize
  -- how many workers the thread pool has
  pub workers : ℕ
  -- where the timers stand in an iteration of the loop
  pub order : Order
  -- handles of I/O may be made
  pub io : Bool
  -- due timers are called straight from their heap, and not collected first
  pub heap : Bool
  -- the lines of the senders' threads, as they came
  pub threads : List ThreadLine

abbrev pub no_callbacks : Callbacks
no_callbacks = record { handle = []; after = []; close = [] }

abbrev pub callbacks_of : Program → Var → Callbacks
callbacks_of p v = unwrap_or (slice_get p.callbacks v.0) no_callbacks

-- the lines of one of these
abbrev pub lines_of : Callback → Callbacks → List CallbackLine
lines_of callback.Handle c = c.handle
lines_of callback.After c = c.after
lines_of callback.Close c = c.close

-- these with one line more in one of them
abbrev pub with_line : Callback → Callbacks → CallbackLine → Callbacks
with_line callback.Handle c line = record c { handle = c.handle ++ line ∷ [] }
with_line callback.After c line = record c { after = c.after ++ line ∷ [] }
with_line callback.Close c line = record c { close = c.close ++ line ∷ [] }

-- the lines of a name's callback
abbrev pub lines_in : Program → Callback → Var → List CallbackLine
lines_in p kind v = lines_of kind (callbacks_of p v)

-- the op of a line of the main program; a run is none
abbrev pub main_op : Option MainOp → Option Op
main_op (Some (main.Op o)) = Some o
main_op (Some (main.Run mode)) = None
main_op None = None

-- the op at a place of the script
abbrev pub op_at : Program → Site → Option Op
op_at p (site.Main line) = main_op (slice_get p.main line)
op_at p (site.In kind v line) = option_map (λ (l : CallbackLine). l.op) (slice_get (lines_in p kind v) line)

-- the op makes a handle of I/O
abbrev pub makes_io : Op → Bool
makes_io (op.Init v kinds.Io) = true
makes_io _ = false

-- a line of a callback with no number is for every call, one with a number for that call
abbrev pub is_for : ℕ → Option ℕ → Bool
is_for call None = true
is_for call (Some k) = k == call

-- the first line for this call among these, the first of which has this number
abbrev pub next_line : ℕ → ℕ → List CallbackLine → Option ℕ
next_line call number [] = None
next_line call number (line ∷ lines) = if is_for call line.call then Some number else next_line call (number + 1) lines

abbrev pub callback_count : Callbacks → ℕ
callback_count c = length c.handle + length c.after + length c.close

-- the generation at which a slot that is freed is retired, where no line says it (own)
abbrev pub LAST_GENERATION : ℕ
LAST_GENERATION = 4294967295

-- how large the arena is where no line says it (own)
abbrev pub DEFAULT_SIZE : ArenaSize
DEFAULT_SIZE = record { slots = 1024; last_generation = LAST_GENERATION }

-- how large the script's arena is
abbrev pub arena_size : Program → ArenaSize
arena_size p = p.size

-- an arena has a slot at least
abbrev pub IsSlotCount : ℕ → Type 0
IsSlotCount n = (1 ≤ n) × (n ≤ MOST_SLOTS)

-- how many workers the thread pool has where no line says it, as in libuv
abbrev pub DEFAULT_WORKERS : ℕ
DEFAULT_WORKERS = 4

-- how many workers the script's thread pool has
abbrev pub worker_count : Program → ℕ
worker_count p = p.workers

-- how many workers a thread pool may have
abbrev pub IsWorkerCount : ℕ → Type 0
IsWorkerCount n = (1 ≤ n) × (n ≤ MOST_WORKERS)

-- the script with this number of workers
abbrev pub with_workers : ℕ → Program → Program
with_workers n p = record p { workers = n }

-- the order of a run's phases where no line says it: that of libuv from 1.45 on (own)
abbrev pub DEFAULT_ORDER : Order
DEFAULT_ORDER = orders.V145

-- the order of the phases of the script's runs
abbrev pub order_of : Program → Order
order_of p = p.order

-- whether the script may have handles of I/O: as the line `io` says (own)
abbrev pub has_io : Program → Bool
has_io p = p.io

-- whether due timers are called straight from their heap, as in libuv before 1.48: as the line `timers heap` says (own)
abbrev pub from_heap : Program → Bool
from_heap p = p.heap

-- a line of a sender's thread, where there are so many names: threads have numbers below 64 (own), and the name is declared
pub record IsThreadLine (names : ℕ) (line : ThreadLine) : Type 0 where
  pub thread : line.thread < MOST_SENDERS
  pub declared : line.name.0 < names

-- the lines that count: all but `order`, `io`, `timers heap`, `workers`, `slots`, empty ones and comments
abbrev pub line_count : Program → ℕ
line_count p = length p.names + length p.main + sum_by callback_count p.callbacks + length p.threads

-- the name that an op names
abbrev pub op_name : Op → Option Var
op_name (op.Init v kind) = Some v
op_name (op.Start v timeout repeat) = Some v
op_name (op.StartWatcher v) = Some v
op_name (op.Stop v) = Some v
op_name (op.Again v) = Some v
op_name (op.SetRepeat v repeat) = Some v
op_name (op.DueIn v) = Some v
op_name (op.Ref v) = Some v
op_name (op.Unref v) = Some v
op_name (op.HasRef v) = Some v
op_name (op.IsActive v) = Some v
op_name (op.Close v) = Some v
op_name (op.IsClosing v) = Some v
op_name (op.Send v) = Some v
op_name (op.Queue v task) = Some v
op_name (op.Cancel v) = Some v
op_name op.CloseLoop = None
op_name op.StopLoop = None
op_name op.UpdateTime = None
op_name op.Now = None
op_name op.IsAlive = None
op_name op.Timeout = None

-- what every script meets, beside what its names do: each name has its callbacks, lines, slots and workers are within their limits, each
-- line of a thread sends a declared name, each op names a declared one, and only a script that may have handles of I/O makes one
pub record IsWhole (p : Program) : Type 0 where
  pub callbacks : length p.callbacks ≡ length p.names
  pub few : line_count p ≤ MOST_LINES
  pub slots : IsSlotCount (arena_size p).slots
  pub workers : IsWorkerCount (worker_count p)
  pub threads : All (IsThreadLine (length p.names)) p.threads
  pub named : (at : Site) (o : Op) (v : Var) → op_at p at ≡ Some o → op_name o ≡ Some v → v.0 < length p.names
  pub io : (at : Site) (o : Op) → op_at p at ≡ Some o → makes_io o ≡ true → has_io p ≡ true

-- the script is whole, and this many of its lines count
pub record IsCounted (lines : ℕ) (p : Program) : Type 0 where
  pub whole : IsWhole p
  pub counted : lines ≡ line_count p
