-- The grammar of scripts: which lines make which script.
use Rattle.std.specs.Prelude.{◌≡◌, ◌≢◌, ℕ, ◌+◌, ◌<◌, ◌≤◌, ◌^◌, Bool, true, false, List, [], ◌∷◌, ◌++◌, length, Contains, Option, Some, None, Result, Ok, Err, slice_set, codes}
use Rattle.std.specs.List.{join_with_byte}
use Rattle.uv_ids.specs.declared.id.Var.{Var}
use Rattle.uv_ids.specs.declared.phase.Kind.{Kind}
use Rattle.uv_ids.specs.declared.seen.Callback.{Callback}
use Rattle.uv_ids.specs.declared.seen.Callback.TheVariants as callback
use Rattle.uv_ids.specs.declared.order.Order.{Order}
use Rattle.uv_ids.specs.declared.phase.Mode.{Mode}
use Rattle.uv_ids.specs.declared.fault.Fault.{Fault}
use Rattle.uv_ids.specs.declared.fault.Fault.TheVariants as fault
use Rattle.uv_ids.specs.Words.{kind_word, mode_word, order_word}
use Rattle.uv_script.specs.declared.op.Op.{Op}
use Rattle.uv_script.specs.declared.op.Op.TheVariants as op
use Rattle.uv_script.specs.declared.op.MainOp.{MainOp}
use Rattle.uv_script.specs.declared.op.MainOp.TheVariants as main
use Rattle.uv_script.specs.declared.op.CallbackLine.{CallbackLine}
use Rattle.uv_script.specs.declared.size.ArenaSize.{ArenaSize}
use Rattle.uv_script.specs.declared.settings.Settings.{Settings}
use Rattle.uv_work.specs.declared.task.Task.{Task}
use Rattle.uv_ids.specs.declared.thread_line.ThreadLine.{ThreadLine}
use Rattle.uv_script.specs.Limits.{MOST_NAMES, MOST_LINES, MOST_SENDERS}
use Rattle.uv_script.specs.Lines.{lines_of, fields_of, IsLine, IsSkipped}
use Rattle.uv_script.specs.Program.{Program, no_callbacks, callbacks_of, with_line, line_count, makes_io, has_io, IsSlotCount, LAST_GENERATION, IsWorkerCount, DEFAULT_SIZE, DEFAULT_WORKERS, DEFAULT_ORDER, IsCounted}
use Rattle.uv_work.specs.Tasks.{text_of}
use Rattle.uv_script.specs.Words.{IsName, IsNumber, IsDeclared}

-- what a line says
pub data Statement : Type 0 where
  -- `var NAME`
  Declares : List ℕ → Statement
  -- `main OP`
  InMain : MainOp → Statement
  -- `on NAME [@k] OP`, `after NAME [@k] OP`, `closed NAME [@k] OP`
  InCallback : Callback → Var → CallbackLine → Statement
  -- `slots n [g]`
  Sizes : ArenaSize → Statement
  -- `workers n`
  HasWorkers : ℕ → Statement
  -- `order VERSION`
  Orders : Order → Statement
  -- `io`
  HasIo : Statement
  -- `timers heap`
  FromHeap : Statement
  -- `thread k send NAME`
  InThread : ThreadLine → Statement

-- the word of an op that says no more than a name, and the name's number
abbrev pub named_word : Op → Option (List ℕ × Var)
named_word (op.StartWatcher v) = Some (codes "start", v)
named_word (op.Stop v) = Some (codes "stop", v)
named_word (op.Again v) = Some (codes "again", v)
named_word (op.DueIn v) = Some (codes "due", v)
named_word (op.Ref v) = Some (codes "ref", v)
named_word (op.Unref v) = Some (codes "unref", v)
named_word (op.HasRef v) = Some (codes "hasref", v)
named_word (op.IsActive v) = Some (codes "active", v)
named_word (op.Close v) = Some (codes "close", v)
named_word (op.IsClosing v) = Some (codes "closing", v)
named_word (op.Send v) = Some (codes "send", v)
named_word (op.Cancel v) = Some (codes "cancel", v)
named_word _ = None

-- the word of an op that says nothing more, and stands anywhere
abbrev pub bare_word : Op → Option (List ℕ)
bare_word op.StopLoop = Some (codes "stoploop")
bare_word op.UpdateTime = Some (codes "updatetime")
bare_word op.Now = Some (codes "now")
bare_word op.IsAlive = Some (codes "alive")
bare_word op.Timeout = Some (codes "timeout")
bare_word _ = None

-- the fields of an op, where these names are declared
pub data IsOp (names : List (List ℕ)) (fields : List (List ℕ)) : Op → Type 0 where
  init : (name : List ℕ) (v : Var) (kind : Kind) → fields ≡ codes "init" ∷ name ∷ kind_word kind ∷ [] → IsDeclared names name v →
      IsOp names fields (op.Init v kind)
  start : (name : List ℕ) (v : Var) (timeout repeat : List ℕ) (t r : ℕ) → fields ≡ codes "start" ∷ name ∷ timeout ∷ repeat ∷ [] →
      IsDeclared names name v → IsNumber timeout t → IsNumber repeat r → IsOp names fields (op.Start v t r)
  repeat : (name : List ℕ) (v : Var) (number : List ℕ) (n : ℕ) → fields ≡ codes "repeat" ∷ name ∷ number ∷ [] → IsDeclared names name v →
      IsNumber number n → IsOp names fields (op.SetRepeat v n)
  queue : (name : List ℕ) (v : Var) (rounds : List ℕ) (t : Task) → fields ≡ codes "queue" ∷ name ∷ rounds ∷ [] → IsDeclared names name v →
      IsNumber rounds t.rounds → text_of t ≡ [] → IsOp names fields (op.Queue v t)
  -- the text is the rest of the line, in which a space may stand anywhere; it isn't empty
  queue_text : (name : List ℕ) (v : Var) (rounds : List ℕ) (t : Task) (rest : List (List ℕ)) → fields ≡ codes "queue" ∷ name ∷ rounds ∷ rest →
      IsDeclared names name v → IsNumber rounds t.rounds → text_of t ≡ join_with_byte 32 rest → text_of t ≢ [] → IsOp names fields (op.Queue v t)
  on_name : (o : Op) (word name : List ℕ) (v : Var) → named_word o ≡ Some (word, v) → fields ≡ word ∷ name ∷ [] → IsDeclared names name v →
      IsOp names fields o
  bare : (o : Op) (word : List ℕ) → bare_word o ≡ Some word → fields ≡ word ∷ [] → IsOp names fields o

-- the word of a callback's lines
abbrev pub callback_word : Callback → List ℕ
callback_word callback.Handle = codes "on"
callback_word callback.After = codes "after"
callback_word callback.Close = codes "closed"

-- the fields of a line, and what it says
pub data Says (names : List (List ℕ)) (fields : List (List ℕ)) : Statement → Type 0 where
  declares : (name : List ℕ) → fields ≡ codes "var" ∷ name ∷ [] → IsName name → (Contains names name → ⊥) → Says names fields (Declares name)
  in_main : (rest : List (List ℕ)) (op : Op) → fields ≡ codes "main" ∷ rest → IsOp names rest op → Says names fields (InMain (main.Op op))
  runs : (mode : Mode) → fields ≡ codes "main" ∷ codes "run" ∷ mode_word mode ∷ [] → Says names fields (InMain (main.Run mode))
  -- it stands in the main program only
  closes_loop : fields ≡ codes "main" ∷ codes "closeloop" ∷ [] → Says names fields (InMain (main.Op op.CloseLoop))
  in_callback : (kind : Callback) (name : List ℕ) (v : Var) (rest : List (List ℕ)) (op : Op) → fields ≡ callback_word kind ∷ name ∷ rest →
      IsDeclared names name v → IsOp names rest op → Says names fields (InCallback kind v (record { call = None; op = op }))
  -- with `@k` the op is done in the k-th call only
  in_call : (kind : Callback) (name : List ℕ) (v : Var) (number : List ℕ) (k : ℕ) (rest : List (List ℕ)) (op : Op) →
      fields ≡ callback_word kind ∷ name ∷ (64 ∷ number) ∷ rest → IsDeclared names name v → IsNumber number k → 1 ≤ k → k < 2 ^ 32 →
      IsOp names rest op → Says names fields (InCallback kind v (record { call = Some k; op = op }))
  sizes : (slots : List ℕ) (n : ℕ) → fields ≡ codes "slots" ∷ slots ∷ [] → IsNumber slots n → IsSlotCount n →
      Says names fields (Sizes (record { slots = n; last_generation = LAST_GENERATION }))
  -- with a last generation of its own
  sizes_to : (slots last : List ℕ) (n g : ℕ) → fields ≡ codes "slots" ∷ slots ∷ last ∷ [] → IsNumber slots n → IsSlotCount n → IsNumber last g →
      g < 2 ^ 32 → Says names fields (Sizes (record { slots = n; last_generation = g }))
  has_workers : (number : List ℕ) (n : ℕ) → fields ≡ codes "workers" ∷ number ∷ [] → IsNumber number n → IsWorkerCount n →
      Says names fields (HasWorkers n)
  orders : (o : Order) → fields ≡ codes "order" ∷ order_word o ∷ [] → Says names fields (Orders o)
  says_io : fields ≡ codes "io" ∷ [] → Says names fields HasIo
  says_heap : fields ≡ codes "timers" ∷ codes "heap" ∷ [] → Says names fields FromHeap
  in_thread : (number : List ℕ) (k : ℕ) (name : List ℕ) (v : Var) → fields ≡ codes "thread" ∷ number ∷ codes "send" ∷ name ∷ [] →
      IsNumber number k → k < MOST_SENDERS → IsDeclared names name v → Says names fields (InThread (record { thread = k; name = v }))

-- there is room for one more line, and for one more name; lines of settings don't count
abbrev pub HasRoom : Program → Statement → Type 0
HasRoom p (Declares name) = (line_count p < MOST_LINES) × (length p.names < MOST_NAMES)
HasRoom p (InMain op) = line_count p < MOST_LINES
HasRoom p (InCallback kind v line) = line_count p < MOST_LINES
HasRoom p (Sizes size) = Unit {0}
HasRoom p (HasWorkers n) = Unit {0}
HasRoom p (Orders o) = Unit {0}
HasRoom p HasIo = Unit {0}
HasRoom p FromHeap = Unit {0}
HasRoom p (InThread line) = line_count p < MOST_LINES

-- a setting is said once at most
abbrev pub IsNew : Settings → Statement → Type 0
IsNew said (Sizes size) = said.slots ≡ false
IsNew said (HasWorkers n) = said.workers ≡ false
IsNew said (Orders o) = said.order ≡ false
IsNew said HasIo = said.io ≡ false
IsNew said FromHeap = said.timers ≡ false
IsNew said _ = Unit {0}

-- the line's op makes a handle of I/O
abbrev pub asks_io : Statement → Bool
asks_io (InMain (main.Op o)) = makes_io o
asks_io (InCallback kind v line) = makes_io line.op
asks_io _ = false

-- such a line stands only behind the line `io`
abbrev pub MayMake : Program → Statement → Type 0
MayMake p s = asks_io s ≡ true → has_io p ≡ true

-- the script with what one more line says
abbrev pub with_statement : Program → Statement → Program
with_statement p (Declares name) = record p { names = p.names ++ name ∷ []; callbacks = p.callbacks ++ no_callbacks ∷ [] }
with_statement p (InMain op) = record p { main = p.main ++ op ∷ [] }
with_statement p (InCallback kind v line) = record p { callbacks = slice_set p.callbacks v.0 (with_line kind (callbacks_of p v) line) }
with_statement p (Sizes size) = record p { size = size }
with_statement p (HasWorkers n) = record p { workers = n }
with_statement p (Orders o) = record p { order = o }
with_statement p HasIo = record p { io = true }
with_statement p FromHeap = record p { heap = true }
with_statement p (InThread line) = record p { threads = p.threads ++ line ∷ [] }

-- which settings are said with one more line
abbrev pub with_said : Settings → Statement → Settings
with_said said (Sizes size) = record said { slots = true }
with_said said (HasWorkers n) = record said { workers = true }
with_said said (Orders o) = record said { order = true }
with_said said HasIo = record said { io = true }
with_said said FromHeap = record said { timers = true }
with_said said _ = said

-- a script as far as it was read: what its lines make, and which settings they said
pub record Draft : Type 0 where
  pub program : Program
  pub said : Settings

-- the line takes the script before it to the script after it
pub data Reads (d : Draft) (line : List ℕ) : Draft → Type 0 where
  skips : IsLine line → IsSkipped line → Reads d line d
  says : (s : Statement) → IsLine line → Says d.program.names (fields_of line) s → IsNew d.said s → HasRoom d.program s →
      MayMake d.program s → Reads d line (record { program = with_statement d.program s; said = with_said d.said s })

-- so do these lines, one after another
pub data ReadsAll : Draft → List (List ℕ) → Draft → Type 0 where
  none : {d : Draft} → ReadsAll d [] d
  one : {d e f : Draft} {line : List ℕ} {lines : List (List ℕ)} → Reads d line e → ReadsAll e lines f → ReadsAll d (line ∷ lines) f

-- the script of no line
abbrev pub blank : Program
blank = record {
  names = [];
  main = [];
  callbacks = [];
  size = DEFAULT_SIZE;
  workers = DEFAULT_WORKERS;
  order = DEFAULT_ORDER;
  io = false;
  heap = false;
  threads = [];
}

-- before the first line
abbrev pub unread : Draft
unread = record { program = blank; said = record { slots = false; workers = false; order = false; io = false; timers = false } }

-- before the first line of a text that takes no line `io` and no `timers heap`: both count as said, but the script has neither
abbrev pub io_said : Draft
io_said = record { program = blank; said = record { slots = false; workers = false; order = false; io = true; timers = true } }

-- before the first line of a text that takes no line `order` either: that counts as said, too
abbrev pub order_said : Draft
order_said = record { program = blank; said = record { slots = false; workers = false; order = true; io = true; timers = true } }

-- these lines go on from a draft, and then the script is this one
pub record MakesFrom (d : Draft) (lines : List (List ℕ)) (p : Program) : Type 0 where
  pub said : Settings
  pub read : ReadsAll d lines (record { program = p; said = said })

-- these lines are the script
abbrev pub Makes : List (List ℕ) → Program → Type 0
Makes lines p = MakesFrom unread lines p

-- the script was read from some lines
pub record WasRead (p : Program) : Type 0 where
  pub lines : List (List ℕ)
  pub makes : Makes lines p

-- so many of its lines count
pub record IsReadScript (lines : ℕ) (p : Program) : Type 0 where
  pub counted : IsCounted lines p
  pub read : WasRead p

-- the script of a text
abbrev pub IsScript : List ℕ → Program → Type 0
IsScript text p = Makes (lines_of text) p

-- the first line of the text, from 1, with which it can't go on from a draft: those before it do, and it goes on nowhere
pub record IsBadLineFrom (d : Draft) (text : List ℕ) (number : ℕ) : Type 0 where
  pub before : List (List ℕ)
  pub line : List ℕ
  pub after : List (List ℕ)
  pub lines_are : lines_of text ≡ before ++ line ∷ after
  pub counted : number ≡ length before + 1
  pub draft : Draft
  pub read : ReadsAll d before draft
  pub refused : (e : Draft) → Reads draft line e → ⊥

-- the text's first line outside the grammar, from 1
abbrev pub IsBadLine : List ℕ → ℕ → Type 0
IsBadLine text number = IsBadLineFrom unread text number

-- what may be answered to a text that goes on from a draft: its script, or its first bad line; or want of memory
abbrev pub ParsesFrom : Draft → List ℕ → Result Program Fault → Type 0
ParsesFrom d text (Ok p) = MakesFrom d (lines_of text) p
ParsesFrom d text (Err (fault.Script line)) = IsBadLineFrom d text line
ParsesFrom d text (Err fault.Memory) = Unit {0}
ParsesFrom d text (Err _) = ⊥

-- and to a text
abbrev pub Parses : List ℕ → Result Program Fault → Type 0
Parses text r = ParsesFrom unread text r
