-- How the reader reads, as functions of lists. They serve private clauses; that they agree with the grammar is proved.
use Rattle.std.specs.Prelude.{◌≡◌, ℕ, ◌&&◌, ◌||◌, ◌==◌, ◌<◌, Bool, true, not, nat_le, nat_lt, List, [], ◌∷◌, length, Contains, Option, Some, None, Result, Ok, Err, option_and_then, option_map, is_none, codes, if◌then◌else◌}
use Rattle.std.specs.List.{position}
use Rattle.std.specs.Str.{bytes_eq}
use Rattle.uv_ids.specs.Limits.{MOST_WORKERS}
use Rattle.uv_ids.specs.declared.id.Var.{Var}
use Rattle.uv_ids.specs.declared.phase.Kind.{Kind}
use Rattle.uv_ids.specs.declared.phase.Kind.TheVariants as kind
use Rattle.uv_ids.specs.declared.seen.Callback.{Callback}
use Rattle.uv_ids.specs.declared.seen.Callback.TheVariants as callback
use Rattle.uv_ids.specs.declared.phase.Mode.{Mode}
use Rattle.uv_ids.specs.declared.phase.Mode.TheVariants as mode
use Rattle.uv_ids.specs.declared.order.Order.{Order}
use Rattle.uv_ids.specs.declared.order.Order.TheVariants as order
use Rattle.uv_ids.specs.declared.fault.Fault.{Fault}
use Rattle.uv_ids.specs.declared.fault.Fault.TheVariants as fault
use Rattle.uv_script.specs.declared.op.Op.{Op}
use Rattle.uv_script.specs.declared.op.Op.TheVariants as op
use Rattle.uv_script.specs.declared.op.MainOp.TheVariants as main
use Rattle.uv_script.specs.declared.settings.Settings.{Settings}
use Rattle.uv_script.specs.Grammar.{Statement, Declares, InMain, InCallback, Sizes, HasWorkers, Orders, HasIo, FromHeap, InThread, Says, asks_io, MayMake, Draft, with_statement, with_said}
use Rattle.uv_script.specs.Limits.{MOST_SLOTS, MOST_NAMES, MOST_LINES, MOST_SENDERS}
use Rattle.uv_script.specs.Lines.{fields_of, rest_of, IsLine}
use Rattle.uv_script.specs.Program.{Program, line_count, has_io, IsSlotCount, LAST_GENERATION, IsWorkerCount, IsThreadLine}
use Rattle.uv_script.specs.Checks.{is_line, is_skipped, is_name, number_of}
use Rattle.uv_work.specs.TaskReading.{task_of}
use Rattle.uv_script.specs.Words.{IsName}

infixl 10 ◌>>=◌
abbrev pub ◌>>=◌ : {A B : Type 0} → Option A → (A → Option B) → Option B
o >>= f = option_and_then f o

-- the first field, and those after it
abbrev pub first_of : List (List ℕ) → Option (List ℕ × List (List ℕ))
first_of [] = None
first_of (field ∷ fields) = Some (field, fields)

-- nothing, where no field is left
abbrev pub none_left : List (List ℕ) → Option (Unit {0})
none_left [] = Some tt
none_left (field ∷ fields) = None

-- the number of a declared name
unfoldable pub place_of : List (List ℕ) → List ℕ → Option Var
place_of names name = option_map (λ n. record { 0 = n }) (position (bytes_eq name) names)

unfoldable pub kind_of : List ℕ → Option Kind
kind_of word =
    if bytes_eq word (codes "timer") then Some kind.Timer
    else if bytes_eq word (codes "idle") then Some kind.Idle
    else if bytes_eq word (codes "prepare") then Some kind.Prepare
    else if bytes_eq word (codes "check") then Some kind.Check
    else if bytes_eq word (codes "async") then Some kind.Async
    else if bytes_eq word (codes "io") then Some kind.Io
    else None

unfoldable pub mode_of : List ℕ → Option Mode
mode_of word =
    if bytes_eq word (codes "default") then Some mode.Default
    else if bytes_eq word (codes "once") then Some mode.Once
    else if bytes_eq word (codes "nowait") then Some mode.Nowait
    else None

-- the order of a version of libuv
unfoldable pub version_of : List ℕ → Option Order
version_of word =
    if bytes_eq word (codes "1.44") then Some order.V144
    else if bytes_eq word (codes "1.45") then Some order.V145
    else None

-- ops, behind their words
unfoldable pub init_of : List (List ℕ) → List (List ℕ) → Option Op
init_of names fields = do
  name ← first_of fields
  v ← place_of names name.0
  kind ← first_of name.1
  k ← kind_of kind.0
  end ← none_left kind.1
  Some (op.Init v k)

-- a timer's start, from its timeout on
unfoldable pub timer_start_of : Var → List ℕ → List (List ℕ) → Option Op
timer_start_of v timeout fields = do
  t ← number_of timeout
  repeat ← first_of fields
  r ← number_of repeat.0
  end ← none_left repeat.1
  Some (op.Start v t r)

-- a start is a timer's where more than the name is left
abbrev pub start_by : Var → List (List ℕ) → Option Op
start_by v [] = Some (op.StartWatcher v)
start_by v (timeout ∷ fields) = timer_start_of v timeout fields

unfoldable pub start_of : List (List ℕ) → List (List ℕ) → Option Op
start_of names fields = do
  name ← first_of fields
  v ← place_of names name.0
  start_by v name.1

unfoldable pub repeat_of : List (List ℕ) → List (List ℕ) → Option Op
repeat_of names fields = do
  name ← first_of fields
  v ← place_of names name.0
  repeat ← first_of name.1
  r ← number_of repeat.0
  end ← none_left repeat.1
  Some (op.SetRepeat v r)

-- the text of a task, which is the rest of the line; it isn't empty where fields are left
abbrev pub filled : List ℕ → Option (List ℕ)
filled [] = None
filled (b ∷ bs) = Some (b ∷ bs)

abbrev pub text_by : Option (List ℕ) → Option (List ℕ)
text_by None = Some []
text_by (Some rest) = filled rest

unfoldable pub queue_of : List (List ℕ) → List (List ℕ) → Option Op
queue_of names fields = do
  name ← first_of fields
  v ← place_of names name.0
  rounds ← first_of name.1
  r ← number_of rounds.0
  text ← text_by (rest_of rounds.1)
  t ← task_of r text
  Some (op.Queue v t)

-- an op of a word alone
unfoldable pub bare_op : List ℕ → Option Op
bare_op word =
    if bytes_eq word (codes "stoploop") then Some op.StopLoop
    else if bytes_eq word (codes "updatetime") then Some op.UpdateTime
    else if bytes_eq word (codes "now") then Some op.Now
    else if bytes_eq word (codes "alive") then Some op.IsAlive
    else if bytes_eq word (codes "timeout") then Some op.Timeout
    else None

-- an op of a word and a name; a start is read apart
unfoldable pub named_op : List ℕ → Var → Option Op
named_op word v =
    if bytes_eq word (codes "stop") then Some (op.Stop v)
    else if bytes_eq word (codes "again") then Some (op.Again v)
    else if bytes_eq word (codes "due") then Some (op.DueIn v)
    else if bytes_eq word (codes "ref") then Some (op.Ref v)
    else if bytes_eq word (codes "unref") then Some (op.Unref v)
    else if bytes_eq word (codes "hasref") then Some (op.HasRef v)
    else if bytes_eq word (codes "active") then Some (op.IsActive v)
    else if bytes_eq word (codes "close") then Some (op.Close v)
    else if bytes_eq word (codes "closing") then Some (op.IsClosing v)
    else if bytes_eq word (codes "send") then Some (op.Send v)
    else if bytes_eq word (codes "cancel") then Some (op.Cancel v)
    else None

-- a name and nothing more
unfoldable pub name_alone : List (List ℕ) → List (List ℕ) → Option Var
name_alone names fields = do
  name ← first_of fields
  v ← place_of names name.0
  end ← none_left name.1
  Some v

-- whichever of both, by whether the word alone is an op
unfoldable pub short_op_of : List (List ℕ) → List (List ℕ) → List ℕ → Option Op → Option Op
short_op_of names fields word (Some o) = do
  end ← none_left fields
  Some o
short_op_of names fields word None = do
  v ← name_alone names fields
  named_op word v

-- an op by its word
unfoldable pub op_of : List (List ℕ) → List ℕ → List (List ℕ) → Option Op
op_of names word fields =
    if bytes_eq word (codes "init") then init_of names fields
    else if bytes_eq word (codes "start") then start_of names fields
    else if bytes_eq word (codes "repeat") then repeat_of names fields
    else if bytes_eq word (codes "queue") then queue_of names fields
    else short_op_of names fields word (bare_op word)

-- what stands behind `var`
unfoldable pub declaration_of : List (List ℕ) → List (List ℕ) → Option Statement
declaration_of names fields = do
  name ← first_of fields
  end ← none_left name.1
  if is_name name.0 && is_none (place_of names name.0) then Some (Declares name.0) else None

-- what stands behind `main run`
unfoldable pub run_of : List (List ℕ) → Option Statement
run_of fields = do
  word ← first_of fields
  m ← mode_of word.0
  end ← none_left word.1
  Some (InMain (main.Run m))

-- what stands behind `main closeloop`
unfoldable pub close_loop_of : List (List ℕ) → Option Statement
close_loop_of fields = do
  end ← none_left fields
  Some (InMain (main.Op op.CloseLoop))

-- what stands behind `main`
unfoldable pub main_by : List (List ℕ) → List ℕ → List (List ℕ) → Option Statement
main_by names word fields =
    if bytes_eq word (codes "run") then run_of fields
    else if bytes_eq word (codes "closeloop") then close_loop_of fields
    else option_map (λ o. InMain (main.Op o)) (op_of names word fields)

unfoldable pub main_of : List (List ℕ) → List (List ℕ) → Option Statement
main_of names fields = do
  word ← first_of fields
  main_by names word.0 word.1

-- what stands behind `@`
unfoldable pub call_of : List ℕ → Option ℕ
call_of digits = do
  k ← number_of digits
  if nat_le 1 k && nat_lt k 4294967296 then Some k else None

-- the digits of a field that begins with `@`
abbrev pub marked : List ℕ → Option (List ℕ)
marked [] = None
marked (b ∷ bs) = if b == 64 then Some bs else None

-- what stands behind the word of a callback and a name, in every call or in one
unfoldable pub in_calls_of : List (List ℕ) → Callback → Var → Option ℕ → List ℕ → List (List ℕ) → Option Statement
in_calls_of names kind v call word fields = option_map (λ o. InCallback kind v (record { call = call; op = o })) (op_of names word fields)

unfoldable pub in_call_of : List (List ℕ) → Callback → Var → List ℕ → List (List ℕ) → Option Statement
in_call_of names kind v digits fields = do
  k ← call_of digits
  word ← first_of fields
  in_calls_of names kind v (Some k) word.0 word.1

unfoldable pub calls_of : List (List ℕ) → Callback → Var → List ℕ → List (List ℕ) → Option (List ℕ) → Option Statement
calls_of names kind v word fields None = in_calls_of names kind v None word fields
calls_of names kind v word fields (Some digits) = in_call_of names kind v digits fields

-- what stands behind the word of a callback
unfoldable pub callback_of : List (List ℕ) → Callback → List (List ℕ) → Option Statement
callback_of names kind fields = do
  name ← first_of fields
  v ← place_of names name.0
  word ← first_of name.1
  calls_of names kind v word.0 word.1 (marked word.0)

-- the last generation, which may be left out
unfoldable pub last_of : List (List ℕ) → Option ℕ
last_of [] = Some LAST_GENERATION
last_of (last ∷ fields) = do
  g ← number_of last
  end ← none_left fields
  if nat_lt g 4294967296 then Some g else None

-- what stands behind `slots`
unfoldable pub size_of : List (List ℕ) → Option Statement
size_of fields = do
  slots ← first_of fields
  n ← number_of slots.0
  g ← last_of slots.1
  if nat_le 1 n && nat_le n MOST_SLOTS then Some (Sizes (record { slots = n; last_generation = g })) else None

-- what stands behind `workers`
unfoldable pub workers_of : List (List ℕ) → Option Statement
workers_of fields = do
  number ← first_of fields
  n ← number_of number.0
  end ← none_left number.1
  if nat_le 1 n && nat_le n MOST_WORKERS then Some (HasWorkers n) else None

-- what stands behind `order`
unfoldable pub orders_of : List (List ℕ) → Option Statement
orders_of fields = do
  version ← first_of fields
  o ← version_of version.0
  end ← none_left version.1
  Some (Orders o)

-- what stands behind `io`: nothing
unfoldable pub io_of : List (List ℕ) → Option Statement
io_of fields = do
  end ← none_left fields
  Some HasIo

-- what stands behind `timers`: the word `heap`
unfoldable pub timers_of : List (List ℕ) → Option Statement
timers_of fields = do
  word ← first_of fields
  end ← none_left word.1
  if bytes_eq word.0 (codes "heap") then Some FromHeap else None

-- what stands behind the number of a thread and the word of what it does
unfoldable pub sender_of : List (List ℕ) → ℕ → List (List ℕ) → Option Statement
sender_of names k fields = do
  v ← name_alone names fields
  if nat_lt k MOST_SENDERS then Some (InThread (record { thread = k; name = v })) else None

-- what stands behind `thread`: a thread only sends
unfoldable pub thread_of : List (List ℕ) → List (List ℕ) → Option Statement
thread_of names fields = do
  number ← first_of fields
  k ← number_of number.0
  word ← first_of number.1
  if bytes_eq word.0 (codes "send") then sender_of names k word.1 else None

-- what stands behind the word of a line that says what the loop runs on: how large it is, which threads there are, its order, that it has
-- handles of I/O, and how its timers are called
unfoldable pub setting_of : List (List ℕ) → List ℕ → List (List ℕ) → Option Statement
setting_of names word fields =
    if bytes_eq word (codes "slots") then size_of fields
    else if bytes_eq word (codes "workers") then workers_of fields
    else if bytes_eq word (codes "order") then orders_of fields
    else if bytes_eq word (codes "io") then io_of fields
    else if bytes_eq word (codes "timers") then timers_of fields
    else if bytes_eq word (codes "thread") then thread_of names fields
    else None

-- what a line's fields say
unfoldable pub statement_of : List (List ℕ) → List (List ℕ) → Option Statement
statement_of names fields = do
  word ← first_of fields
  if bytes_eq word.0 (codes "var") then declaration_of names word.1
      else if bytes_eq word.0 (codes "main") then main_of names word.1
      else if bytes_eq word.0 (codes "on") then callback_of names callback.Handle word.1
      else if bytes_eq word.0 (codes "after") then callback_of names callback.After word.1
      else if bytes_eq word.0 (codes "closed") then callback_of names callback.Close word.1
      else setting_of names word.0 word.1

-- whether there is room for one more line, and for one more name
abbrev pub has_room : Program → Statement → Bool
has_room p (Declares name) = nat_lt (line_count p) MOST_LINES && nat_lt (length p.names) MOST_NAMES
has_room p (InMain op) = nat_lt (line_count p) MOST_LINES
has_room p (InCallback kind v line) = nat_lt (line_count p) MOST_LINES
has_room p (Sizes size) = true
has_room p (HasWorkers n) = true
has_room p (Orders o) = true
has_room p HasIo = true
has_room p FromHeap = true
has_room p (InThread line) = nat_lt (line_count p) MOST_LINES

-- whether a setting is said for the first time
abbrev pub is_new : Settings → Statement → Bool
is_new said (Sizes size) = not said.slots
is_new said (HasWorkers n) = not said.workers
is_new said (Orders o) = not said.order
is_new said HasIo = not said.io
is_new said FromHeap = not said.timers
is_new said _ = true

-- whether a line that makes a handle of I/O stands behind the line `io`
abbrev pub may_make : Program → Statement → Bool
may_make p s = has_io p || not (asks_io s)

-- whether the statement may come next
abbrev pub may_come : Draft → Statement → Bool
may_come d s = is_new d.said s && (has_room d.program s && may_make d.program s)

-- what a statement needs beside room
abbrev pub IsSound : Program → Statement → Type 0
IsSound p (Declares name) = IsName name × (Contains p.names name → ⊥)
IsSound p (InMain op) = Unit {0}
IsSound p (InCallback kind v line) = v.0 < length p.names
IsSound p (Sizes size) = IsSlotCount size.slots
IsSound p (HasWorkers n) = IsWorkerCount n
IsSound p (Orders o) = Unit {0}
IsSound p HasIo = Unit {0}
IsSound p FromHeap = Unit {0}
IsSound p (InThread line) = IsThreadLine (length p.names) line

-- some line says this, and may say it there
pub record IsSaid (p : Program) (s : Statement) : Type 0 where
  pub line : List ℕ
  pub is : IsLine line
  pub says : Says p.names (fields_of line) s
  pub may : MayMake p s

-- the script after one more line
unfoldable pub after_line : Draft → List ℕ → Option Draft
after_line d line = if is_line line then (if is_skipped line then Some d else (do
  s ← statement_of d.program.names (fields_of line)
  if may_come d s then Some (record { program = with_statement d.program s; said = with_said d.said s }) else None))
    else None

-- what reading a line of this number answers
abbrev pub ReadsLine : Draft → List ℕ → ℕ → Result (Unit {0}) Fault → Draft → Type 0
ReadsLine d line number (Ok done) e = after_line d line ≡ Some e
ReadsLine d line number (Err (fault.Script bad)) e = (bad ≡ number) × (after_line d line ≡ None)
ReadsLine d line number (Err fault.Memory) e = Unit {0}
ReadsLine d line number (Err _) e = ⊥
