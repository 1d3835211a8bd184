-- The text of a script, and of its ops.
use Rattle.std.specs.Prelude.{ℕ, ◌+◌, Bool, true, false, List, [], ◌∷◌, ◌++◌, map, Option, Some, None, slice_get, codes, decimal}
use Rattle.uv_ids.specs.declared.id.Var.{Var}
use Rattle.uv_ids.specs.declared.seen.Callback.{Callback}
use Rattle.uv_ids.specs.declared.seen.Callback.TheVariants as callback
use Rattle.uv_ids.specs.declared.order.Order.{Order}
use Rattle.uv_ids.specs.Words.{kind_word, mode_word, order_word}
use Rattle.uv_script.specs.declared.op.Op.{Op}
use Rattle.uv_script.specs.declared.op.Op.TheVariants as op
use Rattle.uv_script.specs.declared.op.MainOp.{MainOp}
use Rattle.uv_script.specs.declared.op.MainOp.TheVariants as main
use Rattle.uv_script.specs.declared.op.CallbackLine.{CallbackLine}
use Rattle.uv_script.specs.declared.size.ArenaSize.{ArenaSize}
use Rattle.uv_ids.specs.declared.thread_line.ThreadLine.{ThreadLine}
use Rattle.uv_script.specs.Program.{Program, lines_in, arena_size, worker_count, order_of, has_io, from_heap}
use Rattle.uv_work.specs.Tasks.{text_of}

abbrev pub text_or_none : Option (List ℕ) → List ℕ
text_or_none (Some name) = name
text_or_none None = []

-- a name as it was declared
abbrev pub name_text : List (List ℕ) → Var → List ℕ
name_text names v = text_or_none (slice_get names v.0)

-- the text of a task, behind a space; nothing where it is empty
abbrev pub task_text : List ℕ → List ℕ
task_text [] = []
task_text (b ∷ bs) = codes " " ++ b ∷ bs

-- an op, with a space in front of each field but the first
abbrev pub op_text : List (List ℕ) → Op → List ℕ
op_text names (op.Init v kind) = codes "init " ++ name_text names v ++ codes " " ++ kind_word kind
op_text names (op.Start v timeout repeat) = codes "start " ++ name_text names v ++ codes " " ++ decimal timeout ++ codes " " ++ decimal repeat
op_text names (op.StartWatcher v) = codes "start " ++ name_text names v
op_text names (op.Stop v) = codes "stop " ++ name_text names v
op_text names (op.Again v) = codes "again " ++ name_text names v
op_text names (op.SetRepeat v repeat) = codes "repeat " ++ name_text names v ++ codes " " ++ decimal repeat
op_text names (op.DueIn v) = codes "due " ++ name_text names v
op_text names (op.Ref v) = codes "ref " ++ name_text names v
op_text names (op.Unref v) = codes "unref " ++ name_text names v
op_text names (op.HasRef v) = codes "hasref " ++ name_text names v
op_text names (op.IsActive v) = codes "active " ++ name_text names v
op_text names (op.Close v) = codes "close " ++ name_text names v
op_text names (op.IsClosing v) = codes "closing " ++ name_text names v
op_text names (op.Send v) = codes "send " ++ name_text names v
op_text names (op.Queue v t) = codes "queue " ++ name_text names v ++ codes " " ++ decimal t.rounds ++ task_text (text_of t)
op_text names (op.Cancel v) = codes "cancel " ++ name_text names v
op_text names op.CloseLoop = codes "closeloop"
op_text names op.StopLoop = codes "stoploop"
op_text names op.UpdateTime = codes "updatetime"
op_text names op.Now = codes "now"
op_text names op.IsAlive = codes "alive"
op_text names op.Timeout = codes "timeout"

-- the lines of a script, in their order: the order of a run's phases, that it has handles of I/O and that due timers are called from their
-- heap where it says so, the number of workers, the size of the arena, the names, the main program, and then for each name the lines of its
-- callbacks, and last what threads send

abbrev pub order_line : Order → List ℕ
order_line o = codes "order " ++ order_word o

abbrev pub io_line : List ℕ
io_line = codes "io"

abbrev pub heap_line : List ℕ
heap_line = codes "timers heap"

-- a line that stands only where it was said
abbrev pub line_if : Bool → List ℕ → List (List ℕ)
line_if true line = line ∷ []
line_if false line = []

abbrev pub workers_line : ℕ → List ℕ
workers_line n = codes "workers " ++ decimal n

abbrev pub slots_line : ArenaSize → List ℕ
slots_line size = codes "slots " ++ decimal size.slots ++ codes " " ++ decimal size.last_generation

abbrev pub var_line : List ℕ → List ℕ
var_line name = codes "var " ++ name

abbrev pub main_line : List (List ℕ) → MainOp → List ℕ
main_line names (main.Op o) = codes "main " ++ op_text names o
main_line names (main.Run mode) = codes "main run " ++ mode_word mode

-- the text of an op, behind the call that it is for, if it is for one alone
abbrev pub call_text : Option ℕ → List ℕ → List ℕ
call_text None text = text
call_text (Some k) text = codes "@" ++ decimal k ++ codes " " ++ text

abbrev pub front_text : Callback → List ℕ
front_text callback.Handle = codes "on "
front_text callback.After = codes "after "
front_text callback.Close = codes "closed "

abbrev pub callback_line : List (List ℕ) → Callback → Var → CallbackLine → List ℕ
callback_line names kind v line = front_text kind ++ name_text names v ++ codes " " ++ call_text line.call (op_text names line.op)

abbrev pub name_lines : Program → Var → List (List ℕ)
name_lines p v = map (callback_line p.names callback.Handle v) (lines_in p callback.Handle v)
    ++ map (callback_line p.names callback.After v) (lines_in p callback.After v)
    ++ map (callback_line p.names callback.Close v) (lines_in p callback.Close v)

-- those of these names, which are numbered from n on
abbrev pub callback_lines : Program → ℕ → List (List ℕ) → List (List ℕ)
callback_lines p n [] = []
callback_lines p n (name ∷ names) = name_lines p (record { 0 = n }) ++ callback_lines p (n + 1) names

abbrev pub thread_line : List (List ℕ) → ThreadLine → List ℕ
thread_line names line = codes "thread " ++ decimal line.thread ++ codes " send " ++ name_text names line.name

abbrev pub setting_lines : Program → List (List ℕ)
setting_lines p = order_line (order_of p) ∷ line_if (has_io p) io_line ++ line_if (from_heap p) heap_line
    ++ workers_line (worker_count p) ∷ slots_line (arena_size p) ∷ []

abbrev pub script_lines : Program → List (List ℕ)
script_lines p = setting_lines p
    ++ map var_line p.names ++ map (main_line p.names) p.main ++ callback_lines p 0 p.names ++ map (thread_line p.names) p.threads

-- each line with its line feed
abbrev pub lines_text : List (List ℕ) → List ℕ
lines_text [] = []
lines_text (line ∷ lines) = line ++ 10 ∷ lines_text lines

-- the text of a script
unfoldable pub script_text : Program → List ℕ
script_text p = lines_text (script_lines p)
