-- The script in which each request asks for the same work.
use Rattle.std.specs.Prelude.{[], map, refl}
use Rattle.uv_script.specs.Program.{Program, Callbacks}
use Rattle.uv_script.specs.declared.op.Op.{Op}
use Rattle.uv_script.specs.declared.op.Op.TheVariants as op
use Rattle.uv_script.specs.declared.op.MainOp.{MainOp}
use Rattle.uv_script.specs.declared.op.MainOp.TheVariants as main
use Rattle.uv_script.specs.declared.op.CallbackLine.{CallbackLine}
use Rattle.uv_work.specs.TaskFields.{padded}
use Rattle.uv_work.specs.TaskReading.{rounds_within, text_within}
use Rattle.uv_work.specs.declared.task.Task.{Task}

-- one round over the empty text
abbrev pub least_task : Task
least_task = record { rounds = 1; len = 0; bytes = padded []; rounds_fit = rounds_within 1 [] refl; padded = text_within 1 [] refl }

-- an op that queues a request asks for that task; any other is as it was
abbrev pub same_op : Op → Op
same_op (op.Queue v task) = op.Queue v least_task
same_op o = o

-- so with the op of a callback's line
abbrev pub same_line : CallbackLine → CallbackLine
same_line l = record l { op = same_op l.op }

-- and of a line of the main program
abbrev pub same_main : MainOp → MainOp
same_main (main.Op o) = main.Op (same_op o)
same_main (main.Run mode) = main.Run mode

-- all lines of a name's callbacks
abbrev pub same_callbacks : Callbacks → Callbacks
same_callbacks c = record { handle = map same_line c.handle; after = map same_line c.after; close = map same_line c.close }

-- the script in which each request asks for that task; nothing else changes
abbrev pub same_work : Program → Program
same_work p = record p { main = map same_main p.main; callbacks = map same_callbacks p.callbacks }
