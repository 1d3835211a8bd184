-- What the loop's next own step asks: who waits for a worker, and the clock.
use Rattle.std.specs.Prelude.{Bool, true, false, Option, Some, None, slice_get}
use Rattle.uv_ids.specs.declared.order.Order.{Order}
use Rattle.uv_ids.specs.declared.order.Order.TheVariants.{V144}
use Rattle.uv_script.specs.declared.op.Op.{Op}
use Rattle.uv_script.specs.declared.op.Op.TheVariants as op
use Rattle.uv_script.specs.declared.op.MainOp.{MainOp}
use Rattle.uv_script.specs.declared.op.MainOp.TheVariants as main
use Rattle.uv_script.specs.declared.op.CallbackLine.{CallbackLine}
use Rattle.uv_script.specs.Program.{Program, order_of, lines_in}
use Rattle.uv_model.specs.declared.place.Body.{Body}
use Rattle.uv_model.specs.declared.place.Run.{Run}
use Rattle.uv_model.specs.declared.place.Stage.{Stage}
use Rattle.uv_model.specs.declared.place.Stage.TheVariants.{Entry, Poll, Closing}
use Rattle.uv_model.specs.declared.place.Place.{Place}
use Rattle.uv_model.specs.declared.place.Place.TheVariants.{Main, Running}
use Rattle.uv_model.specs.State.{State}
use Rattle.uv_model.specs.Next.{refreshes}

-- ---- who waits for a worker

-- an op asks who waits: only a cancel does
abbrev pub cancels_op : Op → Bool
cancels_op (op.Cancel v) = true
cancels_op _ = false

abbrev pub cancels_line : Option CallbackLine → Bool
cancels_line None = false
cancels_line (Some line) = cancels_op line.op

abbrev pub cancels_main : Option MainOp → Bool
cancels_main None = false
cancels_main (Some (main.Run mode)) = false
cancels_main (Some (main.Op o)) = cancels_op o

-- where no body is under way, no section asks it
abbrev pub cancels_run : Program → Option Body → Bool
cancels_run p None = false
cancels_run p (Some body) = cancels_line (slice_get (lines_in p body.callback body.name) body.next)

abbrev pub cancels_at : Program → Place → Bool
cancels_at p (Main line) = cancels_main (slice_get p.main line)
cancels_at p (Running run) = cancels_run p run.body

-- the loop's next step is a cancel (uv_cancel); any other one is apart from what workers take
abbrev pub cancels : Program → State → Bool
cancels p s = cancels_at p s.place

-- ---- the clock

-- an op reads the clock: only an update of the loop's time does
abbrev pub op_reads_clock : Op → Bool
op_reads_clock op.UpdateTime = true
op_reads_clock _ = false

abbrev pub line_reads_clock : Option CallbackLine → Bool
line_reads_clock None = false
line_reads_clock (Some line) = op_reads_clock line.op

abbrev pub main_reads_clock : Order → Option MainOp → Bool
main_reads_clock order None = false
main_reads_clock order (Some (main.Run mode)) = refreshes order mode
main_reads_clock order (Some (main.Op o)) = op_reads_clock o

-- where no body is under way: the poll may read it, and so may a stage behind which timers may begin with the time refreshed
abbrev pub stage_reads_clock : Stage → Order → Bool
stage_reads_clock Entry V144 = true
stage_reads_clock Closing o = true
stage_reads_clock (Poll deadline) o = true
stage_reads_clock _ o = false

abbrev pub run_reads_clock : Program → Run → Option Body → Bool
run_reads_clock p run None = stage_reads_clock run.stage (order_of p)
run_reads_clock p run (Some body) = line_reads_clock (slice_get (lines_in p body.callback body.name) body.next)

abbrev pub place_reads_clock : Program → Place → Bool
place_reads_clock p (Main line) = main_reads_clock (order_of p) (slice_get p.main line)
place_reads_clock p (Running run) = run_reads_clock p run run.body

-- the loop's next step may read the clock
abbrev pub reads_clock : Program → State → Bool
reads_clock p s = place_reads_clock p s.place
