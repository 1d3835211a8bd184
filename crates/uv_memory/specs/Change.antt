-- What takes a change back that a step did to the memory, except its names and where it stands, by the kind of change.
use Rattle.std.specs.Prelude.{ℕ, Bool}
use Rattle.uv_records.specs.declared.handle.HandleRecord.{HandleRecord}
use Rattle.uv_arena.specs.declared.undo.PushUndo.{PushUndo}
use Rattle.uv_arena.specs.declared.undo.SpliceUndo.{SpliceUndo}
use Rattle.uv_handle.specs.declared.undo.RecordUndo.{RecordUndo}
use Rattle.uv_handle.specs.declared.undo.ListUndo.{ListUndo}
use Rattle.uv_handle.specs.declared.undo.DelistUndo.{DelistUndo}
use Rattle.uv_handle.specs.declared.undo.TakeUndo.{TakeUndo}
use Rattle.uv_timer.specs.declared.undo.TimerUndo.{TimerUndo}
use Rattle.uv_handle.specs.declared.undo.WalkUndo.{WalkUndo}
use Rattle.uv_work.specs.declared.request.Request.{Request}
use Rattle.uv_requests.specs.declared.undo.QueueUndo.{QueueUndo}
use Rattle.uv_requests.specs.declared.undo.TakeWorkUndo.{TakeWorkUndo}
use Rattle.uv_requests.specs.declared.undo.FinishUndo.{FinishUndo}
use Rattle.uv_requests.specs.declared.undo.CancelUndo.{CancelUndo}
use Rattle.uv_requests.specs.declared.undo.CollectWorkUndo.{CollectWorkUndo}
use Rattle.uv_memory.specs.declared.record.Added as added
use Rattle.uv_memory.specs.declared.record.Polled as polled

pub data Change : Type 0 where
  -- nothing was changed
  Nothing : Change
  -- the loop's time, the clock, whether the run is to stop, whether an idle handle was active as the iteration began, as they were
  Time : ℕ → Change
  Clock : ℕ → Change
  Stop : Bool → Change
  Idled : Bool → Change
  -- the loop's time, and whether an idle handle was active as the iteration began, as they were
  Iterated : ℕ → Bool → Change
  -- a handle was made
  Added : added.Added → Change
  -- a handle got another record; and was put on a list; and was taken off its list
  Edited : RecordUndo → Change
  Enlisted : ListUndo → Change
  Delisted : DelistUndo → Change
  -- a timer was started, stopped or called
  Timer : TimerUndo → Change
  -- a handle was taken off its list and the heap, and put on another list
  Moved : PushUndo → TimerUndo → Change
  -- a section began; and at the end of a poll
  Begun : SpliceUndo → Change
  Polled : polled.Polled → Change
  -- a watcher was called
  Walked : WalkUndo → Change
  -- a closing handle was freed, which had this record
  Closed : TakeUndo → HandleRecord → Change
  -- a request was queued, taken by a worker, finished by it, cancelled
  Queued : QueueUndo → Change
  Taken : TakeWorkUndo → Change
  Finished : FinishUndo → Change
  Cancelled : CancelUndo → Change
  -- a request that was done was freed, which was this
  Ended : CollectWorkUndo → Request → Change
