-- What takes a change of a request back, and when that may be asked: where all is as the change left it.
use Rattle.std.specs.Prelude.{ℕ, ◌<◌, length, Option, Some, None, slice_set}
use Rattle.uv_ids.specs.declared.id.Id.{Id}
use Rattle.uv_arena.specs.declared.undo.SpliceUndo.{SpliceUndo}
use Rattle.uv_arena.specs.Image.{Image}
use Rattle.uv_arena.specs.Undo.{insert_undone, remove_undone, set_undone, push_undone, unlink_undone, splice_undone, CanUndoInsert, CanUndoRemove, CanUndoSet, CanUndoPush, CanUndoUnlink, CanUndoSplice}
use Rattle.uv_work.specs.declared.request.Request.{Request}
use Rattle.uv_work.specs.Requests.{reopened}
use Rattle.uv_requests.specs.declared.undo.QueueUndo.{QueueUndo}
use Rattle.uv_requests.specs.declared.undo.TakeWorkUndo.{TakeWorkUndo}
use Rattle.uv_requests.specs.declared.undo.FinishUndo.{FinishUndo}
use Rattle.uv_requests.specs.declared.undo.CancelUndo.{CancelUndo}
use Rattle.uv_requests.specs.declared.undo.CollectWorkUndo.{CollectWorkUndo}
use Rattle.uv_requests.specs.Working.{Running, Working, working, request_in, IsWork}

-- another count of open requests
abbrev pub with_count : ℕ → Running → Running
with_count n r = record { workers = r.workers; count = n }

-- a worker runs this, or nothing
abbrev pub with_run : ℕ → Option Id → Running → Running
with_run k run r = record { workers = slice_set r.workers k run; count = r.count }

module _ {X : Type 0} where
  -- a request that was queued leaves the end of those that wait, and its slot is as it was
  abbrev pub queue_undone : QueueUndo → Working X → Working X
  queue_undone u w = working (insert_undone u.inserted (push_undone u.inserted.slot w.arena)) (with_count u.count w.running)

  -- a request that was taken waits again, and the worker runs nothing
  abbrev pub take_undone : TakeWorkUndo → Working X → Working X
  take_undone u w = working (unlink_undone u.unlinked w.arena) (with_run u.worker None w.running)

  -- those that were to be called back are all together again
  abbrev pub begin_undone : SpliceUndo → Working X → Working X
  begin_undone u w = working (splice_undone u w.arena) w.running

module _ {X : Type 0} (make : Request → X) where
  -- a request that was collected is put back
  abbrev pub collect_undone : CollectWorkUndo → Request → Working X → Working X
  collect_undone u r w = working (unlink_undone u.unlinked (remove_undone u.removed (make r) w.arena)) (with_count u.count w.running)

  abbrev pub reopened_by : Option Request → ℕ → Image X → Image X
  reopened_by None x i = i
  reopened_by (Some r) x i = set_undone x (make (reopened r)) i

  abbrev pub CanReopen : Option Request → ℕ → Image X → Type 0
  CanReopen None x i = ⊥
  CanReopen (Some r) x i = CanUndoSet i x (make (reopened r))

module _ {X : Type 0} (read : X → Option Request) where
  pub record CanUndoQueue (w : Working X) (u : QueueUndo) : Type 0 where
    pub pushed : CanUndoPush w.arena u.inserted.slot
    pub inserted : CanUndoInsert (push_undone u.inserted.slot w.arena) u.inserted
    pub work : IsWork read (queue_undone u w)

  pub record CanUndoTake (w : Working X) (u : TakeWorkUndo) : Type 0 where
    pub worker : u.worker < length w.running.workers
    pub unlinked : CanUndoUnlink w.arena u.unlinked
    pub work : IsWork read (take_undone u w)

  pub record CanUndoBegin (w : Working X) (u : SpliceUndo) : Type 0 where
    pub spliced : CanUndoSplice w.arena u
    pub work : IsWork read (begin_undone u w)

  module _ (make : Request → X) where
    pub record CanUndoCollect (w : Working X) (u : CollectWorkUndo) (r : Request) : Type 0 where
      pub removed : CanUndoRemove w.arena u.removed (make r)
      pub unlinked : CanUndoUnlink (remove_undone u.removed (make r) w.arena) u.unlinked
      pub work : IsWork read (collect_undone make u r w)

    -- a request that was finished or cancelled is open again
    abbrev pub reopened_in : Id → Image X → Image X
    reopened_in d i = reopened_by make (request_in read i d) d.slot i

    -- a request that was finished leaves the end of those that are done, is open again, and is run
    abbrev pub finish_undone : FinishUndo → Working X → Working X
    finish_undone u w = working (reopened_in u.id (push_undone u.id.slot w.arena)) (with_run u.worker (Some u.id) w.running)

    pub record CanUndoFinish (w : Working X) (u : FinishUndo) : Type 0 where
      pub worker : u.worker < length w.running.workers
      pub pushed : CanUndoPush w.arena u.id.slot
      pub reopened : CanReopen make (request_in read (push_undone u.id.slot w.arena) u.id) u.id.slot (push_undone u.id.slot w.arena)
      pub work : IsWork read (finish_undone u w)

    -- a request that was cancelled leaves the end of those that are done, is open again, and waits where it stood
    abbrev pub cancel_undone : CancelUndo → Working X → Working X
    cancel_undone u w = working (unlink_undone u.unlinked (reopened_in u.id (push_undone u.id.slot w.arena))) w.running

    pub record CanUndoCancel (w : Working X) (u : CancelUndo) : Type 0 where
      pub pushed : CanUndoPush w.arena u.id.slot
      pub reopened : CanReopen make (request_in read (push_undone u.id.slot w.arena) u.id) u.id.slot (push_undone u.id.slot w.arena)
      pub unlinked : CanUndoUnlink (reopened_in u.id (push_undone u.id.slot w.arena)) u.unlinked
      pub work : IsWork read (cancel_undone u w)
