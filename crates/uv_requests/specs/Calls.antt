-- What holds after each call that changes requests.
use Rattle.std.specs.Prelude.{◌≡◌, ◌≢◌, ℕ, true, false, eqb, List, [], ◌∷◌, ◌++◌, Option, Some, None, slice_get}
use Rattle.uv_ids.specs.declared.id.Id.{Id}
use Rattle.uv_ids.specs.declared.fault.Why.{Why}
use Rattle.uv_ids.specs.declared.fault.Why.TheVariants as why
use Rattle.uv_records.specs.declared.lists.ListName.{ListName}
use Rattle.uv_records.specs.declared.lists.ListName.TheVariants.{Waiting, Done as Ended, DoneYet as EndedYet}
use Rattle.uv_records.specs.Slots.{next_free, taken, freed, with_held}
use Rattle.uv_records.specs.Walks.{without}
use Rattle.uv_arena.specs.declared.undo.SpliceUndo.{SpliceUndo}
use Rattle.uv_arena.specs.Image.{members, held, on_list, plain_slots}
use Rattle.uv_arena.specs.Calls.{IsFirst, SameSlots}
use Rattle.uv_work.specs.declared.job.Job.{Job}
use Rattle.uv_work.specs.declared.request.Request.{Request}
use Rattle.uv_work.specs.Requests.{finished, cancelled, job_of}
use Rattle.uv_work.specs.Pool.{after_event}
use Rattle.uv_work.specs.declared.event.PoolEvent.TheVariants as event
use Rattle.uv_requests.specs.declared.undo.QueueUndo.{QueueUndo}
use Rattle.uv_requests.specs.declared.undo.TakeWorkUndo.{TakeWorkUndo}
use Rattle.uv_requests.specs.declared.undo.FinishUndo.{FinishUndo}
use Rattle.uv_requests.specs.declared.undo.CancelUndo.{CancelUndo}
use Rattle.uv_requests.specs.declared.undo.CollectWorkUndo.{CollectWorkUndo}
use Rattle.uv_requests.specs.Working.{Working, request_in, pool_of, IsWork}
use Rattle.uv_requests.specs.Undo.{with_run, queue_undone, take_undone, finish_undone, cancel_undone, begin_undone, collect_undone, CanUndoQueue, CanUndoTake, CanUndoFinish, CanUndoCancel, CanUndoBegin, CanUndoCollect}

module _ {X : Type 0} (read : X → Option Request) where
  -- why a worker takes nothing: there is no such worker, it runs a request already, or none waits
  abbrev pub RefusesTake : Working X → ℕ → Why → Type 0
  RefusesTake w k why.NoWorker = slice_get w.running.workers k ≡ None
  RefusesTake w k why.BusyWorker = (d : Id) × (slice_get w.running.workers k ≡ Some (Some d))
  RefusesTake w k why.NoWork = (slice_get w.running.workers k ≡ Some None) × (members w.arena Waiting ≡ [])
  RefusesTake w k _ = ⊥

  -- why a worker has no result: there is no such worker, or it runs nothing
  abbrev pub RefusesFinish : Working X → ℕ → Why → Type 0
  RefusesFinish w k why.NoWorker = slice_get w.running.workers k ≡ None
  RefusesFinish w k why.IdleWorker = slice_get w.running.workers k ≡ Some None
  RefusesFinish w k _ = ⊥

  -- the front of those that wait is run by the worker
  pub record IsTaken (old new : Working X) (k : ℕ) (d : Id) (u : TakeWorkUndo) : Type 0 where
    pub rule : after_event (pool_of read old) (event.Take k d) ≡ Some (pool_of read new)
    pub idle : slice_get old.running.workers k ≡ Some None
    pub first : IsFirst old.arena Waiting d
    pub running : new.running ≡ with_run k (Some d) old.running
    pub waiting : members new.arena Waiting ≡ first.rest
    pub others : (l : ListName) → l ≢ Waiting → members new.arena l ≡ members old.arena l
    pub slots : SameSlots old.arena new.arena
    pub loose : on_list new.arena d ≡ false
    pub kept : (e : Id) → e.slot ≢ d.slot → on_list new.arena e ≡ on_list old.arena e
    pub work : IsWork read new
    pub undone : take_undone u new ≡ old
    pub can_undo : CanUndoTake read new u

  -- the done section begins: all that are done are yet to be called back
  pub record IsBegun (old new : Working X) (u : SpliceUndo) : Type 0 where
    pub pool : pool_of read new ≡ pool_of read old
    pub yet : members new.arena EndedYet ≡ members old.arena Ended
    pub done : members new.arena Ended ≡ []
    pub others : (l : ListName) → l ≢ Ended → l ≢ EndedYet → members new.arena l ≡ members old.arena l
    pub slots : SameSlots old.arena new.arena
    pub kept : (e : Id) → on_list new.arena e ≡ on_list old.arena e
    pub work : IsWork read new
    pub undone : begin_undone u new ≡ old
    pub can_undo : CanUndoBegin read new u

  module _ (make : Request → X) where
    -- the front of those yet to be called back is off its list, and its slot is freed
    pub record IsCollected (old new : Working X) (d : Id) (r : Request) (u : CollectWorkUndo) : Type 0 where
      pub rule : after_event (pool_of read old) (event.Collect d) ≡ Some (pool_of read new)
      pub first : IsFirst old.arena EndedYet d
      pub was : request_in read old.arena d ≡ Some r
      pub plain : plain_slots new.arena ≡ freed old.arena.last d (plain_slots old.arena)
      pub yet : members new.arena EndedYet ≡ first.rest
      pub others : (l : ListName) → l ≢ EndedYet → members new.arena l ≡ members old.arena l
      pub contents : (e : Id) → e.slot ≢ d.slot → held new.arena e ≡ held old.arena e
      pub kept : (e : Id) → e.slot ≢ d.slot → on_list new.arena e ≡ on_list old.arena e
      pub work : IsWork read new
      pub undone : collect_undone make u r new ≡ old
      pub can_undo : CanUndoCollect read make new u r

    -- a request is held in the slot that was next, and waits behind the others
    pub record IsQueued (old new : Working X) (r : Request) (d : Id) (u : QueueUndo) : Type 0 where
      pub rule : after_event (pool_of read old) (event.Queue d) ≡ Some (pool_of read new)
      pub next : next_free (plain_slots old.arena) ≡ Some d
      pub request : request_in read new.arena d ≡ Some r
      pub plain : plain_slots new.arena ≡ taken d (make r) (plain_slots old.arena)
      pub waiting : members new.arena Waiting ≡ members old.arena Waiting ++ d.slot ∷ []
      pub listed : on_list new.arena d ≡ true
      pub others : (l : ListName) → l ≢ Waiting → members new.arena l ≡ members old.arena l
      pub contents : (e : Id) → e.slot ≢ d.slot → held new.arena e ≡ held old.arena e
      pub kept : (e : Id) → e.slot ≢ d.slot → on_list new.arena e ≡ on_list old.arena e
      pub work : IsWork read new
      pub undone : queue_undone u new ≡ old
      pub can_undo : CanUndoQueue read new u

    -- the worker's request is finished with this digest, and is done behind the others
    pub record IsFinished (old new : Working X) (k : ℕ) (d : Id) (asked : Job) (digest : List ℕ) (u : FinishUndo) : Type 0 where
      pub rule : after_event (pool_of read old) (event.Finish k d) ≡ Some (pool_of read new)
      pub from : Request
      pub was : request_in read old.arena d ≡ Some from
      pub job : job_of d from ≡ asked
      pub runs : slice_get old.running.workers k ≡ Some (Some d)
      pub running : new.running ≡ with_run k None old.running
      pub request : request_in read new.arena d ≡ Some (finished digest from)
      pub plain : plain_slots new.arena
          ≡ record (plain_slots old.arena) { slots = with_held (plain_slots old.arena).slots d (make (finished digest from)) }
      pub done : members new.arena Ended ≡ members old.arena Ended ++ d.slot ∷ []
      pub listed : on_list new.arena d ≡ true
      pub others : (l : ListName) → l ≢ Ended → members new.arena l ≡ members old.arena l
      pub contents : (e : Id) → e.slot ≢ d.slot → held new.arena e ≡ held old.arena e
      pub kept : (e : Id) → e.slot ≢ d.slot → on_list new.arena e ≡ on_list old.arena e
      pub work : IsWork read new
      pub undone : finish_undone read make u new ≡ old
      pub can_undo : CanUndoFinish read make new u

    -- a request that waited is cancelled, and is done behind the others
    pub record IsCancelled (old new : Working X) (d : Id) (u : CancelUndo) : Type 0 where
      pub rule : after_event (pool_of read old) (event.Cancel d) ≡ Some (pool_of read new)
      pub from : Request
      pub was : request_in read old.arena d ≡ Some from
      pub running : new.running ≡ old.running
      pub request : request_in read new.arena d ≡ Some (cancelled from)
      pub plain : plain_slots new.arena
          ≡ record (plain_slots old.arena) { slots = with_held (plain_slots old.arena).slots d (make (cancelled from)) }
      pub waiting : members new.arena Waiting ≡ without eqb (members old.arena Waiting) d.slot
      pub done : members new.arena Ended ≡ members old.arena Ended ++ d.slot ∷ []
      pub listed : on_list new.arena d ≡ true
      pub others : (l : ListName) → l ≢ Waiting → l ≢ Ended → members new.arena l ≡ members old.arena l
      pub contents : (e : Id) → e.slot ≢ d.slot → held new.arena e ≡ held old.arena e
      pub kept : (e : Id) → e.slot ≢ d.slot → on_list new.arena e ≡ on_list old.arena e
      pub work : IsWork read new
      pub undone : cancel_undone read make u new ≡ old
      pub can_undo : CanUndoCancel read make new u
