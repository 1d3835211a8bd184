-- The names that proofs of this crate bring in.
pub use Rattle.uv_arena.proofs.ProofNames.{IfNone, if◌then◌else◌, place_at, slice_get_past, splice_undone, without}
pub use Rattle.uv_handle.proofs.Names.{Counted, HandleRecord, IsAdded, IsChanged, IsEnlisted, IsTaken, Kind, SameSlots, Slot, Var, active_count, alive_count, content_keeps, counted, inited, keeps_in, one_if, record_at, woken, ◌≤◌}
pub use Rattle.uv_requests.proofs.Names.{Bool, CanUndoPush, ChainPlace, Id, IsCancelled, IsFinished, IsIn, IsPushed, IsQueued, IsSound, IsSpliced, IsWork, Job, List, ListName, None, Option, Request, Running, Some, SpliceUndo, Waiting, [], ap, append-nil, append_assoc, arith, eqb, eqb_tells, false, held, held_slots, held_tells, id_in, idle_workers, inl, inr, length, length-append, members, on_list, option_and_then, or_none, plain_slots, push_undone, refl, reopened, reopened_by, reopened_in, set, slice_get, slot_at, subst, suc, sym, true, unlink_undone, without_none, working, zero, ℕ, ◌++◌, ◌+◌, ◌-◌, ◌<◌, ◌∙◌, ◌∷◌, ◌≡◌, ◌≢◌}
pub use Rattle.uv_timer.proofs.Names.{CanUndoTimer, Heap, IsCollected, IsRescheduled, becoming, timed, timer_undone}
pub use Rattle.std.proofs.Common.{Err, Ok, OnErr, OnOk, Result, is_err, min, rules}
pub use Rattle.std.proofs.lemmas.Grind.{common_steps}
pub use Rattle.uv_arena.proofs.Memories.{get-slots, member_tells, slots_edited, slots_relinked}
pub use Rattle.uv_arena.specs.Undo.{CanUndoSplice}
pub use Rattle.uv_arena.specs.declared.links.TheConstants.{CHAIN_COUNT, FREE}
pub use Rattle.uv_handle.proofs.Counts.{content_of}
pub use Rattle.uv_handle.specs.Changes.{IsDelisted}
pub use Rattle.uv_handle.specs.Counted.{CanUndoAdd, add_undone, delist_undone}
pub use Rattle.uv_handle.specs.Walks.{walk_undone}
pub use Rattle.uv_handle.specs.Watch.{IsMovedOn, woken_if}
pub use Rattle.uv_handle.specs.declared.undo.AddUndo.{AddUndo}
pub use Rattle.uv_handle.specs.declared.undo.DelistUndo.{DelistUndo}
pub use Rattle.uv_handle.specs.declared.undo.ListUndo.{ListUndo}
pub use Rattle.uv_handle.specs.declared.undo.RecordUndo.{RecordUndo}
pub use Rattle.uv_handle.specs.declared.undo.TakeUndo.{TakeUndo}
pub use Rattle.uv_handle.specs.declared.undo.WalkUndo.{WalkUndo}
pub use Rattle.uv_heap.specs.declared.undo.HeapRemoveUndo.{HeapRemoveUndo}
pub use Rattle.uv_ids.specs.declared.seen.Callback.{Callback}
pub use Rattle.uv_memory.specs.Change.{Change}
pub use Rattle.uv_memory.specs.Does.{By, FirstIs, NoHandleFirst, changed, closed_by, ended_by, moved_by}
pub use Rattle.uv_memory.specs.Fit.{IsFit}
pub use Rattle.uv_memory.specs.Forms.{change_of, larger, smaller}
pub use Rattle.uv_memory.specs.Image.{Held, Image, counted_of, image_of, standing, timed_of, with_counted, with_timed, with_working}
pub use Rattle.uv_memory.specs.Kept.{Kept}
pub use Rattle.uv_memory.specs.Parts.{Bound, Part, Passed, PutOn, Stood, change_parts, edit_parts, naming_parts, off_parts, put_parts, removed_parts, set_parts, timer_parts, undo, unwind, unwind_parts, was_bound, woken_parts}
pub use Rattle.uv_memory.specs.Record.{Record, at_place}
pub use Rattle.uv_memory.specs.Rows.{Fits, larges_of, mediums_of, of_large, of_medium, of_small, records_of, smalls_of}
pub use Rattle.uv_memory.specs.Trail.{AddEach, AddsAll, AreSteps, CanGoBack, Walk, unwound}
pub use Rattle.uv_memory.specs.Undo.{CanRename, CanUndo, CanUnwind, Extended, Recorded, off_if}
pub use Rattle.uv_memory.specs.View.{kept}
pub use Rattle.uv_memory.specs.declared.entry.Entry.{Entry}
pub use Rattle.uv_memory.specs.declared.large.Large.{Large}
pub use Rattle.uv_memory.specs.declared.medium.Medium.{Medium}
pub use Rattle.uv_memory.specs.declared.record.Naming.{Naming}
pub use Rattle.uv_memory.specs.declared.row.Row.{Row}
pub use Rattle.uv_memory.specs.declared.small.Small.{Small}
pub use Rattle.uv_records.specs.Lists.{list_of, yet_of}
pub use Rattle.uv_records.specs.Names.{binding, calling, count_of, named, with_count}
pub use Rattle.uv_records.specs.declared.lists.ListName.TheVariants.{Done as Ended, DoneYet as EndedYet}
pub use Rattle.uv_records.specs.declared.lists.WatcherKind.{WatcherKind}
pub use Rattle.uv_records.specs.declared.named.Calls.{Calls}
pub use Rattle.uv_records.specs.declared.named.Named.{Named}
pub use Rattle.uv_requests.proofs.Beside.{kept_beside, kept_by_insert}
pub use Rattle.uv_requests.proofs.Collected.{freed_slot}
pub use Rattle.uv_requests.proofs.Holding.{one_id}
pub use Rattle.uv_requests.specs.Working.{request_in as asked_at}
pub use Rattle.uv_requests.specs.declared.undo.CancelUndo.{CancelUndo}
pub use Rattle.uv_requests.specs.declared.undo.CollectWorkUndo.{CollectWorkUndo}
pub use Rattle.uv_requests.specs.declared.undo.FinishUndo.{FinishUndo}
pub use Rattle.uv_requests.specs.declared.undo.QueueUndo.{QueueUndo}
pub use Rattle.uv_requests.specs.declared.undo.TakeWorkUndo.{TakeWorkUndo}
pub use Rattle.uv_timer.specs.Timed.{CanPutBack, CanUndoCollect, Timed, collect_undone}
pub use Rattle.uv_timer.specs.Timers.{IsFired}
pub use Rattle.uv_timer.specs.declared.change.TimerChange.{TimerChange}
pub use Rattle.uv_timer.specs.declared.change.Times.{Times}
pub use Rattle.uv_timer.specs.declared.undo.CollectUndo.{CollectUndo}
pub use Rattle.uv_timer.specs.declared.undo.SetUndo.{SetUndo}
pub use Rattle.uv_timer.specs.declared.undo.TimerUndo.{TimerUndo}
pub use Rattle.uv_work.proofs.Contents.{no_handle, no_request}
pub use Rattle.uv_work.specs.Content.{handle_of, only_handle, request_of}
pub use Rattle.uv_work.specs.declared.content.Content.{Content}
pub use Rattle.uv_work.specs.declared.content.Content.TheVariants.{Handle, Request as Asked}
