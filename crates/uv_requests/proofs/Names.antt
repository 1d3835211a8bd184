-- The names that proofs of this crate bring in.
pub use Rattle.uv_arena.proofs.ProofNames.{Bool, CanUndoUnlink, Id, Image, IsApart, IsFirst, IsIn, IsInserted, IsListed, IsPushed, IsRemoved, IsSet, IsSound, IsSpliced, IsUnlinked, LIST_COUNT, List, ListName, None, Option, Some, [], ap, append_assoc, arith, cond, eqb, eqb_tells, false, false_from_ne_true, fresh_image, held, held_slots, inl, inr, insert_undone, is_some, length, length-append, length-map, list_any, map, members, name_at, not, number, on_list, option_and_then, option_map, plain_slots, push_undone, refl, replicate, set, set_undone, slice_get, slice_get_within, slot_at, slot_in, subst, suc, sym, true, unlink_undone, zero, ℕ, ◌++◌, ◌+◌, ◌-◌, ◌<◌, ◌||◌, ◌∙◌, ◌∷◌, ◌≡◌, ◌≢◌, ◌⊎◌}
pub use Rattle.std.proofs.Math.Bool.{or-true}
pub use Rattle.std.proofs.lemmas.List.{append-nil, length-set}
pub use Rattle.std.proofs.lemmas.List.Elements.{filter-append}
pub use Rattle.uv_arena.proofs.Contents.{content_is, content_of, next_slot, past_end, set_back, set_done, set_here, set_there}
pub use Rattle.uv_arena.proofs.Lists.{apart_join, in_either, in_left, in_right}
pub use Rattle.uv_arena.proofs.Lookups.{held_tells, name_below, one_list, without_none}
pub use Rattle.uv_arena.proofs.Memories.{or_none}
pub use Rattle.uv_arena.proofs.Readings.{apart_from, is_member}
pub use Rattle.uv_arena.proofs.Walk.{few}
pub use Rattle.uv_arena.specs.Undo.{CanUndoInsert, CanUndoPush, CanUndoSet}
pub use Rattle.uv_arena.specs.declared.links.ChainPlace.{ChainPlace}
pub use Rattle.uv_arena.specs.declared.undo.InsertUndo.{InsertUndo}
pub use Rattle.uv_arena.specs.declared.undo.RemoveUndo.{RemoveUndo}
pub use Rattle.uv_arena.specs.declared.undo.SpliceUndo.{SpliceUndo}
pub use Rattle.uv_ids.specs.declared.code.Code.TheVariants.{Ebusy}
pub use Rattle.uv_records.specs.Walks.{without as slots_without}
pub use Rattle.uv_records.specs.declared.lists.ListName.TheVariants.{Done as Ended, DoneYet as EndedYet, Waiting}
pub use Rattle.uv_requests.specs.Calls.{IsBegun, IsCancelled, IsCollected, IsFinished, IsQueued, IsTaken}
pub use Rattle.uv_requests.specs.Undo.{CanReopen, cancel_undone, collect_undone, finish_undone, queue_undone, reopened_by, reopened_in, take_undone, with_count, with_run}
pub use Rattle.uv_requests.specs.Working.{IsHeld, IsRun, IsWork, Running, Working, done_in, found, id_in, idle_workers, pool_of, request_in, was_finished, working}
pub use Rattle.uv_work.proofs.Counts.{busy_set_none, busy_set_some, without_one}
pub use Rattle.uv_work.proofs.Replays.{same_itself, same_when}
pub use Rattle.uv_work.specs.Ids.{same_id}
pub use Rattle.uv_work.specs.Pool.{Done, Pool, after_cancel, after_collect, after_finish, after_queue, after_take, busy, collected_from, finished_by, has, runs, size, taken_by, waits, without}
pub use Rattle.uv_work.specs.Requests.{IsDigest, cancel_refusal, cancelled, ended, finished, is_finished, is_open, job_of, reopened}
pub use Rattle.uv_work.specs.Tasks.{text_of}
pub use Rattle.uv_work.specs.declared.job.Job.{Job}
pub use Rattle.uv_work.specs.declared.outcome.Outcome.{Outcome}
pub use Rattle.uv_work.specs.declared.outcome.Outcome.TheVariants.{Cancelled, Finished, Open}
pub use Rattle.uv_work.specs.declared.request.Request.{Request}
pub use Rattle.uv_work.specs.declared.task.Task.{Task}
