-- The names that proofs of this crate bring in.
pub use Rattle.uv_memory.proofs.Names.{CancelUndo, DelistUndo, IsCancelled, IsEnlisted, IsPushed, IsQueued, ListUndo, QueueUndo, moved_by, reopened}
pub use Rattle.uv_model.proofs.Names.{found_or, refuses, with_last}
pub use Rattle.uv_order.proofs.Names.{Answer, Pool, Slots, Task, Watchers, activated, as_request, close_refusal, id_of, inited, live_request, next_free, next_id, queued, refreshed, send_refusal, sent, taken, taken_from, waits, watcher_kind, watchers_without_id, with_watched}
pub use Rattle.uv_requests.proofs.Names.{Working, cancel_refusal, cancelled, pool_of}
pub use Rattle.uv_stands.proofs.ProofNames.{AreActive, Bool, By, Code, Content, Does, Entry, Err, Handle, HandleRecord, Held, Id, Image, IsChanged, IsFit, IsIn, IsReached, IsRescheduled, Kind, List, ListName, None, Ok, OnlyTimed, Option, Place, Record, Request, Result, Slot, Some, StandsFor, State, Timed, TimerUndo, Var, Walk, WatcherKind, [], again, ap, becoming, binding, cleared, cond, content_of, counted, counted_of, eqb, false, handle_of, has_id, id_in, id_is, if◌then◌else◌, image_of, inl, inr, invalid_if, is_some, is_timer, list_any, list_of, live, live_handle, live_id, map, map-append, members, named, not, option_and_then, option_map, plain_slots, record_at, refl, request_of, same_id, slice_get, slot_at, start, stop, subst, suc, sym, taken_off, timed_of, timer_in, true, with_handle, with_id, without, without_id, without_none, without_timer, zero, ℕ, ◌&&◌, ◌++◌, ◌||◌, ◌∙◌, ◌∷◌, ◌≡◌, ◌≢◌}
pub use Rattle.uv_arena.specs.Calls.{RefusesInsert}
pub use Rattle.uv_handle.specs.Watch.{IsStarted, IsStopped}
pub use Rattle.uv_ids.specs.declared.code.Code.TheVariants.{Ok as success}
pub use Rattle.uv_memory.specs.Does.{IsMade, IsShut, JoinsIf, is_async}
pub use Rattle.uv_memory.specs.Image.{OnlyHandles, OnlyWork, held, working_of}
pub use Rattle.uv_memory.specs.declared.record.Added.{Added}
pub use Rattle.uv_model.specs.Ops.{Coded, Done, cancel, close, closed, listed_last, make, on_handle, says_code, send, set_referenced, set_repeat, start_watcher, succeeds, watcher_started, with_new, with_queued}
pub use Rattle.uv_ops.specs.Outside.{Cancels, Sends}
pub use Rattle.uv_order.proofs.IdLists.{turned}
pub use Rattle.uv_stands.proofs.Absent.{IsOn, has_first, has_it, has_second, holds_it, not_closing, not_closing_yet, not_done, not_done_yet, not_waiting, own_id, ready_stays}
pub use Rattle.uv_stands.proofs.Edits.{changed_stands}
pub use Rattle.uv_stands.proofs.Holding.{generation_kept, held_there, ids_kept, map_same, slot_by, slot_or, slots_set}
pub use Rattle.uv_stands.proofs.Lists.{Listed, all_but_one, list_is, list_stays}
pub use Rattle.uv_stands.proofs.Naming.{live_by}
pub use Rattle.uv_stands.proofs.Pools.{asked_there, done_more, ids_moved, list_same, pool_stands}
pub use Rattle.uv_stands.proofs.Single.{running_is, start_is, time_is}
pub use Rattle.uv_stands.proofs.Starts.{again_does, start_does}
pub use Rattle.uv_stands.proofs.Stops.{ids_rescheduled, stop_does}
pub use Rattle.uv_stands.proofs.Values.{bound_stands, valued}
pub use Rattle.uv_stands.proofs.Without.{without_ids}
pub use Rattle.uv_stands.specs.Asking.{Allows, ComesTo}
pub use Rattle.uv_stands.specs.Doing.{Performs}
pub use Rattle.uv_timer.specs.Timed.{with_arena}
pub use Rattle.uv_work.specs.declared.content.Content.TheVariants.{Request as Asked}
