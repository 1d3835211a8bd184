-- The names that proofs of this crate bring in.
pub use Rattle.uv_model.proofs.Names.{Blocked, Bool, Callback, CallbackLine, Calls, Cancel, Cancelled, Code, Content, Due, Equal, Err, Event, Finish, Finished, Greater, HandleRecord, Id, IdleWorker, Io, Kind, Less, List, Loop, MainOp, Moves, Named, Next, None, Ok, Op, Option, Order, Ordering, Outcome, Program, Refuses, Request, Result, Seen, Send, Slot, Slots, Some, State, Take, Task, Tick, V144, V145, Var, Walk, WatcherKind, Why, [], activated, again_refusal, all_yet, ap, arena_size, arith, as_handle, as_request, close_refusal, collected, cond_both, count_of, counted, digest_in, do_op, drop, due_cmp, elements, false, first_due, found_or, freed, from_heap, front, front_request, handle, handle_in, has_io, held, held_in, if◌then◌else◌, inited, invalid_if, is_async, is_startable, is_timer, length, lines_in, list_any, live, live_handle, live_id, live_request, match_ordering, named, nat_le, nat_lt, next_free, no_refusal, only_if, option_and_then, order_of, queued, referenced_as, refl, refreshed, refuses, repeating, request, request_in, restarted, same_id, send_refusal, slice_get, slice_set, start_timer_refusal, start_watcher_refusal, started, stop_refusal, stopped, suc, sym, taken, taken_from, taken_off, text_of, timer_refusal, true, unbound, watched, watcher_kind, with_first, with_handle, with_id, with_last, with_named, with_request, with_timer, with_watched, without_id, without_timer, zero, ℕ, ◌&&◌, ◌++◌, ◌+◌, ◌<◌, ◌==◌, ◌∙◌, ◌∷◌, ◌≡◌}
pub use Rattle.uv_script.proofs.ProofNames.{Mode, ap₂, inl, inr, length-map, main_op, map, map-append, min, not, op_at, op_name, option_map, slice_get-map, ◌-◌, ◌||◌, ◌⊎◌}
pub use Rattle.std.proofs.Common.{is_some}
pub use Rattle.std.proofs.lemmas.List.{drop-map, map-set, set-set}
pub use Rattle.uv_alike.specs.Asks.{cancels, cancels_at, cancels_line, cancels_main, cancels_op, cancels_run, line_reads_clock, main_reads_clock, op_reads_clock, place_reads_clock, reads_clock, run_reads_clock, stage_reads_clock}
pub use Rattle.uv_alike.specs.Changed.{Change, Comes, changed, changed_answer, changed_arena, changed_body, changed_callback, changed_content, changed_entry, changed_event, changed_handle, changed_line, changed_live, changed_main, changed_op, changed_place, changed_program, changed_request, changed_run, changed_stage, changed_walk, same, Times, same_times, unchanged, next_map, state_map}
pub use Rattle.uv_alike.specs.Hides.{Hides, IsExact, IsWhole, IsWork, HidesTimes}
pub use Rattle.uv_ids.specs.declared.phase.Mode.TheVariants.{Default, Nowait, Once}
pub use Rattle.uv_ids.specs.declared.seen.Site.{Site}
pub use Rattle.uv_model.specs.Ids.{has_some}
pub use Rattle.uv_model.specs.Limits.{LATEST, LONGEST_POLL}
pub use Rattle.uv_model.specs.Next.{take}
pub use Rattle.uv_model.specs.Ops.{Coded, cancel, send}
pub use Rattle.uv_model.specs.Timeout.{backend_timeout, deadline_of, has_closing, has_idle, has_passed, is_alive, poll_timeout, until_first}
pub use Rattle.uv_model.specs.Timers.{due_after}
pub use Rattle.uv_model.specs.declared.place.Body.{Body}
pub use Rattle.uv_model.specs.declared.place.Place.{Place}
pub use Rattle.uv_model.specs.declared.place.Place.TheVariants.{Main, Running}
pub use Rattle.uv_model.specs.declared.place.Run.{Run}
pub use Rattle.uv_model.specs.declared.place.Stage.{Stage}
pub use Rattle.uv_model.specs.declared.place.Stage.TheVariants.{Closing, Done, DoneUnwoken, Entry, Pending, Poll, Polled, Timers, Walking}
pub use Rattle.uv_model.specs.declared.place.TimersOf.{TimersOf}
pub use Rattle.uv_model.specs.declared.place.Timing.{Timing}
pub use Rattle.uv_model.specs.declared.place.Timing.TheVariants.{Collecting, Firing}
pub use Rattle.uv_model.specs.declared.place.Turn.{Turn}
pub use Rattle.uv_model.specs.declared.place.Turn.TheVariants.{AtEntry, Behind, BehindClosing}
pub use Rattle.uv_model.specs.declared.place.Way.{Way}
pub use Rattle.uv_model.specs.declared.place.Way.TheVariants.{ToEnd, ToPending, ToTimers}
pub use Rattle.uv_records.specs.Handles.{begun_at}
pub use Rattle.uv_records.specs.Slots.{id_of, next_id, with_held}
