-- The names that proofs of this crate bring in.
pub use Rattle.uv_heap.proofs.Names.{Due, IsTotalOrder, due_cmp, nat_cmp_total, on_total, replicate, then_total}
pub use Rattle.uv_script.proofs.ProofNames.{All, AllByRecursion, Bool, Callback, Equal, Err, Fault, Greater, Kind, Less, List, None, Ok, Option, Order, Ordering, Program, Result, Some, Task, Var, [], ap, arena_size, arith, common_steps, cond, cond_both, drop, eqb-true, false, from_heap, get_or, has_io, if◌then◌else◌, is_eq, length, lines_in, list_any, nat_cmp, nat_le, nat_lt, nat_tests, none-some, option_and_then, order_of, ordering_then, refl, same_Some, slice_get, slice_set, subst, suc, sym, take, take_more, text_of, true, unwrap_or, zero, ℕ, ◌&&◌, ◌++◌, ◌+◌, ◌<◌, ◌==◌, ◌^◌, ◌∙◌, ◌∷◌, ◌≡◌, ◌≤◌}
pub use Rattle.std.proofs.Common.{add-one, add-zero, drop-cons, zero-add}
pub use Rattle.std.proofs.lemmas.Grind.{elements}
pub use Rattle.std.proofs.lemmas.Option.{slice_get_read}
pub use Rattle.std.specs.Map.{keys_of}
pub use Rattle.std.specs.Ordering.{match_ordering, ordering_reverse}
pub use Rattle.uv_ids.specs.declared.code.Code.{Code}
pub use Rattle.uv_ids.specs.declared.event.Event.{Event}
pub use Rattle.uv_ids.specs.declared.event.Event.TheVariants.{Cancel, Finish, Io, Loop, Send, Take, Tick}
pub use Rattle.uv_ids.specs.declared.fault.Why.{Why}
pub use Rattle.uv_ids.specs.declared.fault.Why.TheVariants.{Blocked, IdleWorker}
pub use Rattle.uv_ids.specs.declared.id.Id.{Id}
pub use Rattle.uv_ids.specs.declared.order.Order.TheVariants.{V144, V145}
pub use Rattle.uv_ids.specs.declared.seen.Seen.{Seen}
pub use Rattle.uv_model.specs.After.{AcceptsFrom, Answers, IsMove, goes_on, refusal_of, seen_from, seen_of, state_of}
pub use Rattle.uv_model.specs.Bounds.{AreBelow, CanStep, HoldsBefore, StartsBefore, line_of}
pub use Rattle.uv_model.specs.Content.{handle_in, request_in}
pub use Rattle.uv_model.specs.Found.{found_or}
pub use Rattle.uv_model.specs.Ids.{same_id, without_id}
pub use Rattle.uv_model.specs.Next.{Moves, Next, Refuses, after_walk, begin_done, begin_walk, body_from, body_step, call_due, call_io, calls, cancels, close_front, collect_request, collected, ends, finish, fire, first_due, front_moved, goes, goes_by, idled_at, idled_then, io, io_handle, io_run, leave_polled, loop_step, main_step, may_leave, next_work, refreshes, run_step, sent_to, stage_polled, stage_step, takes_io, tick, time_at, time_polled, timers, turns, walk, walk_async, way, work_of}
pub use Rattle.uv_model.specs.Ops.{do_op, refuses}
pub use Rattle.uv_model.specs.Queries.{runner_from}
pub use Rattle.uv_model.specs.State.{State, Watchers, as_handle, as_request, fresh, front, front_request, handle, live, live_handle, live_id, live_request, named, refreshed, request, those_of, watched, with_handle, with_id, with_named, with_request, with_those_of, with_watched}
pub use Rattle.uv_model.specs.Steps.{IsOfLoop}
pub use Rattle.uv_model.specs.Timers.{restarted, started, stopped, taken_off, with_timer, without_timer}
pub use Rattle.uv_model.specs.declared.place.Body.{Body}
pub use Rattle.uv_model.specs.declared.place.Place.{Place}
pub use Rattle.uv_model.specs.declared.place.Place.TheVariants.{Main, Running}
pub use Rattle.uv_model.specs.declared.place.Run.{Run}
pub use Rattle.uv_model.specs.declared.place.Stage.{Stage}
pub use Rattle.uv_model.specs.declared.place.Stage.TheVariants.{Closing, Done, DoneUnwoken, Entry, Pending, Poll, Polled, Timers, Walking}
pub use Rattle.uv_model.specs.declared.place.TimersOf.{TimersOf}
pub use Rattle.uv_model.specs.declared.place.Timing.{Timing}
pub use Rattle.uv_model.specs.declared.place.Timing.TheVariants.{Collecting, Firing}
pub use Rattle.uv_model.specs.declared.place.Turn.{Turn}
pub use Rattle.uv_model.specs.declared.place.Turn.TheVariants.{AtEntry, Behind, BehindClosing}
pub use Rattle.uv_model.specs.declared.place.Way.{Way}
pub use Rattle.uv_model.specs.declared.place.Way.TheVariants.{ToEnd, ToPending, ToTimers}
pub use Rattle.uv_records.specs.Handles.{activated, inited, is_async, is_timer, referenced_as, repeating}
pub use Rattle.uv_records.specs.Lists.{watcher_kind}
pub use Rattle.uv_records.specs.Names.{count_of, counted, unbound}
pub use Rattle.uv_records.specs.Refusals.{again_refusal, close_refusal, invalid_if, is_startable, no_refusal, only_if, send_refusal, start_timer_refusal, start_watcher_refusal, stop_refusal, timer_refusal}
pub use Rattle.uv_records.specs.Slots.{Slots, freed, held, held_in, next_free, taken, taken_from}
pub use Rattle.uv_records.specs.Walks.{Walk, all_yet, with_first, with_last}
pub use Rattle.uv_records.specs.declared.handle.HandleRecord.{HandleRecord}
pub use Rattle.uv_records.specs.declared.lists.WatcherKind.{WatcherKind}
pub use Rattle.uv_records.specs.declared.named.Calls.{Calls}
pub use Rattle.uv_records.specs.declared.named.Named.{Named}
pub use Rattle.uv_records.specs.declared.slot.Slot.{Slot}
pub use Rattle.uv_script.specs.declared.op.CallbackLine.{CallbackLine}
pub use Rattle.uv_script.specs.declared.op.MainOp.{MainOp}
pub use Rattle.uv_script.specs.declared.op.Op.{Op}
pub use Rattle.uv_work.specs.Pool.{is_run}
pub use Rattle.uv_work.specs.Requests.{digest_in, queued}
pub use Rattle.uv_work.specs.declared.content.Content.{Content}
pub use Rattle.uv_work.specs.declared.outcome.Outcome.{Outcome}
pub use Rattle.uv_work.specs.declared.outcome.Outcome.TheVariants.{Cancelled, Finished}
pub use Rattle.uv_work.specs.declared.request.Request.{Request}
