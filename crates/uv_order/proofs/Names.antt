-- The names that proofs of this crate bring in.
pub use Rattle.uv_model.proofs.Names.{Blocked, Bool, Callback, CallbackLine, Calls, Cancel, Cancelled, Code, Content, Due, Equal, Err, Event, Finish, Finished, Greater, HandleRecord, Id, Io, Kind, Less, List, Loop, MainOp, Moves, Named, Next, None, Ok, Op, Option, Order, Ordering, Outcome, Program, Refuses, Request, Result, Seen, Send, Slot, Slots, Some, State, Take, Task, Tick, Var, Walk, WatcherKind, Watchers, Why, [], activated, again_refusal, all_yet, ap, arena_size, arith, as_handle, as_request, begin_walk, body_from, calls, close_refusal, collected, cond, cond_both, count_of, counted, digest_in, do_op, drop, due_cmp, elements, eqb-true, false, first_due, freed, fresh, from_heap, front, front_moved, front_request, goes, handle, handle_in, has_io, held, held_in, idled_at, if◌then◌else◌, inited, invalid_if, io_handle, io_run, is_async, is_startable, is_timer, length, lines_in, list_any, live, live_handle, live_id, live_request, may_leave, named, nat_cmp, nat_le, nat_lt, nat_tests, next_free, next_work, no_refusal, none-some, only_if, option_and_then, order_of, ordering_reverse, queued, referenced_as, refl, refreshed, refusal_of, repeating, replicate, request, request_in, restarted, same_Some, same_id, seen_from, seen_of, send_refusal, slice_get, slice_set, stage_polled, start_timer_refusal, started, state_of, stop_refusal, stopped, subst, suc, sym, taken, taken_from, takes_io, text_of, those_of, time_at, time_polled, timer_refusal, true, unbound, unwrap_or, watched, watcher_kind, with_first, with_handle, with_id, with_named, with_request, with_those_of, with_timer, with_watched, without_id, without_timer, work_of, zero, ℕ, ◌&&◌, ◌++◌, ◌+◌, ◌<◌, ◌==◌, ◌∙◌, ◌∷◌, ◌≡◌, ◌≤◌}
pub use Rattle.uv_script.proofs.ProofNames.{Callbacks, Mode, and_parts, append-nil, append_assoc, both_ways, eq-eqb, inl, inr, is_for, main_op, map, map-append, no_callbacks, not, op_at, option_map, slice_get_within, worker_count, ◌-◌, ◌||◌, ◌⊎◌}
pub use Rattle.std.proofs.Common.{option_to_list}
pub use Rattle.std.proofs.Math.Bool.{or-true, or_assoc, or_comm}
pub use Rattle.std.proofs.lemmas.Bool.{cases_lt, false_from_ne_true, ltb-false, or_cases, or_left, or_parts, or_right}
pub use Rattle.std.proofs.lemmas.Cmp.{ranked}
pub use Rattle.std.proofs.lemmas.List.Elements.{filter-append}
pub use Rattle.std.proofs.lemmas.Option.{slice_get_past}
pub use Rattle.std.specs.BTreeMap.{is_at}
pub use Rattle.std.specs.List.{flat_map}
pub use Rattle.std.specs.Ordering.{MatchOrdering}
pub use Rattle.std.specs.Prelude.{filter}
pub use Rattle.uv_ids.specs.declared.code.Answer.{Answer}
pub use Rattle.uv_ids.specs.declared.code.Code.TheVariants.{Ok as Success}
pub use Rattle.uv_ids.specs.declared.fault.Why.TheVariants.{Ended, Range}
pub use Rattle.uv_ids.specs.declared.phase.Phase.{Phase}
pub use Rattle.uv_ids.specs.declared.seen.Site.{Site}
pub use Rattle.uv_model.proofs.Found.{found_both}
pub use Rattle.uv_model.proofs.Order.{due_cmp_total}
pub use Rattle.uv_model.proofs.Refusals.{OfLoop, body_moves, loop_lines, main_moves, stage_moves, stage_refusal}
pub use Rattle.uv_model.specs.After.{lines}
pub use Rattle.uv_model.specs.Content.{content_keeps, content_pends, is_used}
pub use Rattle.uv_model.specs.Ids.{has_some, walk_without_id}
pub use Rattle.uv_model.specs.Next.{body_at, call, next_line}
pub use Rattle.uv_model.specs.State.{kind_as}
pub use Rattle.uv_model.specs.Timeout.{has_passed, has_pending, is_alive, poll_timeout, poll_timeout_by}
pub use Rattle.uv_model.specs.Timers.{due_after, watchers_without_id}
pub use Rattle.uv_model.specs.declared.place.Body.{Body}
pub use Rattle.uv_model.specs.declared.place.Place.{Place}
pub use Rattle.uv_model.specs.declared.place.Place.TheVariants.{Main}
pub use Rattle.uv_model.specs.declared.place.Run.{Run}
pub use Rattle.uv_model.specs.declared.place.Stage.{Stage}
pub use Rattle.uv_model.specs.declared.place.Stage.TheVariants.{Closing, Done, DoneUnwoken, Pending, Poll, Polled, Timers, Walking}
pub use Rattle.uv_model.specs.declared.place.TimersOf.{TimersOf}
pub use Rattle.uv_model.specs.declared.place.Timing.TheVariants.{Collecting, Firing}
pub use Rattle.uv_model.specs.declared.place.Turn.{Turn}
pub use Rattle.uv_model.specs.declared.place.Turn.TheVariants.{AtEntry, Behind, BehindClosing}
pub use Rattle.uv_model.specs.declared.place.Way.{Way}
pub use Rattle.uv_model.specs.declared.place.Way.TheVariants.{ToEnd, ToPending, ToTimers}
pub use Rattle.uv_order.specs.Active.{AreActive, AreAll, AreClosing, AreDistinct, AreDue, AreEnded, AreOpened, AreTimers, Before, Has, InOrder, IsEnded, IsOpened, has_id, run_ids}
pub use Rattle.uv_order.specs.Alive.{closes_some, has_handle, has_request, has_run, is_kept_by, lives, may_wait}
pub use Rattle.uv_order.specs.Answers.{AnswersFrom, AreAnswered, Facts, LineAnswers, MakesAs, OpAnswers, active_told, asked, cancel_says, changes, facts, facts_answered, facts_by, facts_done, facts_held, held_as, holds_answered, holds_by, holds_line, ids_held, is_invalid, is_of, live_told, new_facts, says, says_of}
pub use Rattle.uv_order.specs.Documented.{AllOff, AllOffOrUnsent, Answering, Begun, Between, CallsNext, Documented, Entry, Goes, GoesOn, In, IsCallLine, IsOver, Lasting, MayAnswer, MayLeave, MayPass, Names, NoneDue, Opens, Polling, Position, Running, Section, Standing, Told, Within, after_op, at_first, body_of, callback_in, cut, ids_of, is_called, lasting, line, names_by, next_call, nothing_told, off_by, part_after, part_of, sent_after, sent_by, sites_from, taken_off, times, told_by, told_of, without_ids, word_of}
pub use Rattle.uv_order.specs.Dues.{AreDueTold, behind, due_told, lines_onto, seens, starting, starts, starts_anew, starts_answered, starts_called, starts_op}
pub use Rattle.uv_order.specs.GettingOn.{Lessens, body_left, quiet, quiet_at}
pub use Rattle.uv_order.specs.History.{history_from, line_of_step}
pub use Rattle.uv_order.specs.InTurn.{AllCalled, AreInTurn, InTurn, InTurnFrom, IsFirstOf, KindInTurn, calls_kind, fronts, left_answered, left_line, left_to_call, listed, listed_answered, listed_by}
pub use Rattle.uv_order.specs.Line.{Line}
pub use Rattle.uv_order.specs.Once.{Activity, Answered, CancelSays, MakesNew, MayFollow, Once, OnceFrom, OpSays, SaysTrue, activity, activity_answered, activity_by, activity_called, activity_done, answered, binds, bound, bound_by, cancels, closes, closes_by, first_of, handle_of, has_after_line, has_cancel_line, has_closed_line, has_finish_line, has_take_line, is_after_line, is_cancel_line, is_closed_line, is_finish_line, is_some_id, is_take_line, made_as, made_by, makes, new_activity, queued_by, queued_task, queues, was_closed}
pub use Rattle.uv_order.specs.PoolEvents.{done_as, line_events, op_events, outside_events, pool_events, pool_of, was_finished}
pub use Rattle.uv_order.specs.Reached.{AreSetAside, BeginsAt, BeginsBehind, BeginsIn, IsReached, IsSetAside}
pub use Rattle.uv_order.specs.Refused.{AllSilent, AllWithin, RefusedOnce, RefusedOrder, holds_io, is_send, is_send_op, is_within, past_after}
pub use Rattle.uv_order.specs.Taking.{IsTakenAs}
pub use Rattle.uv_records.specs.Handles.{begun_at, is_io, sent}
pub use Rattle.uv_records.specs.Lists.{phase_of}
pub use Rattle.uv_records.specs.Slots.{id_of, next_id, next_unused}
pub use Rattle.uv_records.specs.Walks.{Walk as Listed, moved_on, nothing_listed}
pub use Rattle.uv_work.proofs.Replays.{events_both}
pub use Rattle.uv_work.specs.Digests.{digest_of}
pub use Rattle.uv_work.specs.Pool.{IsLegal, Pool, after_event, after_events, collected_from, empty_pool, has, is_done, runs, then_event, waits, without}
pub use Rattle.uv_work.specs.Requests.{is_open}
pub use Rattle.uv_work.specs.declared.event.PoolEvent.{PoolEvent}
pub use Rattle.uv_work.specs.declared.outcome.Outcome.TheVariants.{Open}
unfoldable pub use Rattle.uv_model.specs.After.{after, seen_by}
unfoldable pub use Rattle.uv_model.specs.Next.{next}
unfoldable pub use Rattle.uv_order.specs.History.{history}
unfoldable pub use Rattle.uv_work.specs.Pool.{replay}
