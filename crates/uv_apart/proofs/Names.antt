-- The names that proofs of this crate bring in.
pub use Rattle.uv_alike.proofs.Names.{Coded, Entry, IdleWorker, IsExact, LATEST, Running, Timing, ap₂, cancel, cancels, cancels_at, cancels_line, cancels_main, cancels_op, cancels_run, changed_answer, changed_content, changed_line, changed_place, found_or, is_some, place_reads_clock, reads_clock, same, send, take, next_map, state_map}
pub use Rattle.uv_order.proofs.Names.{Answer, AtEntry, Behind, BehindClosing, Body, Bool, CallbackLine, Closing, Code, Collecting, Content, Done, DoneUnwoken, Err, Event, Finish, Finished, Firing, HandleRecord, Id, Io, IsOpened, IsReached, List, Loop, Main, MainOp, Moves, Next, None, Ok, Op, Option, Order, Pending, Place, Poll, Polled, Program, Range, Refuses, Request, Result, Run, Seen, Send, Slot, Slots, Some, Stage, State, Take, Tick, Timers, TimersOf, ToEnd, ToPending, ToTimers, Turn, Var, Walking, WatcherKind, Way, Why, [], ap, arena_size, arith, as_handle, cond_both, content_keeps, content_pends, digest_of, do_op, drop, elements, eq-eqb, eqb-true, false, freed, from_heap, front, front_request, handle, handle_in, has_id, held, held_in, id_of, if◌then◌else◌, io_handle, io_run, is_open, is_used, length, lines_in, list_any, live, live_handle, live_id, live_request, named, nat_le, nat_lt, next_free, next_id, next_unused, next_work, not, option_map, or_right, order_of, refl, request, request_in, run_ids, same_Some, same_id, seen_of, send_refusal, slice_get, slice_set, state_of, subst, suc, sym, taken_from, text_of, true, with_handle, with_id, work_of, zero, ℕ, ◌++◌, ◌+◌, ◌==◌, ◌||◌, ◌∙◌, ◌∷◌, ◌≡◌}
pub use Rattle.std.proofs.lemmas.List.{map-id, set_comm}
pub use Rattle.uv_alike.proofs.Ops.{place_asks_done, run_asks_done}
pub use Rattle.uv_apart.specs.Apart.{Crosses, LeavesPlace, Meets, is_apart, is_apart_at, is_apart_line, is_apart_main, is_apart_op, is_apart_run, is_apart_stage}
pub use Rattle.uv_ids.specs.declared.fault.Why.TheVariants.{NoWork}
pub use Rattle.uv_model.specs.After.{IsMove, after}
pub use Rattle.uv_model.specs.Next.{call_io, finish, tick}
pub use Rattle.uv_model.specs.Ops.{ended}
pub use Rattle.uv_order.proofs.IdLists.{has_both, has_new_middle, itself}
pub use Rattle.uv_order.proofs.Reaching.{reached}
