-- The lemmas of the lower files of this crate that the files above them bring in.
pub use Rattle.uv_order.proofs.Asked.{FrontRequest, RunsWork, TakesFront, freed_turns, request_front, request_turns, runs_work, takes_front}
pub use Rattle.uv_order.proofs.Bodies.{IsBody, is_body}
pub use Rattle.uv_order.proofs.Contents.{IsHeld, Turns, emptied, emptied_turns, get_set_same, holds, turned_to}
pub use Rattle.uv_order.proofs.Counted.{Counted, counted_call, counted_fresh, counted_kept, counted_sent, next_body, set_there, told_call}
pub use Rattle.uv_order.proofs.Did.{Did, FirstOf, FrontOf, IsStill, IsSync, did, first_of, front_of, timed}
pub use Rattle.uv_order.proofs.Gone.{IsGone, gone_emptied, gone_fill, gone_now, gone_push, gone_put, gone_turned, not_held}
pub use Rattle.uv_order.proofs.Holding.{Everyone, Fits, Grown, IsSet, Lists, NoNewNames, SameHandles, Times, emptied_other, emptied_same}
pub use Rattle.uv_order.proofs.Holding.{everyone_emptied, everyone_put, everyone_rest, fits_emptied, fits_put, fitted, fitted_emptied, grown_at}
pub use Rattle.uv_order.proofs.Holding.{held_at, is_held, its_handle, lists_emptied, name_at, name_in, names_turned, not_listed, put, put_names}
pub use Rattle.uv_order.proofs.Holding.{put_other, put_same, put_turns, same_handles, times_emptied, times_rest, Touches, still_touches}
pub use Rattle.uv_order.proofs.Holding.{start_touches, again_as, again_touches}
pub use Rattle.uv_order.proofs.IdLists.{AreSome, all_alike, once_middle, FirstLeft, all_off, distinct_back, distinct_front, distinct_push, first_left}
pub use Rattle.uv_order.proofs.IdLists.{has_both, has_but_one, has_new_middle, has_without, itself, left_of, more_off, none_off, on_list, other, same}
pub use Rattle.uv_order.proofs.IdLists.{still_absent, still_there, turned, without_absent, without_itself}
pub use Rattle.uv_order.proofs.Keeping.{Agree, AreFree, Closes, IsSound, Kept, Rests, Watches, agree_same, closed_kept, fills, free_held, free_put}
pub use Rattle.uv_order.proofs.Keeping.{free_set, has_number, io_started_kept, kept_all, members, new_kept, not_free, not_timer, off_list, on_off}
pub use Rattle.uv_order.proofs.Keeping.{open_shut, others, put_kept, restarted_again_kept, sound_put, started_again_kept, started_kept, stopped_kept}
pub use Rattle.uv_order.proofs.Keeping.{takes as taken_handle, watcher_started_kept}
pub use Rattle.uv_order.proofs.OpCases.{Agrees, DidOp, IsAsked, IsLive, IsRef, IsRefusal, cancel_both, io_kind, live_as_handle, live_bound, live_held}
pub use Rattle.uv_order.proofs.OpCases.{make_both, on_handle_both, op_did, refuses_close, send_both}
pub use Rattle.uv_order.proofs.OpEffects.{harmless, one_taken, op_effect, start_off, takes}
pub use Rattle.uv_order.proofs.Quiet.{IsOfHandles, IsOfLoop, KeepsWork, SameWork, did_same, op_same}
pub use Rattle.uv_order.proofs.TimerKeys.{distinct_due, due_ids, none_due}
pub use Rattle.uv_order.proofs.Working.{StaysWorking, Working, did_working, fresh_working, no_request}
pub use Rattle.uv_order.proofs.Works.{AllAsk, Asks, HasEnded, IsOpen, SameRequests, asked_at, fewer_run, fewer_wait, its_fit, more_run, none_run}
pub use Rattle.uv_order.proofs.Works.{runs_now, runs_open, same_put, same_requests, waits_open, worker}
