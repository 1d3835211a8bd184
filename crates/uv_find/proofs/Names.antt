-- The names that proofs of this crate bring in.
pub use Rattle.uv_alike.proofs.Names.{Change, Entry, LATEST, Timing, cancels, cancels_at, cancels_line, cancels_main, cancels_op, cancels_run, changed, changed_body, changed_callback, changed_entry, changed_event, changed_line, changed_main, changed_op, changed_place, changed_stage, changed_walk, is_some, reads_clock, next_map, state_map}
pub use Rattle.uv_model.proofs.Names.{call_io, finish, line_of, tick, way}
pub use Rattle.uv_order.proofs.Names.{AreDistinct, AreOpened, AtEntry, Behind, BehindClosing, Between, Body, Bool, Callback, CallbackLine, Callbacks, Calls, Cancel, Closing, Code, Collecting, Content, Done, DoneUnwoken, Due, Err, Event, Finish, Firing, Goes, HandleRecord, Id, Io, IsCallLine, IsReached, Lasting, Line, List, Loop, Main, MainOp, Mode, Moves, Named, Names, Next, None, OfLoop, Ok, Op, Open, Option, Order, Pending, Phase, Poll, Polled, Position, Program, Range, Refuses, Request, Result, Run, Section, Seen, Send, Site, Slot, Some, Stage, Standing, State, Take, Task, Tick, Timers, TimersOf, ToEnd, ToPending, ToTimers, Turn, Var, Walk, Walking, WatcherKind, Way, Why, [], after_op, and_parts, ap, append-nil, append_assoc, arena_size, arith, cond, count_of, drop, elements, eq-eqb, eqb-true, false, first_due, found_both, fresh, from_heap, front, front_request, goes, handle, handle_in, has_id, has_io, held, if◌then◌else◌, inl, inr, io_handle, io_run, is_for, is_open, is_timer, lasting, length, lines_in, list_any, live_handle, live_request, loop_lines, main_op, map, may_leave, named, names_by, nat_le, nat_lt, nat_tests, next_work, no_callbacks, none-some, not, nothing_told, op_at, option_and_then, option_map, or_right, order_of, refl, request, request_in, run_ids, same_Some, same_id, send_refusal, slice_get, slice_get_past, slice_get_within, slice_set, state_of, subst, suc, sym, takes_io, text_of, told_by, true, unbound, unwrap_or, watched, with_id, work_of, worker_count, zero, ℕ, ◌&&◌, ◌++◌, ◌+◌, ◌-◌, ◌<◌, ◌==◌, ◌||◌, ◌∙◌, ◌∷◌, ◌≡◌, ◌≤◌, ◌⊎◌}
pub use Rattle.uv_script.proofs.ProofNames.{IsWhole, ap₂, callbacks_of, cases_order, common_steps, drop-cons, get_or, get_or_from_slice_get, is_none, length-append, length-map, list_all, lt-ltb, ltb-true, min, nat_eq, op_name, option_eq, same_callbacks, same_line, same_main, same_op, same_work, slice_get-map, take, true≢false, ◌^◌}
pub use Rattle.uv_search.proofs.Names.{Answers, CoversMoves, CoversStep, Has, IsApart, IsCovered, LeadTo, Meet, length-take-le, pointwise, reverse, reverse-append, slice_index_or}
pub use Rattle.uv_session.proofs.Names.{AllocError, Outcome, STEPS, Shown, length-take}
pub use Rattle.uv_slots.proofs.Names.{AreDeclared, CanBury, goes_on, option_same, place_in, vacant}
pub use Rattle.uv_state_key.proofs.Names.{add-one, drop_all, holds_after, key_code, number_code, numbers_tell, take_all, with_run, ◌*◌}
pub use Rattle.uv_tale.proofs.Names.{Bound, By, ClockFits, Fits, Gone, IsInSlot, IsOrder, IsRegular, IsTidy, IsTimed, IsTimer, IsYoung, LeadsRegular, NextAlike, Nothing, Retiming, Running, Tale, Told, arranged_slots, as_id, base, bound_by, bound_to, calls_timer, capped_calls, capped_place, earlier, get_arranged, is_of_worker, later, least_start, line_by, name_at, name_in, names_at, next_by, number_of, or_first, or_over, ordered, place_of, retimed_content, retimed_place, run_names, runs_at, same_place, shift, tale, tale_by, times, told_line, told_name, vacancies, walk_at}
pub use Rattle.std.proofs.Common.{max}
pub use Rattle.std.proofs.lemmas.List.{length-replicate}
pub use Rattle.std.specs.List.{position_from}
pub use Rattle.uv_alike.proofs.Mapped.{held_mapped}
pub use Rattle.uv_apart.proofs.Kept.{loop_keeps, ticks_apart}
pub use Rattle.uv_apart.proofs.Pool.{finish_next, finishes_apart, next_finishes, next_takes, take_next, take_refuses, takes_apart}
pub use Rattle.uv_apart.proofs.Taken.{finish_leaves, take_leaves, tick_leaves}
pub use Rattle.uv_apart.specs.Apart.{Crosses, LeavesPlace, Meets, is_apart}
pub use Rattle.uv_asking.specs.Asked.{Asked, asked_in}
pub use Rattle.uv_asking.specs.declared.asking.Most.{Most}
pub use Rattle.uv_asking.specs.declared.asking.Offer.{Offer}
pub use Rattle.uv_asking.specs.declared.asking.Offer.TheVariants.{SendDuring, Step, Wait, WaitFor}
pub use Rattle.uv_asking.specs.declared.asking.Offered.{Offered}
pub use Rattle.uv_asking.specs.declared.asking.Question.{Question}
pub use Rattle.uv_asking.specs.declared.asking.Recorded.{Recorded}
pub use Rattle.uv_asking.specs.declared.asking.Takes.{Takes}
pub use Rattle.uv_asking.specs.declared.asking.Which.{Which}
pub use Rattle.uv_find.specs.Courses.{AnswersBy, Course, IsAnswer, IsOffered, KeptCourse, LeadsOn, NeverAnswered}
pub use Rattle.uv_find.specs.Forgetting.{LONG, LONGEST, are_aside, are_common, are_small_offers, are_small_takes, asks_no_more, calls_end, declares, forget_of, is_aside, is_common, is_declared, is_small_op, may_forget, most_end, question_end, takes_end}
pub use Rattle.uv_find.specs.Found.{AllLead, AreClosed, AreReached, EachFinishes, Finds, IsDeepest, KeysTell, OneLeads}
pub use Rattle.uv_find.specs.Holding.{are_all_at_will, are_at_will, are_clear_of_takes, asks_late, can_all_meet, can_meet, hold_of, is_at_will, is_clear_of_takes, is_empty, is_loop_apart, is_no_cancel, is_of_pool, loop_number, may_hold, may_take_at_once, may_take_io, test_of}
pub use Rattle.uv_find.specs.Kept.{along_after, arrived, caller, due_else, due_in, due_of, due_under, is_in_timers, is_over, is_poll, is_timers_stage, kept_after, kept_due, nearer, none_kept, onward, or_time, owed_after, owed_by, owed_in, owes, said_time, takes_time, time_at_end, time_taken, with_spare}
pub use Rattle.uv_find.specs.Mates.{are_run_alike, body_spares, has_mate, is_covered, is_covered_by, is_mate, main_spares, mates_in, mates_of, offer_spares, offers_spare, place_spares, question_spares, request_of, same_calls}
pub use Rattle.uv_find.specs.Ops.{each_op, is_beside, of_callbacks, of_lines, of_main, spares}
pub use Rattle.uv_find.specs.Orders.{Choice, Led, Place, Rules, aim, asked_late, at_will, beginning, brief, came, choice_by, chosen, closes, come_by, come_in_place, comes, comes_by, deadline_at, deadline_in, elsewhere, elsewhere_by, elsewhere_of, elsewhere_with, ends_within, event_of, every_offer, finishes, first_left, first_offer, first_offers, free_of, go_on, go_on_by, going, held_back, in_place, in_place_of, is_behind_poll, is_blocked, is_brief, is_called_within, is_clear, is_closing, is_due, is_free, is_in_poll, is_made, is_new, is_poll_stage, is_quiet, is_run, is_seen, is_within, keeps_clock, led, led_by, less, lessened, lessened_by, may_last, may_take, move_count, move_count_by, next_of, offered_by, offered_here, past, placed, reached, recorded_at, refused_as_blocked, sources, spare_behind, spending, spent, step_of, take_by, taken, timed, times_left, wait_for, wait_until, waited_for, waiting, waits_or_goes, with_kept}
pub use Rattle.uv_find.specs.Questions.{answered_name, answers, answers_line, begun, has_ended, is_awaited, is_call, is_late, is_name, is_of, is_uncalled, is_which, line_answers, none_leads, place_answers}
pub use Rattle.uv_find.specs.Ranks.{by_rank, count_before, finish_by, idle_worker, is_of_rank, key_at, keys_run, rank_in, rank_of, ranked, run_in, runner}
pub use Rattle.uv_find.specs.Same.{all_turned, op_code, op_task, op_times, other_name, same_call, same_task, same_tasks, turned_callbacks, turned_line, turned_lines, turned_name, turned_op}
pub use Rattle.uv_find.specs.Spots.{AreBrief, AreMates, AreOfPool, CanForget, CanHold, CanTakeAtOnce, HasRoom, IsDeep, IsSearched, IsSpot, IsStanding, IsTold, MayForget, MayHold, Searched, Spot, along_code, apart, apart_by, covered, each_code, event_code, first_spot, holds_back, is_few, is_loop_first, is_take_first, is_told, kept_code, kind_code, left_before, left_code, next_spot, place_by, place_code, rules_by, rules_of, searched, spot_code, spot_of, spots_before, told, told_due}
pub use Rattle.uv_find.specs.Steps.{Makes, Stands, choice_of, has_none, is_idle, offer_taken, runs_none, state_in}
pub use Rattle.uv_find.specs.declared.kept.Along.{Along}
pub use Rattle.uv_find.specs.declared.kept.Kept.{Kept}
pub use Rattle.uv_find.specs.declared.left.Left.{Left}
pub use Rattle.uv_find.specs.declared.orders.Made.{Made}
pub use Rattle.uv_model.proofs.Runs.{after-moves, after-nil, after-push}
pub use Rattle.uv_model.specs.Queries.{run_by}
pub use Rattle.uv_names.proofs.Counted.{count_capped, script_before}
pub use Rattle.uv_names.specs.Counts.{all_end, call_end, callbacks_end, lines_end, script_end}
pub use Rattle.uv_order.proofs.Documents.{Holds, HoldsNext, holds_fresh, holds_next}
pub use Rattle.uv_script.specs.Program.{lines_of}
pub use Rattle.uv_search.proofs.Retracing.{some_left}
pub use Rattle.uv_search.specs.Ways.{Ends}
pub use Rattle.uv_session.specs.Breaks.{answers_code, begins_poll, begins_section}
pub use Rattle.uv_shift.specs.Retimed.{retimed_stage}
pub use Rattle.uv_shift.specs.Shift.{IsShort, IsShortOp}
pub use Rattle.uv_slots.specs.Alike.{AreAlike, by_names, moved_content, moved_slot, moved_var}
pub use Rattle.uv_tale.proofs.Given.{has_at, one_in_slot}
pub use Rattle.uv_tale.proofs.Reading.{Reads, reads_alike}
pub use Rattle.uv_tale.specs.Alike.{StepsAlike}
pub use Rattle.uv_tale.specs.Tale.{numbers_at}
pub use Rattle.uv_workers.proofs.Runs.{found_alike, swapped}
pub use Rattle.uv_workers.specs.Workers.{id_le}
