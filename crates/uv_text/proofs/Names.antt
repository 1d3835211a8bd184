-- The names that proofs of this crate bring in.
pub use Rattle.uv_model.proofs.Names.{AcceptsFrom, All, AllByRecursion, Bool, Callback, CallbackLine, CanStep, Cancel, Cancelled, Code, Content, Due, Err, Event, Finish, Finished, HandleRecord, Id, Io, IsMove, Kind, List, Loop, MainOp, Moves, Named, Next, None, Ok, Op, Option, Outcome, Program, Refuses, Request, Result, Seen, Send, Slot, Slots, Some, State, Take, Task, Tick, Var, Walk, WatcherKind, Why, [], activated, add-one, after_walk, again_refusal, all_yet, ap, arena_size, arith, as_handle, begin_walk, body_step, call_io, calls, close_front, close_refusal, collect_request, cond, cond_both, counted, digest_in, do_op, drop, elements, false, finish, fire, first_due, freed, fresh, from_heap, front, front_moved, front_request, get_or, goes, goes_by, handle, handle_in, has_io, held, held_in, if◌then◌else◌, inited, io_handle, io_run, is_async, length, list_any, live, live_handle, live_id, live_request, loop_step, main_step, may_leave, named, nat_le, nat_lt, next_free, next_work, no_refusal, none-some, option_and_then, order_of, queued, referenced_as, refl, refreshed, refreshes, repeating, request_in, restarted, run_step, same_Some, same_id, seen_from, seen_of, send_refusal, slice_get, slice_set, stage_polled, stage_step, start_timer_refusal, start_watcher_refusal, started, state_of, stop_refusal, stopped, subst, suc, sym, take, take_more, taken, taken_from, taken_off, takes_io, text_of, time_polled, timer_refusal, timers, true, turns, unbound, walk, walk_async, watched, watcher_kind, way, with_first, with_handle, with_id, with_named, with_watched, work_of, zero, ℕ, ◌&&◌, ◌++◌, ◌+◌, ◌<◌, ◌==◌, ◌^◌, ◌∙◌, ◌∷◌, ◌≡◌, ◌≤◌}
pub use Rattle.uv_script.proofs.ProofNames.{All-append, All-head, All-nil, All-tail, Contains, CutShort, Decides-eqb, IfNone, IfSome, IsDeclared, IsDigit, IsLetter, IsLine, IsName, IsNumber, IsSlotCount, IsTrue, MOST_SLOTS, Writes, and_parts, append-nil, append_assoc, both_ways, bytes_eq, bytes_eq-Decides, codes, decimal, eq-eqb, err_from_is_err_and, fields_of, inl, inr, is_line, is_skipped, le-leb, leb-true, length-append, length-decimal-le, length-set, lines_text, list_all, lt-ltb, ltb-true, map, mode_word, name_text, ne_eqb, option_map, rules, script_lines, slice_get-get_or, slice_get_within, text_or_none, worker_count, ◌-◌, ◌||◌, ◌↔◌, ◌⊎◌}
pub use Rattle.uv_session.proofs.Names.{OnOk, Phase, STEPS, Shown, flat_map, length-seen_by, lines, option_to_list}
pub use Rattle.std.proofs.Common.{take_all, vec_capacity, vec_len, ◌%◌, ◌*◌, ◌/◌}
pub use Rattle.std.proofs.lemmas.Bool.{cond-false, cond-true, le-ltb, lt-leb}
pub use Rattle.std.proofs.lemmas.Fmt.{decimal_step}
pub use Rattle.std.proofs.lemmas.Grind.{flat_map-append}
pub use Rattle.std.proofs.lemmas.List.{length-replicate}
pub use Rattle.std.proofs.lemmas.List.Elements.{All-cons}
pub use Rattle.std.proofs.lemmas.Slice.Eq.{starts_is}
pub use Rattle.std.specs.List.{filter}
pub use Rattle.hex.proofs.HexLemmas.{length-encode_with}
pub use Rattle.hex.specs.Hex.{encode_lower, lower_digits}
pub use Rattle.uv_ids.specs.Words.{code_named, code_word, phase_word}
pub use Rattle.uv_ids.specs.declared.fault.Why.TheVariants.{Range}
pub use Rattle.uv_model.proofs.Bounded.{after_able}
pub use Rattle.uv_model.proofs.Counting.{if_keeps}
pub use Rattle.uv_model.proofs.Found.{found_both}
pub use Rattle.uv_model.proofs.Runs.{after-nil, after-push}
pub use Rattle.uv_model.proofs.Walks.{front_freed, request_freed}
pub use Rattle.uv_model.specs.Layout.{LiesFor}
pub use Rattle.uv_model.specs.Limits.{LATEST}
pub use Rattle.uv_model.specs.Queries.{numbers, run_by}
pub use Rattle.uv_model.specs.declared.layout.LaidSlot.{LaidSlot}
pub use Rattle.uv_model.specs.declared.layout.Layout.{Layout}
pub use Rattle.uv_model.specs.declared.place.Body.{Body}
pub use Rattle.uv_model.specs.declared.place.Place.{Place}
pub use Rattle.uv_model.specs.declared.place.Place.TheVariants.{Main, Running}
pub use Rattle.uv_model.specs.declared.place.Run.{Run}
pub use Rattle.uv_model.specs.declared.place.Stage.{Stage}
pub use Rattle.uv_model.specs.declared.place.Stage.TheVariants.{Closing, Done, DoneUnwoken, Entry, Pending, Poll, Polled, Timers, Walking}
pub use Rattle.uv_model.specs.declared.place.TimersOf.{TimersOf}
pub use Rattle.uv_model.specs.declared.place.Timing.{Timing}
pub use Rattle.uv_model.specs.declared.place.Timing.TheVariants.{Collecting, Firing}
pub use Rattle.uv_model.specs.declared.place.Turn.{Turn}
pub use Rattle.uv_model.specs.declared.place.Turn.TheVariants.{AtEntry, Behind, BehindClosing}
pub use Rattle.uv_model.specs.declared.place.Way.{Way}
pub use Rattle.uv_model.specs.declared.place.Way.TheVariants.{ToEnd, ToPending, ToTimers}
pub use Rattle.uv_records.specs.Handles.{is_io}
pub use Rattle.uv_records.specs.Slots.{next_id, next_unused, with_held}
pub use Rattle.uv_script.proofs.AfterLines.{line_begins}
pub use Rattle.uv_script.proofs.Agrees.{AreDistinct, declared_contains, place_complete}
pub use Rattle.uv_script.proofs.Checks.{is_line_decides, is_skipped_decides, number_of-complete, number_of-sound}
pub use Rattle.uv_script.proofs.Cuts.{fields-last}
pub use Rattle.uv_script.proofs.Places.{place_of-finds, place_of-sound}
pub use Rattle.uv_script.proofs.ReadBack.{decimal_printable, decimal_unspaced, is_number, name_unspaced, printable_front}
pub use Rattle.uv_script.proofs.Texts.{lines_text-append}
pub use Rattle.uv_script.proofs.Writing.{Begins, begins_itself, begins_more, cut_before, cut_behind, cut_whole, writing}
pub use Rattle.uv_script.specs.Checks.{number_of}
pub use Rattle.uv_session.specs.declared.breaks.Break.{Break}
pub use Rattle.uv_text.specs.Commands.{Asks, IsBreak, IsCommand, IsNoCommand, IsStep, LAST_WORKER, MOST, asked_in, bad, command, has_step, nothing}
pub use Rattle.uv_text.specs.Image.{IsImageText, LAYOUT_PARTS, counts_line, entry_text, image_text, layout_parts, link_part, links_from, named_ends, or_dash, place_text, places_line}
pub use Rattle.uv_text.specs.Parts.{parts_from}
pub use Rattle.uv_text.specs.Reading.{asked_for, asked_of, break_of, clears, command_alone, command_by, command_of, command_with, command_with_two, section_of, step_by, worker_step}
pub use Rattle.uv_text.specs.Recorded.{IsCallbackLine, SaysStep, after, begins, call, closed, is_callback_line, loop, outside, step_asked, step_of}
pub use Rattle.uv_text.specs.Recording.{callback_lines, called_part, called_text, first_line, is_callback, recording_parts, step_line, step_part}
pub use Rattle.uv_text.specs.State.{LAST_PARTS, callback_word, flagged, front_text, kind_text, member_text, members_line, name_part, names_upto, numbered, outcome_text, part_count, record_text, run_text, running_line, runs_upto, slot_part, slots_upto, stage_text, state_part, state_parts, state_text, text_after}
pub use Rattle.uv_text.specs.Trace.{answer_text, appended_part, end_text, handle_text, id_text, line_text, outside_text, seen_text, site_text}
pub use Rattle.uv_text.specs.declared.command.Asked.{Asked}
pub use Rattle.uv_text.specs.declared.command.Asked.TheVariants.{Bad, Do, Nothing}
pub use Rattle.uv_text.specs.declared.command.Command.{Command}
pub use Rattle.uv_text.specs.declared.command.Command.TheVariants.{AddBreak, Back, Forward, StateOf, Step}
pub use Rattle.uv_work.proofs.DigestBytes.{IsDigest, is_digest}
pub use Rattle.uv_work.specs.declared.outcome.Outcome.TheVariants.{Open}
