-- The names that proofs of this crate bring in.
pub use Rattle.uv_script.proofs.ProofNames.{All-take, Draft, Fault, HasReading, IsBadLine, IsBadLineFrom, IsCut, IsScript, IsSkipped, MakesFrom, Parses, ParsesFrom, ap₂, callback_line, cases_order, comment, common_steps, empty, get_or-append_seam, get_or_append_left, get_or_from_slice_get, heap_line, io_line, io_said, length-map, line_if, lines_in, lines_of, main_line, map-append, name_lines, nat_tests, not, onto_first, order_line, setting_lines, slots_line, take-append-drop, thread_line, unread, unwrap_or, var_line, workers_line, ◌≢◌}
pub use Rattle.uv_session.proofs.Names.{NoneFrom, Outcome, RunsTo, TakesEvent, accepts-push, after, length-take, moved_back, moved_forward, seen_by, stop_of, stops, take_all}
pub use Rattle.uv_text.proofs.Names.{All-append, All-head, All-tail, AllByRecursion, AreDistinct, Asks, Bool, Break, Callback, CallbackLine, Contains, CutShort, Decides-eqb, Err, Event, IsCallbackLine, IsCommand, IsLine, IsName, List, MainOp, Moves, Next, None, Ok, OnOk, Option, Program, Refuses, Result, STEPS, SaysStep, Seen, Shown, Some, Var, Why, [], ap, append-nil, append_assoc, arena_size, arith, asked_in, asked_of, bad, begins_itself, begins_more, both_ways, bytes_eq, bytes_eq-Decides, call, callback_lines, closed, codes, command, cond_both, cut_before, cut_whole, drop, elements, err_from_is_err_and, false, fields_of, filter, first_line, flat_map, from_heap, get_or, has_io, has_step, if◌then◌else◌, image_text, inl, inr, is_callback, is_line_decides, is_skipped_decides, length, length-append, length-seen_by, line_text, loop, map, nat_le, nat_lt, none-some, option_to_list, order_of, outside, parts_from, refl, rules, same_Some, script_lines, seen_text, slice_get, state_text, step_asked, step_line, subst, suc, sym, take, true, worker_count, writing, zero, ℕ, ◌++◌, ◌+◌, ◌-◌, ◌<◌, ◌==◌, ◌^◌, ◌∙◌, ◌∷◌, ◌≡◌, ◌≤◌}
pub use Rattle.std.proofs.Common.{IfErr, add-zero, drop-cons, length-drop, zero-add, ⊎_elim}
pub use Rattle.std.proofs.Math.Seq.{drop-append-add}
pub use Rattle.std.proofs.lemmas.Bool.{cases_lt}
pub use Rattle.std.proofs.lemmas.List.{append_cancel_left, drop-drop, drop_all, length-take-le, take-append-le}
pub use Rattle.std.proofs.lemmas.List.Elements.{All-from_recursion, filter-append}
pub use Rattle.uv_engine.specs.Alone.{ParsesAlone, ReadsAlone, SaysInFront}
pub use Rattle.uv_engine.specs.Devices.{Counted, IfOfInput, IsTooLong, OnAnswer, ReaderCounts, TakesWithin}
pub use Rattle.uv_engine.specs.Gather.{CutOff, Gathered, Gathers, GathersOne, Grown}
pub use Rattle.uv_engine.specs.Input.{Buffered, EndIsSeen, NoFeed, ReadsNear, StopsNear, TakesLine, TakesLong, TakesRest, left, pending, size, turns_left}
pub use Rattle.uv_engine.specs.Out.{BadScript, Begins, Converses, Ends, HasAnswer, HasOneAnswer, IsAnswer, IsConversationFault, IsDeviceFault, NeverBegins, Out, PrintsFor, Talks, asked_after, bad_input, bad_line, done_after, fresh_session, goes_on, here, here_at_end, image_in, images_in, input_ends, last_line, later, lies, no_begin, nothing, one_line, quits, talks}
pub use Rattle.uv_engine.specs.Recordings.{InCalls, InScript, InSteps, IsBadFrom, IsStuck, Part, Reads, ReadsAll, Start, Whole, begins, callback, calls, ends, in_script, none, one, step, unread_in, version, version_line}
pub use Rattle.uv_engine.specs.Reply.{Full, Reply, Took, add_after, add_text, at_text, back_after, back_text, break_back_after, break_back_text, break_text, forward_after, forward_text, last_break, last_match, may_follow, reply, reply_after, reply_text, reply_to, stop_text}
pub use Rattle.uv_engine.specs.Rerun.{FailsAt, HasCalls, HasSteps, IsJudged, IsReadingFault, IsTellingFault, Judges, JudgesRest, Met, MetSo, RanSo, ReadsTo, called_from}
pub use Rattle.uv_engine.specs.Start.{FindsSkipped, HasScript, IsBeforeLong, IsFirstBad, IsFirstSkipped, IsFront, IsStartFault, MissesBegin, NoLineBegins, NoScript, NoneSkipped, ParsesFront, ParsesNone, ReadsFront, ReadsScript, after_last, at_line, line_more, no_line, with_line}
pub use Rattle.uv_engine.specs.Taking.{IsReadFault, RefusesLong, SameReader, SkipsAhead, SpendsBudget, SpendsGiven}
pub use Rattle.uv_engine.specs.Talk.{Finishes, TakesAsked, TakesLineThatAsks, TalksCut, TalksOn}
pub use Rattle.uv_engine.specs.Verdict.{AllTaken, AreApart, HasOneVerdict, HasVerdict, IsHalt, IsReplayFault, IsVerdict, PartAt, Replays, Tells, cut_short, differs, full, halts, judged, no_memory, no_read, refused, same, verdict_text}
pub use Rattle.uv_engine.specs.declared.conversation.Ended.{Ended}
pub use Rattle.uv_engine.specs.declared.input.Line.{Line}
pub use Rattle.uv_engine.specs.declared.script.FrontEnd.{FrontEnd}
pub use Rattle.uv_engine.specs.declared.script.FrontEnd.TheVariants.{Begin, Input, Long}
pub use Rattle.uv_engine.specs.declared.verdict.Verdict.{Verdict}
pub use Rattle.uv_engine.specs.declared.verdict.Verdict.TheVariants.{Differs, Refused, Same}
pub use Rattle.uv_engine.specs.declared.version.Version.{Version}
pub use Rattle.uv_model.proofs.Runs.{accepts-nil, not_refused, seen_by-moves}
pub use Rattle.uv_model.specs.After.{Accepts, Answers}
pub use Rattle.uv_model.specs.Next.{next}
pub use Rattle.uv_script.proofs.AfterLines.{after_complete, distinct_none, distinct_reads, line_number, lines_step}
pub use Rattle.uv_script.proofs.Older.{reads_without_io}
pub use Rattle.uv_script.proofs.OneReading.{distinct_names, no_bad_line, one_bad_line, one_script}
pub use Rattle.uv_script.proofs.ReadBack.{lines_back, lines_read_back, read_lines, settled, text_makes}
pub use Rattle.uv_script.proofs.SomeReading.{some_reading}
pub use Rattle.uv_script.proofs.Writing.{begins_less}
pub use Rattle.uv_script.proofs.Written.{AreWritten, script_written}
pub use Rattle.uv_script.specs.Text.{callback_lines as script_callbacks, script_text}
pub use Rattle.uv_script.specs.declared.settings.Settings.{Settings}
pub use Rattle.uv_session.specs.Moving.{BREAKS, IsLastBreak, all, matches, on, stops_at}
pub use Rattle.uv_session.specs.declared.breaks.Stop.{Stop}
pub use Rattle.uv_text.proofs.Commands.{asks, asks_one}
pub use Rattle.uv_text.proofs.Played.{callbacks_said, played}
pub use Rattle.uv_text.proofs.Printed.{step_said}
pub use Rattle.uv_text.proofs.Showing.{is_image}
pub use Rattle.uv_text.proofs.Sizes.{CanBe}
pub use Rattle.uv_text.proofs.Wholes.{layout_whole, next_part, recording_whole, state_whole, trace_whole}
pub use Rattle.uv_text.specs.Image.{layout_text}
pub use Rattle.uv_text.specs.Recorded.{after as after_callback, after as after_line}
pub use Rattle.uv_text.specs.Recording.{recording_lines}
pub use Rattle.uv_text.specs.Trace.{appended_text}
pub use Rattle.uv_text.specs.declared.command.Asked.{Asked}
pub use Rattle.uv_text.specs.declared.command.Asked.TheVariants.{Bad, Do, Nothing}
pub use Rattle.uv_text.specs.declared.command.Command.TheVariants.{AddBreak, Back, BackToBreak, ClearBreaks, Forward, Image, Loop, Quit, Record, State, StateOf, Step, Trace, Walk}
