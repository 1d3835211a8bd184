-- The names that proofs of this crate bring in.
pub use Rattle.uv_asking.proofs.Names.{is_some, said_of}
pub use Rattle.uv_engine.proofs.Names.{AllByRecursion, AllTaken, Begins, Bool, Callback, CallbackLine, Decides-eqb, Do, Err, Event, Fault, HasAnswer, IsBadLine, IsCommand, IsLine, IsScript, List, Loop, MainOp, MissesBegin, NeverBegins, NoFeed, NoScript, None, Option, Out, ParsesFrom, Program, SaysStep, Some, Step, TakesLine, Var, [], after_last, ap, append-nil, append_assoc, ap₂, arena_size, arith, at_line, begins_itself, begins_more, both_ways, callback_line, cases_order, codes, cut_before, cut_whole, err_from_is_err_and, false, fields_of, flat_map, from_heap, has_io, has_step, heap_line, here, here_at_end, inl, inr, io_line, is_line_decides, later, length, length-map, line_if, line_number, lines_back, lines_in, lines_of, lines_step, loop, main_line, map, map-append, name_lines, nat_lt, no_bad_line, none-some, not, one_bad_line, one_script, order_line, order_of, outside, read_lines, refl, rules, same_Some, script_lines, setting_lines, slice_get, slots_line, step_line, subst, suc, sym, take, take_all, thread_line, true, unread, unread_in, unwrap_or, var_line, with_line, worker_count, workers_line, writing, zero, ℕ, ◌++◌, ◌+◌, ◌-◌, ◌<◌, ◌==◌, ◌^◌, ◌∙◌, ◌∷◌, ◌≡◌, ◌≢◌, ◌≤◌}
pub use Rattle.uv_script.proofs.ProofNames.{Callbacks, IsReadBack, and_from, and_parts, callback_lines, cond, cond_some, eqb-true, is_none, lines_text, list_all, list_any, lt-ltb, ltb-true, main_op, nat_eq, ne_eqb, no_callbacks, op_at, option_eq, option_map, slice_get_within, take-append_seam, ◌&&◌, ◌||◌, ◌⊎◌}
pub use Rattle.uv_text.proofs.Names.{IsStep, Op}
pub use Rattle.std.proofs.lemmas.List.{length-append}
pub use Rattle.std.proofs.lemmas.Option.{slice_get_past}
pub use Rattle.std.specs.Fmt.{decimal}
pub use Rattle.uv_asking.specs.Asked.{Asked, asked_in}
pub use Rattle.uv_asking.specs.declared.asking.Question.{Question}
pub use Rattle.uv_engine.proofs.Starting.{CanBegin, can_go_on, can_start, front_begun, front_missing, no_script, no_script_fault}
pub use Rattle.uv_engine.specs.Out.{End}
pub use Rattle.uv_inquiry.specs.Drafts.{Draft, IsNew, asked_by, finished, unsaid, with_part}
pub use Rattle.uv_inquiry.specs.Grammar.{Asks, IsBadAsking, IsBadInput, IsInquiry, Parses, Reads, ReadsAll, behind, in_script, no_begin, no_question, none, one, says, skips}
pub use Rattle.uv_inquiry.specs.Repeats.{GoesOn, HasOp, HasWanted, NoneAt, Repeats, idles, in_lines, is_main, is_wanted, repeats, sets, starts}
pub use Rattle.uv_inquiry.specs.Tests.{IsBadBehind, ReadsAsking, ReadsLine, ReadsLines, after_line, after_said, has_bound, has_offer, has_time, is_new, same_calls, same_offer, same_step}
pub use Rattle.uv_inquiry.specs.Texts.{bounds_text, clock_too, more_bound, more_bounds, some_text, states_text, steps_text}
pub use Rattle.uv_script.proofs.Writing.{feed_cut, last_behind, line_cut, line_fed, whole_behind}
pub use Rattle.uv_text.proofs.Cuts.{cut, each_cut}
