-- The names that proofs of this crate bring in.
pub use Rattle.std.proofs.Common.{All, Bool, Contains, Err, IfNone, IfSome, IsTrue, List, None, Ok, Option, Result, Some, [], ap, append-nil, append_assoc, ap₂, arith, cond, drop, false, get_or, if◌then◌else◌, inl, inr, length, length-append, length-set, map, min, nat_le, nat_lt, not, option_map, refl, rules, slice_get, subst, suc, sym, take, true, true≢false, unwrap_or, zero, ℕ, ◌&&◌, ◌++◌, ◌+◌, ◌-◌, ◌<◌, ◌==◌, ◌^◌, ◌||◌, ◌↔◌, ◌∙◌, ◌∷◌, ◌≡◌, ◌≢◌, ◌≤◌, ◌⊎◌}
pub use Rattle.std.proofs.Math.Seq.{append_snoc, drop-cons, drop-length, get_or-append_seam, set-append_seam, take-append_seam}
pub use Rattle.std.proofs.lemmas.Bool.{and_from, and_parts, both_ways, cases_Bool, cases_order, cond_both, eq-eqb, eqb-false, eqb-true, le-leb, leb-true, lt-ltb, ltb-true, ne_eqb, not-true}
pub use Rattle.std.proofs.lemmas.Bool.Decides.{Decides-by_and, Decides-eqb, Decides-or, nat_tests, same_from_decides}
pub use Rattle.std.proofs.lemmas.Fmt.{IsAscii-decimal, decimal-digits_value, decimal_digit, decimal_nonempty, digits_decimal, digits_value-decimal, first_decimal, length-decimal-le, parse-decimal}
pub use Rattle.std.proofs.lemmas.Grind.{common_steps}
pub use Rattle.std.proofs.lemmas.List.{get_or-set_other, get_or-set_same, get_or_append_left, length-map, map-append, take-append-drop, take_more}
pub use Rattle.std.proofs.lemmas.List.Elements.{All-append, All-contains, All-contains_itself, All-head, All-map, All-nil, All-push, All-tail, All-take, All-weaker, Contains-get_or, Contains-push_cases}
pub use Rattle.std.proofs.lemmas.List.Quantifiers.{all_pairs_push, position-Some}
pub use Rattle.std.proofs.lemmas.List.Splits.{join_with_byte-slice_split, length-slice_split, slice_split_at, slice_split_none}
pub use Rattle.std.proofs.lemmas.List.Sums.{prefix_len_passes, sum_by-append, sum_by-cons, sum_by-set, sum_by_push}
pub use Rattle.std.proofs.lemmas.Option.{cond_some, get_or_from_slice_get, none-some, same_Some, slice_get-get_or, slice_get-map, slice_get_within, unwrap_or-slice_get}
pub use Rattle.std.proofs.lemmas.Result.{err_from_is_err_and}
pub use Rattle.std.proofs.lemmas.Slice.Eq.{bytes_eq-Decides}
pub use Rattle.std.proofs.lemmas.Str.{IsUtf8-from_ascii}
pub use Rattle.std.proofs.lemmas.Str.Parse.{IsNumeralModel, numerals_by_value, parse_plain, tells_all_ascii_digits}
pub use Rattle.std.specs.BTreeMap.Range.{IsLeBy}
pub use Rattle.std.specs.BTreeSet.{BTreeSet, IsKeyInRange, IsKeyRangeOf, contains}
pub use Rattle.std.specs.Bool.{Decides}
pub use Rattle.std.specs.Borrow.{Bor}
pub use Rattle.std.specs.Char.{is_ascii_digit}
pub use Rattle.std.specs.List.{AllByRecursion, AllPairs, join_with_byte, list_all, list_any, onto_first, position, position_or_len, prefix_len}
pub use Rattle.std.specs.Option.{option_cmp, option_eq}
pub use Rattle.std.specs.Ordering.{is_eq, is_gt, nat_cmp, ordering_then}
pub use Rattle.std.specs.Prelude.{codes, decimal, is_none, nat_eq, option_and_then, slice_set, sum_by, ⊤}
pub use Rattle.std.specs.Str.{IsAscii, IsUtf8, all_ascii_digits, bytes_eq}
pub use Rattle.std.specs.Str.Parse.{ParsesUnsigned, digits_value}
pub use Rattle.std.specs.declared.cmp.Ordering.{Ordering}
pub use Rattle.std.specs.declared.cmp.Ordering.TheVariants.{Equal, Greater, Less}
pub use Rattle.std.specs.declared.ops.Bound.TheVariants.{Included, Unbounded}
pub use Rattle.indexmap.specs.IndexSet.{insert_key}
pub use Rattle.uv_ids.specs.Words.{IsNoKind, IsNoMode, IsNoOrder, kind_word, mode_word, order_word}
pub use Rattle.uv_ids.specs.declared.fault.Fault.{Fault}
pub use Rattle.uv_ids.specs.declared.id.Var.{Var}
pub use Rattle.uv_ids.specs.declared.order.Order.{Order}
pub use Rattle.uv_ids.specs.declared.phase.Kind.{Kind}
pub use Rattle.uv_ids.specs.declared.phase.Mode.{Mode}
pub use Rattle.uv_ids.specs.declared.seen.Callback.{Callback}
pub use Rattle.uv_ids.specs.declared.thread_line.ThreadLine.{ThreadLine}
pub use Rattle.uv_script.specs.Checks.{is_canonical, is_line, is_name, is_name_byte, is_number, is_printable, is_skipped}
pub use Rattle.uv_script.specs.Fields.{fields_left}
pub use Rattle.uv_script.specs.Grammar.{Declares, Draft, FromHeap, HasIo, HasRoom, HasWorkers, InCallback, InMain, InThread, IsBadLine, IsBadLineFrom, IsNew, IsOp, IsReadScript, IsScript, Makes, MakesFrom, MayMake, Orders, Parses, ParsesFrom, Reads, ReadsAll, Says, Sizes, Statement, WasRead, asks_io, bare, bare_word, blank, callback_word, closes_loop, declares, has_workers, in_call, in_callback, in_main, in_thread, init, io_said, named_word, none, on_name, one, orders, queue, queue_text, repeat, runs, says, says_heap, says_io, sizes, sizes_to, skips, start, unread, with_said, with_statement}
pub use Rattle.uv_script.specs.Index.{IsIndex, IsNoted, Spot, earlier, is_line_of, is_of, next_of, spot_cmp}
pub use Rattle.uv_script.specs.Laws.{HasNoBadLine, HasOneBadLine, HasOneScript, HasReading, IsBack, IsReadBack, IsReadWithoutIo}
pub use Rattle.uv_script.specs.Limits.{MOST_LINES, MOST_NAMES, MOST_SENDERS, MOST_SLOTS}
pub use Rattle.uv_script.specs.Lines.{IsCut, IsLine, IsSkipped, comment, empty, fields_of, lines_of, rest_of}
pub use Rattle.uv_script.specs.Names.{AreNames}
pub use Rattle.uv_script.specs.Program.{Callbacks, IsSlotCount, IsThreadLine, IsWhole, IsWorkerCount, LAST_GENERATION, Program, arena_size, callback_count, callbacks_of, from_heap, has_io, is_for, line_count, lines_in, lines_of as lines_in_callbacks, main_op, makes_io, next_line, no_callbacks, op_at, op_name, order_of, with_line, with_workers, worker_count}
pub use Rattle.uv_script.specs.Reading.{IsSaid, IsSound, ReadsLine, filled, first_of, has_room, is_new, marked, may_come, may_make, none_left, start_by, text_by}
pub use Rattle.uv_script.specs.Said.{said}
pub use Rattle.uv_script.specs.SameWork.{least_task, same_callbacks, same_line, same_main, same_op, same_work}
pub use Rattle.uv_script.specs.Text.{call_text, callback_line, callback_lines, front_text, heap_line, io_line, line_if, lines_text, main_line, name_lines, name_text, op_text, order_line, script_lines, setting_lines, slots_line, task_text, text_or_none, thread_line, var_line, workers_line}
pub use Rattle.uv_script.specs.Words.{IsDeclared, IsDigit, IsLetter, IsName, IsNumber}
pub use Rattle.uv_script.specs.Writes.{CutShort, Writes}
pub use Rattle.uv_script.specs.declared.callback_lines.TheConstants.{LOOKED_AT}
pub use Rattle.uv_script.specs.declared.op.CallbackLine.{CallbackLine}
pub use Rattle.uv_script.specs.declared.op.MainOp.{MainOp}
pub use Rattle.uv_script.specs.declared.op.Op.{Op}
pub use Rattle.uv_script.specs.declared.settings.Settings.{Settings}
pub use Rattle.uv_script.specs.declared.size.ArenaSize.{ArenaSize}
pub use Rattle.uv_work.proofs.TaskLemmas.{task_of-complete, task_of-sound}
pub use Rattle.uv_work.specs.Tasks.{IsTask, text_of}
pub use Rattle.uv_work.specs.declared.task.Task.{Task}
