-- The names that proofs of this crate bring in.
pub use Rattle.uv_arena.proofs.ProofNames.{IfSome, IsFirst, IsListed, LIST_COUNT, chain, eq-eqb, first, is_some, length-map, name_at, number, pends_in, slice_index_or, slot_in, slot_of, take}
pub use Rattle.uv_heap.proofs.Names.{IsBeforeAll, IsInOrder, IsOrdered, NoneBefore, and_from, cases_Bool, count_by, false≢true, inserted, is_before, is_same, no_entry, sum_by-IsPermutation, sum_by-cons}
pub use Rattle.uv_memory.proofs.Names.{By, Extended, Handle, Held, Image, IsChanged, IsFit, IsIn, IsRescheduled, IsSound, ListName, Record, RecordUndo, Recorded, Running, Timed, TimerChange, TimerUndo, active_count, becoming, binding, calling, counted, counted_of, eqb, eqb_tells, get-slots, handle_of, held_slots, held_tells, id_in, image_of, length-append, list_of, min, named, on_list, one_if, only_handle, plain_slots, record_at, request_of, rules, set, slot_at, timed_of, with_timed, without, without_none, yet_of, ◌≢◌}
pub use Rattle.uv_order.proofs.Names.{AreActive, Before, Bool, Callback, Calls, Code, Content, Due, Equal, Err, Greater, HandleRecord, Has, Id, InOrder, IsReached, IsSetAside, Kind, Less, List, MatchOrdering, Named, None, Ok, Option, Ordering, Place, Request, Result, Slot, Some, State, Var, Walk, WatcherKind, [], again_refusal, and_parts, ap, arith, as_handle, begun_at, both_ways, cond, content_keeps, count_of, due_after, due_cmp, due_cmp_total, eqb-true, false, handle, has_id, has_pending, if◌then◌else◌, inl, inr, invalid_if, is_alive, is_at, is_open, is_startable, is_timer, kind_as, length, list_any, live, live_handle, live_id, map, map-append, nat_cmp, not, only_if, option_and_then, option_map, ordering_reverse, ranked, refl, request, request_in, restarted, run_ids, same_id, slice_get, start_timer_refusal, started, stopped, subst, suc, sym, true, watched, with_handle, with_id, with_named, with_timer, without_id, without_timer, zero, ℕ, ◌&&◌, ◌++◌, ◌+◌, ◌-◌, ◌<◌, ◌==◌, ◌||◌, ◌∙◌, ◌∷◌, ◌≡◌, ◌≤◌, ◌⊎◌}
pub use Rattle.uv_requests.proofs.Names.{IsHeld, busy, content_is, done_in, same_itself}
pub use Rattle.uv_timer.proofs.Names.{Entry, cleared, same_is, starting}
pub use Rattle.std.proofs.Common.{ap₂}
pub use Rattle.std.proofs.lemmas.Cmp.{tied_itself}
pub use Rattle.std.proofs.lemmas.List.{append_assoc, set-set}
pub use Rattle.std.proofs.lemmas.List.Sorted.{answers_always}
pub use Rattle.std.specs.List.Sorted.{IsPermutation, IsSortedBy}
pub use Rattle.std.specs.Ordering.{is_eq, is_lt, match_ordering, ordering_then}
pub use Rattle.std.specs.Prelude.{IfOk}
pub use Rattle.uv_arena.proofs.Lookups.{is_on}
pub use Rattle.uv_arena.proofs.Memories.{get-links}
pub use Rattle.uv_arena.proofs.Names.{number_apart}
pub use Rattle.uv_arena.specs.declared.links.Cell.{Cell}
pub use Rattle.uv_handle.specs.Counted.{found}
pub use Rattle.uv_heap.proofs.OrderLemmas.{counts_itself}
pub use Rattle.uv_heap.proofs.Ranks.{ranks}
pub use Rattle.uv_ids.specs.declared.code.Code.TheVariants.{Ok as success}
pub use Rattle.uv_memory.specs.Image.{OnlyTimed}
pub use Rattle.uv_model.proofs.Order.{another}
pub use Rattle.uv_model.specs.Layout.{open_requests}
pub use Rattle.uv_model.specs.Limits.{LONGEST_POLL}
pub use Rattle.uv_model.specs.Ops.{again, bound_to, is_in_use, start, stop}
pub use Rattle.uv_model.specs.Queries.{members, timer_ids}
pub use Rattle.uv_model.specs.Timeout.{has_closing, until_first}
pub use Rattle.uv_model.specs.Timers.{taken_off}
pub use Rattle.uv_order.specs.Active.{IsActive, IsClosing, IsTimer}
pub use Rattle.uv_records.specs.Refusals.{refusal, start_watcher_refusal}
pub use Rattle.uv_requests.proofs.Holding.{content_of, id_is, listed_id}
pub use Rattle.uv_requests.proofs.Rules.{not_same}
pub use Rattle.uv_stands.specs.Doing.{Does, OfEach, Returns}
pub use Rattle.uv_stands.specs.Stands.{AreTimers, StandsFor, timer_in, values_in}
pub use Rattle.uv_timer.specs.Changes.{set_at, starting_again, stopping}
pub use Rattle.uv_work.specs.Content.{is_sent_to, only_request}
pub use Rattle.uv_work.specs.declared.content.Content.TheVariants.{Request as Asked}
