-- The names that proofs of this crate bring in.
pub use Rattle.uv_order.proofs.Names.{AreTimers, Before, Body, Bool, Calls, Content, Due, Event, Finish, HandleRecord, Has, Id, InOrder, Less, List, Main, Moves, Named, Next, None, Option, Place, Program, Refuses, Seen, Slot, Slots, Some, State, Take, Var, Walk, WatcherKind, [], ap, append_assoc, arena_size, arith, drop, due_cmp, due_cmp_total, false, first_due, front, handle, handle_in, has_id, held, held_in, inl, inr, is_timer, length, map, map-append, named, nat_tests, none-some, option_and_then, option_map, option_to_list, or_right, refl, replicate, run_ids, same_Some, same_id, slice_get, slice_get_past, subst, suc, sym, true, unbound, unwrap_or, watched, zero, ℕ, ◌&&◌, ◌++◌, ◌+◌, ◌-◌, ◌<◌, ◌==◌, ◌||◌, ◌∙◌, ◌∷◌, ◌≡◌, ◌≤◌}
pub use Rattle.uv_shift.proofs.Names.{By, ClockFits, IsTimed, IsTimer, Retiming, TimesFit, base, earlier, earliest, later, least_start, min, or_first, or_over, retimed, retimed_content, retimed_entry, retimed_handle, retimed_place, retimed_slot, shift, shift_line, ◌^◌}
pub use Rattle.uv_slots.proofs.Names.{IsOrder, IsTidy, Running, StaysKept, ap₂, Labels, arranged, arranged_id, arranged_slots, buried, buried_id, buried_name, dead_id, in_order, length-append, length-map, name_in, next, picked, place_of, relabeled_entry, relabeled_line, relabeled_named, slice_get-map, slice_get_cases, times, vacancies, next_map, state_map}
pub use Rattle.std.proofs.lemmas.List.{append-nil}
pub use Rattle.uv_generations.proofs.Slots.{by_frees, get_renamed, held_renamed, length_renamed}
pub use Rattle.uv_generations.proofs.Twice.{has_behind, has_first, has_front}
pub use Rattle.uv_generations.specs.More.{Frees, more}
pub use Rattle.uv_generations.specs.Renamed.{Renaming, rename, renamed, renamed_slots, renaming}
pub use Rattle.uv_generations.specs.Youngest.{IsInSlot, IsYoung, freed_less, least_bound, least_of, or_bound, surplus, youngest}
pub use Rattle.uv_names.proofs.Counted.{counts_capped, twice}
pub use Rattle.uv_names.proofs.Stales.{held_same, names_staled}
pub use Rattle.uv_names.specs.Counts.{AreBefore, capped, capped_body, capped_calls, capped_name, capped_place}
pub use Rattle.uv_names.specs.Stale.{staled, staled_by, staled_id, staled_name}
pub use Rattle.uv_shift.proofs.Base.{earliest_later, earliest_same}
pub use Rattle.uv_slots.proofs.Arranging.{held_arranged, next_arranged}
pub use Rattle.uv_slots.proofs.Buries.{dead_gone, names_buried}
pub use Rattle.uv_slots.proofs.Grows.{HasUsed, next_grows}
pub use Rattle.uv_slots.proofs.Moved.{place_number, placed_once, stands}
pub use Rattle.uv_slots.proofs.Orders.{Fits, get_arranged, length_arranged, number_at, place_behind, same_place}
pub use Rattle.uv_slots.proofs.RelabeledSlots.{first_due_relabeled, front_relabeled, handle_relabeled, relabeled_pair}
pub use Rattle.uv_slots.proofs.Named.{IsThere, is_there}
pub use Rattle.uv_slots.proofs.Whole.{IsWhole, named_order, named_there, slot_bound, slots_bound, tidy_whole}
pub use Rattle.uv_slots.specs.Buried.{buried_by}
pub use Rattle.uv_slots.specs.Relabeled.{relabeled_walk}
pub use Rattle.uv_tale.specs.Alike.{IsRegular, LeadsRegular, NextAlike, bare_line, calls_timer, holds_timer, normal, pooled, reduced, told_line}
pub use Rattle.uv_tale.specs.Tale.{Bound, Gone, Holds, Nothing, Tale, Told, as_id, bound_by, bound_to, name_at, names_at, number_of, run_names, runs_at, tale, tale_by, told_name, walk_at}
pub use Rattle.uv_workers.proofs.Runs.{map_ordered}
pub use Rattle.uv_workers.specs.Workers.{is_of_worker, line_by, next_by, ordered, orderly}
