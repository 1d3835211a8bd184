-- The names that proofs of this crate bring in.
pub use Rattle.uv_order.proofs.Names.{Bool, Content, Due, Event, HandleRecord, Has, Id, List, Named, Next, None, Option, Program, Request, Slot, Slots, Some, State, Walk, [], ap, arena_size, arith, elements, eqb-true, freed, fresh, handle, has_id, held, held_in, inl, inr, length, list_any, map, next_id, option_and_then, option_map, refl, replicate, request, run_ids, same_id, slice_get, slice_get_past, slice_set, state_of, subst, suc, sym, taken_from, true, zero, ℕ, ◌++◌, ◌+◌, ◌-◌, ◌<◌, ◌||◌, ◌∙◌, ◌∷◌, ◌≡◌, ◌≤◌}
pub use Rattle.uv_shift.proofs.Names.{By, IsTimed, ap₂, earlier, earliest, goes_on, later, least_start, or_first, or_over, retimed_content, shift}
pub use Rattle.uv_slots.proofs.Names.{Labels, length-set, next, relabeled_arena, relabeled_entry, relabeled_named, next_map, relabeled_line}
pub use Rattle.uv_slots.specs.Relabeled.{relabeled_walk}
pub use Rattle.std.proofs.Common.{add-zero}
pub use Rattle.uv_generations.specs.More.{CanRename, Frees, freed_more, more}
pub use Rattle.uv_generations.specs.Renamed.{Renaming, rename, renamed, renamed_slots, renaming}
pub use Rattle.uv_generations.specs.Youngest.{IsInSlot, IsYoung, freed_less, least_bound, least_of, surplus, youngest}
