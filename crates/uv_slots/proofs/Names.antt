-- The names that proofs of this crate bring in.
pub use Rattle.uv_alike.proofs.Names.{Body, Bool, Callback, CallbackLine, Calls, Change, Comes, Content, Due, Event, Finish, Hides, Id, IsExact, IsWhole, List, Main, Moves, Named, Next, None, Option, Place, Program, Refuses, Run, Running, Seen, Slot, Slots, Some, State, Take, Tick, Var, Walk, [], ap, ap₂, arena_size, arith, changed, changed_body, changed_callback, changed_content, changed_event, changed_line, changed_live, changed_place, changed_run, cond_both, drop, drop-map, elements, false, first_due, freed, front, handle, handle_in, held, held_in, id_of, if◌then◌else◌, inl, inr, is_some, length, length-map, lines_in, list_any, live, live_id, map, map-set, named, nat_le, nat_lt, next_free, next_id, not, option_and_then, option_map, refl, same, same_id, slice_get, slice_get-map, slice_set, suc, sym, taken, taken_from, true, unbound, with_held, with_id, zero, ℕ, ◌&&◌, ◌++◌, ◌+◌, ◌<◌, ◌==◌, ◌||◌, ◌∙◌, ◌∷◌, ◌≡◌, ◌⊎◌, same_times, unchanged, next_map, state_map}
pub use Rattle.uv_script.proofs.ProofNames.{append_assoc, eqb-false, eqb-true, is_for, length-append, next_line, subst, unwrap_or, ◌≤◌}
pub use Rattle.uv_shift.proofs.Names.{content_keeps, content_pends, fresh, goes_on, is_used, state_of}
pub use Rattle.std.proofs.Common.{length-drop, option_to_list}
pub use Rattle.std.proofs.lemmas.List.{drop-append-le, drop-set-lt, length-set}
pub use Rattle.std.proofs.lemmas.Option.{slice_get_cases, slice_get_past}
pub use Rattle.uv_alike.proofs.Exact.{next_exact}
pub use Rattle.uv_alike.proofs.Kept.{IsLoose, StaysKept, next_kept}
pub use Rattle.uv_alike.proofs.Same.{any_same, event_same, lines_same, main_same, option_same, runs_same, stage_same, work_same, times_same}
pub use Rattle.uv_alike.proofs.Walked.{IsKept}
pub use Rattle.uv_alike.specs.Contents.{name_in}
pub use Rattle.uv_model.specs.Next.{next}
pub use Rattle.uv_model.specs.State.{Watchers}
pub use Rattle.uv_records.specs.Slots.{next_unused}
pub use Rattle.uv_slots.specs.Arranged.{IsOrder, arranged, arranged_id, arranged_slots, in_order, picked, place_in, place_of, times}
pub use Rattle.uv_slots.specs.Buried.{CanBury, buried, buried_id, buried_name, dead_id, is_past}
pub use Rattle.uv_slots.specs.Tidy.{AreDeclared, IsTidy, vacancies, vacant}
pub use Rattle.uv_slots.specs.Relabeled.{Labels, relabeled, relabeled_arena, relabeled_entry, relabeled_line, relabeled_named}
