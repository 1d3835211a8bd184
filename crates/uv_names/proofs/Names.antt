-- The names that proofs of this crate bring in.
pub use Rattle.uv_alike.proofs.Names.{Body, Bool, Callback, CallbackLine, Calls, Change, Comes, Content, Event, Hides, Id, IsWhole, List, Main, Moves, Named, Next, None, Option, Place, Program, Refuses, Run, Running, Seen, Slot, Slots, Some, State, Var, Why, [], ap, ap₂, arena_size, arith, changed, changed_content, changed_line, changed_live, changed_place, changed_run, cond_both, count_of, counted, drop, elements, freed, held, held_in, id_of, if◌then◌else◌, length-map, lines_in, live, live_id, map, map-set, min, named, next_free, next_id, option_and_then, option_map, refl, same, slice_get, slice_get-map, slice_set, suc, sym, taken_from, unbound, with_id, with_named, zero, ℕ, ◌++◌, ◌+◌, ◌==◌, ◌∙◌, ◌∷◌, ◌≡◌}
pub use Rattle.std.proofs.Common.{subst, unwrap_or, ◌≤◌}
pub use Rattle.std.proofs.lemmas.List.{map-id}
pub use Rattle.std.proofs.lemmas.Option.{slice_get_past}
pub use Rattle.uv_model.specs.Next.{body_at, body_from, next}
pub use Rattle.uv_script.specs.Program.{Callbacks, is_for, lines_of, next_line, no_callbacks}
