-- The names that proofs of this crate bring in.
pub use Rattle.uv_alike.proofs.Names.{Bool, Callback, Comes, Err, Event, Finish, Finished, Id, IdleWorker, List, Moves, Named, Next, None, Ok, Option, Program, Refuses, Request, Result, Run, Running, Seen, Some, State, Take, Tick, Var, Why, [], ap, ap₂, arith, count_of, counted, drop, false, found_or, if◌then◌else◌, list_any, map, named, refl, request, slice_get, slice_set, suc, sym, text_of, true, with_id, with_named, zero, ℕ, ◌&&◌, ◌||◌, ◌∙◌, ◌∷◌, ◌≡◌}
pub use Rattle.uv_script.proofs.ProofNames.{nat_tests, true≢false}
pub use Rattle.std.proofs.lemmas.List.{map-id}
pub use Rattle.uv_workers.specs.Workers.{is_of_worker, next_by, ordered, orderly, run_le, with_run}
