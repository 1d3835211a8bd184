-- The names that proofs of this crate bring in.
pub use Rattle.std.proofs.Common.{Bool, Err, List, None, Ok, Option, Result, Some, [], ap, append-nil, append_assoc, arith, cond, deque_capacity, deque_len, drop, drop-drop, false, get_or, inl, inr, is_ok, length, length-append, map, refl, replicate, rules, set, slice_get, subst, suc, sym, true, zero, ℕ, ◌&&◌, ◌++◌, ◌+◌, ◌-◌, ◌<◌, ◌==◌, ◌||◌, ◌∙◌, ◌∷◌, ◌≡◌, ◌≤◌, ◌⊎◌}
pub use Rattle.std.proofs.lemmas.Bool.{or_right}
pub use Rattle.std.proofs.lemmas.Bool.Decides.{nat_tests}
pub use Rattle.std.proofs.lemmas.List.{length-replicate, length-set, map-append, map-set}
pub use Rattle.std.proofs.lemmas.List.Sums.{sum_by-append}
pub use Rattle.std.proofs.lemmas.Option.{slice_get-map, slice_get_past, slice_get_read, slice_get_within}
pub use Rattle.std.proofs.lemmas.Result.{err_from_is_err_and}
pub use Rattle.std.specs.List.{list_any}
pub use Rattle.std.specs.Option.{MatchOption}
pub use Rattle.uv_ids.specs.declared.code.Code.{Code}
pub use Rattle.uv_ids.specs.declared.fault.Fault.{Fault}
pub use Rattle.uv_ids.specs.declared.id.Id.{Id}
pub use Rattle.uv_pool.specs.Benches.{Breaks, Serves, Stops, are_turns, turn}
pub use Rattle.uv_pool.specs.Book.{IsCounted, IsReplay, finish_count, is_finish}
pub use Rattle.uv_pool.specs.Calls.{Cancels, CollectsNext, Finishes, Reserves, Submits, TakesNext}
pub use Rattle.uv_pool.specs.Contents.{Contents, cancelled, collected, finished, fresh, id_run, jobs_without, member, pool_of, queued, result_in, taken}
pub use Rattle.uv_pool.specs.Held.{Finds, IsKept, contents_of, hold_of, place_of, rows_of}
pub use Rattle.uv_pool.specs.Hold.{Hold}
pub use Rattle.uv_pool.specs.Jobs.{Leaves, Pops, jobs_of}
pub use Rattle.uv_pool.specs.Rows.{IsIndexed, IsNowhere, Rows, at_number, id_at, id_of_done, id_of_job}
pub use Rattle.uv_pool.specs.Telling.{IsTold, TellsOf}
pub use Rattle.uv_pool.specs.declared.held.Held.{Held}
pub use Rattle.uv_pool.specs.declared.places.Collected.{Collected}
pub use Rattle.uv_pool.specs.declared.places.Place.{Place}
pub use Rattle.uv_work.proofs.Replays.{replay_more, same_itself, same_when}
pub use Rattle.uv_work.specs.Ids.{same_id}
pub use Rattle.uv_work.specs.Pool.{Done, Pool, has, is_done, is_run, runs, waits, without}
pub use Rattle.uv_work.specs.declared.event.PoolEvent.{PoolEvent}
pub use Rattle.uv_work.specs.declared.job.Job.{Job}
pub use Rattle.uv_work.specs.declared.result.WorkResult.{WorkResult}
