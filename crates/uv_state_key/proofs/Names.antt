-- The names that proofs of this crate bring in.
pub use Rattle.uv_order.proofs.Names.{AreAll, AreDistinct, AreTimers, Body, Bool, Callback, Calls, Cancelled, Collecting, Content, Due, Event, Finished, Firing, HandleRecord, Has, Id, IsEnded, IsReached, Kind, List, Main, Mode, Named, None, Open, Option, Outcome, Place, Program, Request, Run, SaysTrue, Seen, Slot, Slots, Some, Stage, State, Task, Walk, WatcherKind, [], ap, append_assoc, arith, drop, eqb-true, false, flat_map, handle_in, has_id, held, held_in, if◌then◌else◌, inl, inr, is_open, is_timer, kind_as, length, map, option_and_then, option_map, refl, request, request_in, run_ids, slice_get, subst, suc, sym, text_of, true, unbound, watched, zero, ℕ, ◌++◌, ◌+◌, ◌<◌, ◌==◌, ◌∙◌, ◌∷◌, ◌≡◌, ◌≤◌, ◌⊎◌}
pub use Rattle.uv_tale.proofs.Names.{Bound, By, Gone, IsTimer, Nothing, Running, Tale, Told, append-nil, ap₂, as_id, base, bound_by, bound_to, least_start, length-map, min, name_at, names_at, or_first, or_over, ordered, runs_at, tale, tale_by, told_name, walk_at}
pub use Rattle.std.proofs.Common.{OnOk, add-one, get_or, take, take_all, ◌*◌}
pub use Rattle.std.proofs.lemmas.List.{drop_all}
pub use Rattle.std.specs.List.{insert}
pub use Rattle.uv_key.proofs.Loops.{each_turn, list_end, piece_of_option, piece_there, piece_turn}
pub use Rattle.uv_key.proofs.Numbers.{number_small}
pub use Rattle.uv_key.proofs.Telling.{AllFit, any_tells, byte_tells, bytes_tell, list_tells, list_tells_of, numbers_tell, option_tells, pair_tells, pair_tells_of, part_tells, settled_back}
pub use Rattle.uv_key.specs.Codes.{Tells, TellsOf, bytes_code, number_code, option_code}
pub use Rattle.uv_model.specs.After.{after}
pub use Rattle.uv_model.specs.Queries.{members, numbers}
pub use Rattle.uv_model.specs.declared.numbers.Numbers.{Numbers}
pub use Rattle.uv_order.proofs.Documents.{holds_after}
pub use Rattle.uv_order.proofs.Reaching.{reached}
pub use Rattle.uv_order.specs.Active.{IsActive, IsClosing}
pub use Rattle.uv_script.specs.Program.{IsWhole}
pub use Rattle.uv_state_key.specs.Computed.{by_of, due_at, due_of, first_at, least_among}
pub use Rattle.uv_state_key.specs.Holding.{AreFew, and_active, and_closing, and_content, and_handle, and_request, and_resting, content_at, held_by, holds_in, id_at, id_by, no_holds, one_more}
pub use Rattle.uv_state_key.specs.Key.{bit, callback_number, content_code, flags_of, id_code, ids_code, kind_number, mode_number, outcome_number, place_code, stage_code, stage_part, walk_code}
pub use Rattle.uv_state_key.specs.Listing.{member_code, members_code, members_walk_code, named_id}
pub use Rattle.uv_state_key.specs.TaleKey.{are_few, bound_code, few_number, handle_number, key_code, names_walk_code, request_number, run_name_code}
pub use Rattle.uv_state_key.specs.Told.{IsTold}
pub use Rattle.uv_work.specs.Requests.{IsDigest}
pub use Rattle.uv_workers.specs.Workers.{run_le, with_run}
