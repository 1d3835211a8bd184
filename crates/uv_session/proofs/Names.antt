-- The names that proofs of this crate bring in.
pub use Rattle.uv_order.proofs.Names.{Answer, Bool, Code, Err, Event, Finish, Id, IsLegal, List, Mode, None, Ok, Once, Option, Phase, Program, Result, Seen, Site, Some, Var, [], ap, append-nil, append_assoc, arith, drop, false, flat_map, length, lines, list_any, option_to_list, pool_events, pool_of, refl, slice_get, subst, suc, sym, true, worker_count, zero, ℕ, ◌++◌, ◌+◌, ◌-◌, ◌<◌, ◌==◌, ◌||◌, ◌∙◌, ◌∷◌, ◌≡◌, ◌≤◌}
pub use Rattle.uv_script.proofs.ProofNames.{Fault, ap₂, common_steps, err_from_is_err_and, get_or, get_or_from_slice_get, take, take-append-drop, take_more}
pub use Rattle.std.proofs.Common.{OnOk, length-take}
pub use Rattle.std.proofs.Math.Seq.{take-add}
pub use Rattle.std.proofs.lemmas.List.{take_all}
pub use Rattle.std.proofs.lemmas.List.Folds.{list_any-append}
pub use Rattle.std.specs.declared.alloc.AllocError.{AllocError}
pub use Rattle.uv_ids.specs.declared.fault.Fault.TheVariants.{Memory, Refused, StepsFull}
pub use Rattle.uv_model.proofs.Runs.{accepts-at, accepts-push, accepts-take, length-seen_by, only_memory}
pub use Rattle.uv_model.specs.After.{IsMove, STEPS, after, seen_by}
pub use Rattle.uv_model.specs.Handing.{AnswersResult}
pub use Rattle.uv_model.specs.declared.machine.Outcome.{Outcome}
pub use Rattle.uv_order.proofs.Documents.{documented, once, pools}
pub use Rattle.uv_order.proofs.Histories.{lines-history}
pub use Rattle.uv_session.specs.Breaks.{is_code, matches, same_code, same_phase, stop_of, stops}
pub use Rattle.uv_session.specs.Moving.{NoneFrom, RunsTo, moved_forward}
pub use Rattle.uv_session.specs.Sets.{AreSets, is_of_code, is_of_name, is_of_poll, is_of_section}
pub use Rattle.uv_session.specs.Shown.{RespondsResult, Shown, TakesEvent, moved_back}
pub use Rattle.uv_session.specs.declared.breaks.Break.{Break}
pub use Rattle.uv_session.specs.declared.breaks.Stop.{Stop}
pub use Rattle.uv_work.specs.Pool.{replay}
pub use Rattle.uv_work.specs.declared.job.Job.{Job}
