-- The names that proofs of this crate bring in.
pub use Rattle.uv_model.proofs.Names.{Answers, Bool, Content, Due, Err, Event, Fault, Finish, HandleRecord, Id, IsMove, List, Moves, Next, None, Ok, Option, Program, Refuses, Seen, Slot, Slots, Some, StartsBefore, State, Walk, Why, [], ap, arith, common_steps, due_cmp, false, if◌then◌else◌, is_timer, keys_of, length, next_free, option_and_then, refl, refusal_of, same_id, slice_get, started, stopped, subst, sym, take, taken_off, true, with_handle, with_last, with_timer, without_timer, ℕ, ◌&&◌, ◌++◌, ◌+◌, ◌<◌, ◌∙◌, ◌∷◌, ◌≡◌}
pub use Rattle.std.proofs.Common.{ap₂, inr, length-append, length-take, not, rules, ◌-◌}
pub use Rattle.std.proofs.lemmas.Fn.{filter_same}
pub use Rattle.std.proofs.lemmas.List.{set-set}
pub use Rattle.std.specs.List.Sorted.{IsStrictlySortedBy}
pub use Rattle.uv_model.proofs.Runs.{after-moves, after-take, seen_by-moves}
pub use Rattle.uv_model.specs.After.{STEPS, after}
pub use Rattle.uv_model.specs.Handing.{AnswersResult, RefusesResult}
pub use Rattle.uv_model.specs.Next.{next}
pub use Rattle.uv_model.specs.Queries.{timer_ids}
pub use Rattle.uv_model.specs.Steps.{Steps}
pub use Rattle.uv_model.specs.Timers.{due_after}
pub use Rattle.uv_plain.specs.Trail.{IsAfter, Trail}
pub use Rattle.uv_records.specs.Handles.{begun_at}
pub use Rattle.uv_records.specs.Slots.{id_of, next_id}
pub use Rattle.uv_work.specs.declared.job.Job.{Job}
