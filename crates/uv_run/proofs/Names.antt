-- The names that proofs of this crate bring in.
pub use Rattle.uv_live.proofs.Names.{All, Applies, AreNamed, Course, Fault, Job, Plan, StaysEnded, ThreadLine, ap₂, count_by, eqb-false, get_or, get_or-set_other, get_or-set_same, is_line, same_id, stepped, take, take_more}
pub use Rattle.uv_order.proofs.Names.{Body, Bool, Code, Ended, Err, Event, Finish, HandleRecord, Id, IsLegal, IsTakenAs, List, Loop, Main, MainOp, Moves, Next, None, OfLoop, Ok, Option, Place, Pool, PoolEvent, Program, Refuses, Request, Result, Run, Seen, Send, Some, Stage, State, Take, Tick, Var, Why, [], after_event, after_events, ap, append-nil, append_assoc, arith, body_moves, collected_from, cond, cond_both, empty_pool, eqb-true, false, flat_map, found_both, has, inl, inr, length, line_events, lines, lines_in, live_handle, loop_lines, main_moves, nat_le, nat_lt, nat_tests, next_work, none-some, option_to_list, order_of, pool_events, pool_of, refl, refusal_of, replicate, slice_get, slice_get_within, slice_set, stage_moves, stage_refusal, subst, suc, sym, true, waits, without, work_of, worker_count, zero, ℕ, ◌++◌, ◌+◌, ◌-◌, ◌<◌, ◌==◌, ◌∙◌, ◌∷◌, ◌≡◌, ◌≤◌}
pub use Rattle.uv_script.proofs.ProofNames.{IsThreadLine, length-append, sum_by-cons, sum_by_push}
pub use Rattle.uv_session.proofs.Names.{Outcome, Shown, TakesEvent, after, pools, seen_by}
pub use Rattle.std.proofs.Common.{slice_index}
pub use Rattle.std.proofs.lemmas.List.{get_or-replicate, length-replicate, length-set}
pub use Rattle.uv_ids.specs.declared.fault.Why.TheVariants.{NoWork}
pub use Rattle.uv_live.proofs.Entered.{is_true}
pub use Rattle.uv_live.specs.Faults.{IsEventFault, IsRunFault, IsStepFault}
pub use Rattle.uv_live.specs.Running.{RunSettles}
pub use Rattle.uv_live.specs.Settling.{is_send}
pub use Rattle.uv_live.specs.Turning.{Steps}
pub use Rattle.uv_live.specs.Working.{has_work, is_at_work, open_in}
pub use Rattle.uv_model.proofs.Runs.{after-moves, seen_by-moves, seen_by-nil}
pub use Rattle.uv_model.specs.Handing.{RefusesResult}
pub use Rattle.uv_model.specs.Steps.{IsOfLoop}
pub use Rattle.uv_model.specs.declared.place.Place.TheVariants.{Running}
pub use Rattle.uv_order.proofs.Taking.{finish_is_taken, take_is_taken}
pub use Rattle.uv_run.specs.Bound.{Asked, IsBound, SameSends, Sends, course_of, hours_in, plan_of, plan_within, polls_in, refusal_in}
pub use Rattle.uv_run.specs.Counts.{AreCounts, is_end, is_queue}
pub use Rattle.uv_run.specs.Events.{events_in, events_of_loop, is_polling}
pub use Rattle.uv_run.specs.declared.counts.Counts.{Counts}
pub use Rattle.uv_session.proofs.Traces.{is_documented, is_once, those, those_all, those_more}
pub use Rattle.uv_session.specs.Shown.{Responds, TakesResult}
pub use Rattle.uv_work.proofs.Counts.{busy_set_none, busy_set_some, without_one}
pub use Rattle.uv_work.specs.Pool.{Done, busy, finished_by, taken_by}
