-- The names that proofs of this crate bring in.
pub use Rattle.uv_pool.proofs.Names.{Bool, Cancels, Code, CollectsNext, Contents, Err, Fault, Hold, Id, IsReplay, Job, List, None, Ok, Option, Pool, PoolEvent, Reserves, Result, Some, Submits, [], ap, append_assoc, are_turns, arith, cond, drop, false, finish_count, get_or, has, inl, inr, length, list_any, map, map-append, map-set, member, pool_of, refl, replay_more, replicate, rules, same_id, same_when, set, slice_get, slice_get-map, slice_get_within, subst, suc, sym, true, waits, zero, ℕ, ◌++◌, ◌+◌, ◌-◌, ◌<◌, ◌==◌, ◌||◌, ◌∙◌, ◌∷◌, ◌≡◌, ◌≤◌, ◌⊎◌}
pub use Rattle.uv_wake.proofs.ProofNames.{AllCarried, Carries, Contains, Var, after_absorb, eq-eqb, eqb-false, eqb-true, get_or-set_other, get_or-set_same, ne_eqb, ⊎_elim, ◌≢◌}
pub use Rattle.std.proofs.Common.{All, OnOk, add-one, ap₂, drop-cons, filter, length-set, option_map, take, vec_capacity, vec_len, ◌↔◌}
pub use Rattle.std.proofs.lemmas.Bool.{cases_eq, cases_lt}
pub use Rattle.std.proofs.lemmas.List.{append-nil, drop-append-le, drop_all, get_or-map, length-drop, length-map, length-take-le, take-append-drop, take_more}
pub use Rattle.std.proofs.lemmas.List.Elements.{All-filter, All-map, filter-append}
pub use Rattle.std.proofs.lemmas.List.Sums.{sum_by_more, sum_by_more_le}
pub use Rattle.std.proofs.lemmas.Option.{slice_get-get_or}
pub use Rattle.std.specs.List.{count_by}
pub use Rattle.std.specs.Vec.Iter.{into_iter_items}
pub use Rattle.uv_ids.specs.declared.event.Event.{Event}
pub use Rattle.uv_ids.specs.declared.fault.Why.{Why}
pub use Rattle.uv_ids.specs.declared.thread_line.ThreadLine.{ThreadLine}
pub use Rattle.uv_live.specs.Course.{AreNamed, Course, Plan, step_of, stepped, taken}
pub use Rattle.uv_live.specs.Following.{Applies, Decides, Follows, IsWorkers, MayTake, OnFull, StaysEnded, Syncs}
pub use Rattle.uv_live.specs.Running.{AreNumbered, first_fault, given_in}
pub use Rattle.uv_live.specs.Sending.{Absorbs, AbsorbsEach, AreCarried, AreNoted, HasOwn, LinesCarried, is_by, names_by, names_in, sent_by, threads_below}
pub use Rattle.uv_live.specs.Settling.{AreLeft, AreParts, AreShifts, IsByWorker, IsSettled, SendsFit, Settles, Worked, counted, is_line, is_of, is_unthreaded, part_of, worked}
pub use Rattle.uv_pool.specs.Benches.{IsWorkerFault}
pub use Rattle.uv_pool.specs.Book.{Standing}
pub use Rattle.uv_pool.specs.Calls.{IsFull, Opens, WantsMemory}
pub use Rattle.uv_pool.specs.declared.places.Collected.{Collected}
pub use Rattle.uv_wake.specs.declared.tickets.Ticket.{Ticket}
pub use Rattle.uv_wake.specs.declared.views.LoopView.{LoopView}
pub use Rattle.uv_work.proofs.Replays.{events_both}
pub use Rattle.uv_work.specs.Pool.{IsLegal, after_events, collected_from, empty_pool, then_event}
pub use Rattle.uv_work.specs.declared.event.PoolEvent.TheVariants.{Queue}
