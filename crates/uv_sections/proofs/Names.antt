-- The names that proofs of this crate bring in.
pub use Rattle.uv_memory.proofs.Names.{CollectUndo, CollectWorkUndo, IsFired, IsMovedOn, IsSpliced, IsTaken, NoHandleFirst, SpliceUndo, TakeUndo, Times, WalkUndo, moved_by, standing, woken}
pub use Rattle.uv_order.proofs.Names.{Body, Collecting, Firing, Main, Moves, Order, Poll, Program, Run, Seen, Timers, TimersOf, Walking, Watchers, Way, all_yet, arena_size, body_from, call, calls, collected, counted, digest_in, drop, eq-eqb, first_due, freed, front, front_moved, front_request, moved_on, nat_le, order_of, refreshed, same_Some, stage_polled, time_polled, with_watched}
pub use Rattle.uv_requests.proofs.Names.{IsCollected, Working}
pub use Rattle.uv_stands.proofs.ProofNames.{Bool, By, Callback, Content, Due, Entry, HandleRecord, Has, Held, Id, Image, InOrder, IsBeforeAll, IsFirst, IsFit, IsIn, IsInOrder, IsReached, IsRescheduled, IsSetAside, IsTimer, List, ListName, None, OfEach, OnlyTimed, Option, Place, Record, Recorded, Request, Slot, Some, StandsFor, State, Timed, TimerChange, TimerUndo, Var, Walk, WatcherKind, [], ap, arith, becoming, begun_at, both_ways, calling, cleared, cond, count_of, counted_of, due_after, eqb, eqb-true, eqb_tells, false, handle, handle_of, has_id, held_slots, id_in, if◌then◌else◌, image_of, inl, inr, inserted, is_same, is_timer, list_of, listed_id, map, map-append, members, named, option_and_then, plain_slots, record_at, refl, request_of, restarted, same_id, set, set-set, set_at, slice_get, slot_at, started, starting, starting_again, stopped, subst, suc, sum_by-cons, sym, taken_off, timed_of, timer_in, true, values_in, watched, with_handle, with_id, with_named, with_timer, without, without_none, without_timer, yet_of, zero, ℕ, ◌&&◌, ◌++◌, ◌+◌, ◌<◌, ◌==◌, ◌||◌, ◌∙◌, ◌∷◌, ◌≡◌, ◌≢◌, ◌≤◌, ◌⊎◌}
pub use Rattle.uv_timer.proofs.Names.{IsDue, NoneIsDue, NoneIsReady, firing, le-leb, leb-true, same_itself, ◌^◌}
pub use Rattle.uv_handle.specs.Watch.{pending_of}
pub use Rattle.uv_heap.proofs.OrderLemmas.{first_is_root, none_in_empty}
pub use Rattle.uv_heap.specs.Array.{IsHeap}
pub use Rattle.uv_ids.specs.declared.seen.Callback.TheVariants.{After, Close, Handle}
pub use Rattle.uv_ids.specs.declared.seen.Seen.TheVariants.{End, Section}
pub use Rattle.uv_memory.specs.Image.{OnlyHandles, OnlySlots, OnlyWork, held, working_of}
pub use Rattle.uv_memory.specs.MemoryParts.{MemoryParts}
pub use Rattle.uv_model.specs.Next.{at, call_due, close_front, collect_request, fire, goes_by, refreshes, walk, walk_async, way}
pub use Rattle.uv_model.specs.Timeout.{deadline_of}
pub use Rattle.uv_model.specs.declared.place.Place.TheVariants.{Running}
pub use Rattle.uv_records.specs.declared.lists.ListName.TheVariants.{ClosingYet, DoneYet}
pub use Rattle.uv_requests.proofs.Rules.{set_back}
pub use Rattle.uv_sections.proofs.Gone.{HandleGone, RequestGone}
pub use Rattle.uv_sections.specs.Moved.{HandleMoved, NamedMoved, moved_state}
pub use Rattle.uv_sections.specs.Section.{CollectsNone, FiresNone}
pub use Rattle.uv_stands.proofs.Absent.{IsOn, absent_active, active_open, has_it, held_handle, holds_it, own_id}
pub use Rattle.uv_stands.proofs.Entries.{cleared_first, entry_of}
pub use Rattle.uv_stands.proofs.Holding.{ids_kept, map_same, slot_by, slot_or, slots_set, state_handle}
pub use Rattle.uv_stands.proofs.Lists.{Listed, all_but_one, all_but_two, beside_lists, list_is}
pub use Rattle.uv_stands.proofs.Naming.{record_there}
pub use Rattle.uv_stands.proofs.Pools.{asked_there, front_there, ids_moved}
pub use Rattle.uv_stands.proofs.Retimed.{AreRetimed, OnlyTimers, retimed, stands_then, timers_are}
pub use Rattle.uv_stands.proofs.Single.{clock_is, names_is, start_is, time_is}
pub use Rattle.uv_stands.proofs.Starts.{due_same, restart_does}
pub use Rattle.uv_stands.proofs.TakenOff.{IsIts, inert_cleared, its_timer, timers_set}
pub use Rattle.uv_stands.proofs.Values.{called_stands, count_after, placed}
pub use Rattle.uv_stands.specs.Doing.{Goes}
pub use Rattle.uv_stands.specs.Ready.{IsReady}
pub use Rattle.uv_work.specs.declared.content.Content.TheVariants.{Request as Asked}
