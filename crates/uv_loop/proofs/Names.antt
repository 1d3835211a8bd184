-- The names that proofs of this crate bring in.
pub use Rattle.uv_arena.proofs.ProofNames.{IfSome, IsLast, IsSegment, chain, chains, link, links_at, links_in, loose, remove_undone}
pub use Rattle.uv_memory.proofs.Names.{CHAIN_COUNT, CanUnwind, FREE, FinishUndo, IfNone, OnOk, Part, TakeWorkUndo, at_place, rules, undo, unwind, unwind_parts, unwound}
pub use Rattle.uv_model.proofs.Names.{Answers, CanStep, Fault, IsMove, IsOfLoop, body_step, call_io, finish, get_or, goes_on, line_of, loop_step, main_step, run_step, runner_from, stage_step, take, take_more}
pub use Rattle.uv_ops.proofs.Names.{Cancels, Coded, Done, Entry, Held, Image, IsFit, ListName, OnlyWork, Record, Sends, StandsFor, asked_there, cancel, content_of, done_more, found_or, held, held_there, id_in, id_is, ids_kept, ids_moved, image_of, list_same, map_same, members, named, plain_slots, pool_stands, request_of, running_is, send, slot_at, slots_set, start_is, time_is, timer_in, with_last, working_of}
pub use Rattle.uv_order.proofs.Names.{Answer, BeginsAt, BeginsBehind, BeginsIn, Blocked, Body, Bool, CallbackLine, Cancel, Code, Content, Err, Event, Finish, Id, Io, IsReached, List, Loop, Main, Moves, Named, Next, None, OfLoop, Ok, Option, Place, Program, Range, Refuses, Request, Result, Run, Seen, Send, Slot, Slots, Some, Stage, State, Take, Tick, Var, Why, [], ap, arena_size, arith, body_from, calls, cond_both, count_of, drop, false, front_request, if◌then◌else◌, inl, inr, io_handle, io_run, length, lines_in, list_any, live_handle, live_request, loop_lines, map, map-append, nat_le, nat_lt, next_work, option_and_then, order_of, refl, refusal_of, slice_get, slice_get_past, slice_get_within, slice_set, stage_polled, state_of, subst, suc, sym, text_of, time_polled, true, with_id, work_of, zero, ℕ, ◌++◌, ◌+◌, ◌-◌, ◌<◌, ◌==◌, ◌∙◌, ◌∷◌, ◌≡◌, ◌≤◌, ◌⊎◌}
pub use Rattle.uv_requests.proofs.Names.{InsertUndo, IsFinished, IsFirst, IsSound, IsTaken, Job, LIST_COUNT, RemoveUndo, eqb_tells, finished, fresh_image, insert_undone, job_of, length-append, length-map, name_at, number, on_list, reopened_by, same_id, same_when, slot_in}
pub use Rattle.uv_sections.proofs.Names.{Goes, IsHeap, IsInOrder, IsReady, MemoryParts, OfEach, Running, beside_lists, clock_is, front_there, names_is, ◌^◌}
pub use Rattle.uv_stands.proofs.ProofNames.{Cell, IfOk, Returns, append_assoc, get-links, number_apart, timer_ids}
pub use Rattle.std.proofs.Common.{is_ok, pred, true≢false}
pub use Rattle.std.proofs.lemmas.List.{take-map, take_all}
pub use Rattle.std.proofs.lemmas.Result.{err_from_is_err_and}
pub use Rattle.uv_arena.proofs.Lists.{last_append, segment_right, segment_tells}
pub use Rattle.uv_arena.proofs.Names.{number_below}
pub use Rattle.uv_arena.specs.declared.links.Links.{Links}
pub use Rattle.uv_heap.specs.Array.{SlotsDiffer, place_in}
pub use Rattle.uv_ids.specs.declared.fault.Why.TheVariants.{NoWork}
pub use Rattle.uv_loop.specs.Acting.{MayAct, MayAt, MayCall, Plans, outside_event, planned_event}
pub use Rattle.uv_loop.specs.Begins.{IsClear, IsClearAt, IsClearBehind, IsClearIn}
pub use Rattle.uv_loop.specs.Course.{Course, IsCourse, Leads, StandFrom, Takes, first_image}
pub use Rattle.uv_loop.specs.Laid.{ShowsAll, ShowsSlot, ShowsSlots, shown_ends}
pub use Rattle.uv_loop.specs.LineRows.{AreKept, InARow, all_said, wide_count}
pub use Rattle.uv_loop.specs.Pooling.{MayFinish, MayTake}
pub use Rattle.uv_loop.specs.Standing.{Standing}
pub use Rattle.uv_loop.specs.Taken.{AreRoomier, AreSame, IsOneMore, event_of, events_of}
pub use Rattle.uv_loop.specs.Turning.{PerformsAt, Turns}
pub use Rattle.uv_loop.specs.declared.plan.Plan.{Plan}
pub use Rattle.uv_memory.proofs.Rooms.{unwind_still}
pub use Rattle.uv_memory.proofs.Trails.{begins_same, unwound-push}
pub use Rattle.uv_memory.specs.Parts.{parts}
pub use Rattle.uv_memory.specs.Trail.{DropsOne}
pub use Rattle.uv_model.proofs.Bounded.{after_able}
pub use Rattle.uv_model.proofs.Calls.{at_name, count_below}
pub use Rattle.uv_model.proofs.Runs.{after-moves, seen_by-moves, seen_by-nil, seen_by-take}
pub use Rattle.uv_model.specs.After.{STEPS, seen_by}
pub use Rattle.uv_model.specs.Handing.{AnswersResult, RefusesResult, job_in, job_run}
pub use Rattle.uv_model.specs.Layout.{AreWalked, HasNeighbours, LiesFor, entry_of, generation_in, id_now, slots_on, with_ends}
pub use Rattle.uv_model.specs.Limits.{LATEST}
pub use Rattle.uv_model.specs.Queries.{is_free, numbers, run_by, worker_of}
pub use Rattle.uv_model.specs.declared.layout.LaidSlot.{LaidSlot}
pub use Rattle.uv_model.specs.declared.layout.Layout.{Layout}
pub use Rattle.uv_model.specs.declared.layout.ListEnds.{ListEnds}
pub use Rattle.uv_model.specs.declared.machine.Outcome.{Outcome}
pub use Rattle.uv_model.specs.declared.numbers.Numbers.{Numbers}
pub use Rattle.uv_order.proofs.Reaching.{reached}
pub use Rattle.uv_records.specs.Linked.{IsIn, ends_of, first, last}
pub use Rattle.uv_records.specs.Lists.{all_lists}
pub use Rattle.uv_requests.specs.Calls.{RefusesFinish, RefusesTake}
pub use Rattle.uv_stands.proofs.Loose.{idle_loose}
pub use Rattle.uv_stands.proofs.Onto.{list_named}
pub use Rattle.uv_stands.proofs.Pools.{active_fit, first_one, opened_fit, run_there}
pub use Rattle.uv_stands.proofs.Returning.{extended_returns, recorded_returns}
pub use Rattle.uv_stands.proofs.Single.{place_is}
pub use Rattle.uv_stands.proofs.Walked.{IsWalked, begins_with, walk_goes}
pub use Rattle.uv_stands.specs.PackedPlaces.{place_of, stage_of}
pub use Rattle.uv_work.specs.declared.content.Content.TheVariants.{Request as Asked}
