-- The names that proofs of this crate bring in.
pub use Rattle.uv_alike.proofs.Names.{Body, Bool, Change, Comes, Content, Due, Event, Finish, HandleRecord, Hides, Id, IsExact, IsWhole, Kind, LATEST, List, Main, Moves, Named, Next, None, Op, Option, Place, Program, Refuses, Running, Seen, Site, Slot, Slots, Some, State, Take, Tick, [], ap, ap₂, arena_size, arith, changed, changed_body, changed_content, changed_line, changed_live, changed_place, cond_both, due_cmp, elements, false, first_due, freed, front, handle, handle_in, held, held_in, id_of, if◌then◌else◌, inl, inr, is_timer, list_any, live, map, min, named, nat_le, op_at, option_and_then, option_map, refl, same, slice_get, slice_get-map, slice_set, suc, sym, taken_from, true, zero, ℕ, ◌&&◌, ◌++◌, ◌+◌, ◌-◌, ◌<◌, ◌==◌, ◌∙◌, ◌∷◌, ◌≡◌, next_map}
pub use Rattle.uv_model.proofs.Names.{All, goes_on, ◌^◌}
pub use Rattle.uv_order.proofs.Names.{AreSetAside, AreTimers, Before, Has, InOrder, content_keeps, content_pends, fresh, is_used, none-some, replicate, same_Some, state_of, subst, ◌≤◌}
pub use Rattle.uv_order.specs.Active.{IsTimer}
pub use Rattle.uv_shift.specs.Earliest.{IsTimed, base, earlier, earliest, least_start, or_first, or_over}
pub use Rattle.uv_shift.specs.Retimed.{Retiming, retimed, retimed_content, retimed_due, retimed_entry, retimed_handle, retimed_if, retimed_place, retimed_slot}
pub use Rattle.uv_shift.specs.Shift.{By, ClockFits, FitsOp, IsMoved, IsShort, IsShortOp, TimesFit, later, shift, shift_line}
