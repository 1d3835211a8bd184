-- The names that proofs of this crate bring in.
pub use Rattle.uv_handle.proofs.Names.{HandleRecord, Id, Image, IsFirst, IsPushed, held, members, option_and_then, record_at, slice_get, subst, ◌≢◌}
pub use Rattle.uv_heap.proofs.Names.{Bool, Heap, IfSome, IsInOrder, List, None, Option, SlotsDiffer, Some, [], ap, arith, cases_Bool, count_by, entry_at, eq-eqb, eqb-true, fails_before_first, false, false≢true, inl, inr, is_same, le-leb, length, ltb, ltb-false, no_entry, place_in, position_or_len, refl, suc, sym, true, without, ℕ, ◌++◌, ◌-◌, ◌<◌, ◌^◌, ◌∙◌, ◌∷◌, ◌≡◌, ◌≤◌, ◌⊎◌}
pub use Rattle.std.proofs.Common.{if◌then◌else◌, is_some, nat_le, ◌==◌}
pub use Rattle.std.proofs.lemmas.Bool.{leb-true}
pub use Rattle.uv_arena.proofs.Lookups.{is_there}
pub use Rattle.uv_arena.specs.Image.{slot_at, slot_in}
pub use Rattle.uv_handle.proofs.Closed.{same_count}
pub use Rattle.uv_heap.proofs.MoveLemmas.{if_false, if_true, if_when}
pub use Rattle.uv_heap.proofs.OrderLemmas.{count_by-cons, one}
pub use Rattle.uv_heap.proofs.Ranks.{same_is, same_itself}
pub use Rattle.uv_heap.specs.declared.entry.Entry.{Entry}
pub use Rattle.uv_records.specs.Slots.{id_of}
pub use Rattle.uv_records.specs.declared.lists.ListName.TheVariants.{Ready}
pub use Rattle.uv_timer.specs.Changes.{becoming, collecting, firing, starting}
pub use Rattle.uv_timer.specs.Timed.{CanUndoTimer, timed, timer_undone, with_arena}
pub use Rattle.uv_timer.specs.Timers.{IsCollected, IsDue, IsRescheduled, NoneIsDue, NoneIsReady, cleared, due_of, first_due, first_ready, handle_first, handle_of, taken_off}
pub use Rattle.uv_timer.specs.declared.change.Times.{Times}
pub use Rattle.uv_timer.specs.declared.undo.TimerUndo.{TimerUndo}
