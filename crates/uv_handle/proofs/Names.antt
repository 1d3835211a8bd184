-- The names that proofs of this crate bring in.
pub use Rattle.uv_arena.proofs.ProofNames.{Bool, CanUndoUnlink, Fits32, Id, Image, IsFirst, IsInserted, IsPushed, IsRemoved, IsRotated, IsSet, IsSound, IsUnlinked, List, ListName, None, Option, Slot, Some, [], ap, arith, eqb_tells, false, held, held_slots, inl, inr, length, length-map, members, one_if, option_and_then, plain_slots, refl, remove_undone, rotate_undone, set, slice_get, subst, suc, sym, true, unlink_undone, zero, ℕ, ◌++◌, ◌+◌, ◌<◌, ◌∙◌, ◌∷◌, ◌≡◌, ◌≢◌, ◌≤◌}
pub use Rattle.uv_arena.proofs.Contents.{content_is, next_tells, set_done, slot_tells}
pub use Rattle.uv_arena.specs.Calls.{SameSlots}
pub use Rattle.uv_arena.specs.Undo.{CanUndoRotate}
pub use Rattle.uv_arena.specs.declared.links.Cell.{Cell}
pub use Rattle.uv_arena.specs.declared.links.ChainPlace.{ChainPlace}
pub use Rattle.uv_arena.specs.declared.undo.InsertUndo.{InsertUndo}
pub use Rattle.uv_arena.specs.declared.undo.RemoveUndo.{RemoveUndo}
pub use Rattle.uv_handle.specs.Changes.{IsAdded, IsChanged, IsEnlisted, IsTaken}
pub use Rattle.uv_handle.specs.Counted.{CanUndoRecord, Counted, alive_count, counted, record_at, record_undone}
pub use Rattle.uv_handle.specs.declared.undo.RecordUndo.{RecordUndo}
pub use Rattle.uv_ids.specs.declared.id.Var.{Var}
pub use Rattle.uv_ids.specs.declared.phase.Kind.{Kind}
pub use Rattle.uv_records.specs.Count.{active_count, content_keeps, keeps_in}
pub use Rattle.uv_records.specs.Handles.{inited, keeps_alive, woken}
pub use Rattle.uv_records.specs.declared.handle.HandleRecord.{HandleRecord}
pub use Rattle.uv_records.specs.declared.lists.ListName.TheVariants.{ClosingYet}
