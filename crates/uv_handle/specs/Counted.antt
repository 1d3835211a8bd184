-- The arena and the count of its active referenced handles, which the calls of handles change; and what takes them back.
use Rattle.std.specs.Prelude.{◌≡◌, ℕ, Option, Some, None, option_map, option_and_then}
use Rattle.uv_ids.specs.declared.id.Id.{Id}
use Rattle.uv_records.specs.declared.handle.HandleRecord.{HandleRecord}
use Rattle.uv_records.specs.Count.{active_count}
use Rattle.uv_arena.specs.declared.links.ChainPlace.{ChainPlace}
use Rattle.uv_arena.specs.Image.{Image, held, held_slots}
use Rattle.uv_arena.specs.Undo.{set_undone, insert_undone, remove_undone, push_undone, unlink_undone, CanUndoSet, CanUndoInsert, CanUndoRemove, CanUndoPush, CanUndoUnlink}
use Rattle.uv_handle.specs.declared.undo.RecordUndo.{RecordUndo}
use Rattle.uv_handle.specs.declared.undo.AddUndo.{AddUndo}
use Rattle.uv_handle.specs.declared.undo.ListUndo.{ListUndo}
use Rattle.uv_handle.specs.declared.undo.DelistUndo.{DelistUndo}
use Rattle.uv_handle.specs.declared.undo.TakeUndo.{TakeUndo}

pub record Counted (X : Type 0) : Type 0 where
  pub arena : Image X
  pub count : ℕ

module _ {X : Type 0} where
  abbrev pub counted : Image X → ℕ → Counted X
  counted i n = record { arena = i; count = n }

  -- a slot that was on a list is put back there
  abbrev pub relisted : Option ChainPlace → Image X → Image X
  relisted None i = i
  relisted (Some t) i = unlink_undone t i

  abbrev pub CanRelist : Option ChainPlace → Image X → Type 0
  CanRelist None i = Unit {0}
  CanRelist (Some t) i = CanUndoUnlink i t

module _ {X : Type 0} (read : X → Option HandleRecord) where
  -- what is held under an id: nothing, something that is no handle, or a handle's record
  abbrev pub found : Image X → Id → Option (Option HandleRecord)
  found i d = option_map read (held i d)

  -- the record of a handle
  abbrev pub record_at : Image X → Id → Option HandleRecord
  record_at i d = option_and_then read (held i d)

  -- the active referenced handles of an arena
  abbrev pub alive_count : Image X → ℕ
  alive_count i = active_count read (held_slots i.memory)

  -- the count is the arena's
  abbrev pub IsCounted : Counted X → Type 0
  IsCounted c = c.count ≡ alive_count c.arena

  -- a new handle is taken back
  abbrev pub add_undone : AddUndo → Counted X → Counted X
  add_undone u c = counted (insert_undone u.inserted c.arena) u.active

  pub record CanUndoAdd (c : Counted X) (u : AddUndo) : Type 0 where
    pub inserted : CanUndoInsert c.arena u.inserted
    pub counts : IsCounted (add_undone u c)

  -- a closing handle that was taken and freed is put back, with what its slot held
  abbrev pub take_undone : TakeUndo → X → Counted X → Counted X
  take_undone u v c = counted (unlink_undone u.unlinked (remove_undone u.removed v c.arena)) u.active

  pub record CanUndoTake (c : Counted X) (u : TakeUndo) (v : X) : Type 0 where
    pub removed : CanUndoRemove c.arena u.removed v
    pub unlinked : CanUndoUnlink (remove_undone u.removed v c.arena) u.unlinked
    pub counts : IsCounted (take_undone u v c)

  module _ (make : HandleRecord → X) where
    -- a change of a record is taken back
    abbrev pub record_undone : RecordUndo → Counted X → Counted X
    record_undone u c = counted (set_undone u.slot (make u.old) c.arena) u.active

    pub record CanUndoRecord (c : Counted X) (u : RecordUndo) : Type 0 where
      pub content : CanUndoSet c.arena u.slot (make u.old)
      pub counts : IsCounted (record_undone u c)

    -- the handle leaves the list again, and its record is put back
    abbrev pub enlist_undone : ListUndo → Counted X → Counted X
    enlist_undone u c = record_undone u.changed (counted (push_undone u.pushed.slot c.arena) c.count)

    pub record CanUndoEnlist (c : Counted X) (u : ListUndo) : Type 0 where
      pub pushed : CanUndoPush c.arena u.pushed.slot
      pub changed : CanUndoRecord (counted (push_undone u.pushed.slot c.arena) c.count) u.changed

    -- the record is put back, and then the handle on its list
    abbrev pub delist_undone : DelistUndo → Counted X → Counted X
    delist_undone u c = counted (relisted u.unlinked (record_undone u.changed c).arena) u.changed.active

    pub record CanUndoDelist (c : Counted X) (u : DelistUndo) : Type 0 where
      pub changed : CanUndoRecord c u.changed
      pub unlinked : CanRelist u.unlinked (record_undone u.changed c).arena
