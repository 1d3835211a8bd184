-- What holds after each call that changes a handle.
use Rattle.std.specs.Prelude.{Bool, true, false, ◌≡◌, ◌≢◌, eqb, ◌∷◌, Option, Some, if◌then◌else◌}
use Rattle.uv_ids.specs.declared.id.Id.{Id}
use Rattle.uv_ids.specs.declared.id.Var.{Var}
use Rattle.uv_ids.specs.declared.phase.Kind.{Kind}
use Rattle.uv_records.specs.declared.handle.HandleRecord.{HandleRecord}
use Rattle.uv_records.specs.declared.lists.ListName.{ListName}
use Rattle.uv_records.specs.declared.lists.ListName.TheVariants.{ClosingYet}
use Rattle.uv_records.specs.Handles.{inited}
use Rattle.uv_records.specs.Slots.{freed, with_held}
use Rattle.uv_records.specs.Walks.{without}
use Rattle.uv_arena.specs.Image.{members, held, on_list, plain_slots}
use Rattle.uv_arena.specs.Calls.{IsInserted, IsSet, IsFirst}
use Rattle.uv_handle.specs.declared.undo.RecordUndo.{RecordUndo}
use Rattle.uv_handle.specs.declared.undo.AddUndo.{AddUndo}
use Rattle.uv_handle.specs.declared.undo.ListUndo.{ListUndo}
use Rattle.uv_handle.specs.declared.undo.DelistUndo.{DelistUndo}
use Rattle.uv_handle.specs.declared.undo.TakeUndo.{TakeUndo}
use Rattle.uv_handle.specs.Counted.{Counted, IsCounted, record_at, record_undone, add_undone, enlist_undone, delist_undone, take_undone, CanUndoRecord, CanUndoAdd, CanUndoEnlist, CanUndoDelist, CanUndoTake}

module _ {X : Type 0} (read : X → Option HandleRecord) (make : HandleRecord → X) where
  -- a handle as `init` makes it is held under the id, and on no list
  pub record IsAdded (old new : Counted X) (name : Var) (kind : Kind) (d : Id) (u : AddUndo) : Type 0 where
    pub inserted : IsInserted old.arena new.arena (make (inited name kind)) d u.inserted
    pub handle : record_at read new.arena d ≡ Some (inited name kind)
    pub counts : IsCounted read new
    pub undone : add_undone read u new ≡ old
    pub can_undo : CanUndoAdd read new u

  -- the handle has this record now
  pub record IsChanged (old new : Counted X) (d : Id) (from to : HandleRecord) (u : RecordUndo) : Type 0 where
    pub set : IsSet old.arena new.arena d (make to) (make from)
    pub handle : record_at read new.arena d ≡ Some to
    pub slot : u.slot ≡ d.slot
    pub counts : IsCounted read new
    pub undone : record_undone read make u new ≡ old
    pub can_undo : CanUndoRecord read make new u

  -- the handle has this record now, and is at the front of a list
  pub record IsEnlisted (old new : Counted X) (d : Id) (from to : HandleRecord) (list : ListName) (u : ListUndo) : Type 0 where
    pub there : record_at read old.arena d ≡ Some from
    pub handle : record_at read new.arena d ≡ Some to
    pub plain : plain_slots new.arena ≡ record (plain_slots old.arena) { slots = with_held (plain_slots old.arena).slots d (make to) }
    pub lists : members new.arena list ≡ d.slot ∷ members old.arena list
    pub others : (l : ListName) → l ≢ list → members new.arena l ≡ members old.arena l
    pub listed : on_list new.arena d ≡ true
    pub contents : (e : Id) → e.slot ≢ d.slot → held new.arena e ≡ held old.arena e
    pub kept : (e : Id) → e.slot ≢ d.slot → on_list new.arena e ≡ on_list old.arena e
    pub counts : IsCounted read new
    pub undone : enlist_undone read make u new ≡ old
    pub can_undo : CanUndoEnlist read make new u

  -- the handle has this record now, and is on no list if it was to leave the one that it was on
  pub record IsDelisted (old new : Counted X) (d : Id) (from to : HandleRecord) (leaves : Bool) (u : DelistUndo) : Type 0 where
    pub there : record_at read old.arena d ≡ Some from
    pub handle : record_at read new.arena d ≡ Some to
    pub plain : plain_slots new.arena ≡ record (plain_slots old.arena) { slots = with_held (plain_slots old.arena).slots d (make to) }
    pub lists : (l : ListName) → members new.arena l ≡ (if leaves then without eqb (members old.arena l) d.slot else members old.arena l)
    pub loose : leaves ≡ true → on_list new.arena d ≡ false
    pub contents : (e : Id) → e.slot ≢ d.slot → held new.arena e ≡ held old.arena e
    pub kept : (e : Id) → e.slot ≢ d.slot → on_list new.arena e ≡ on_list old.arena e
    pub counts : IsCounted read new
    pub undone : delist_undone read make u new ≡ old
    pub can_undo : CanUndoDelist read make new u

  -- the front of those that have yet to be closed is off its list, and its slot is freed
  pub record IsTaken (old new : Counted X) (d : Id) (content : X) (u : TakeUndo) : Type 0 where
    pub first : IsFirst old.arena ClosingYet d
    pub was : held old.arena d ≡ Some content
    pub plain : plain_slots new.arena ≡ freed old.arena.last d (plain_slots old.arena)
    pub lists : (l : ListName) → members new.arena l ≡ without eqb (members old.arena l) d.slot
    pub contents : (e : Id) → e.slot ≢ d.slot → held new.arena e ≡ held old.arena e
    pub kept : (e : Id) → e.slot ≢ d.slot → on_list new.arena e ≡ on_list old.arena e
    pub counts : IsCounted read new
    pub undone : take_undone read u content new ≡ old
    pub can_undo : CanUndoTake read new u content
