-- What holds after each call that changes a watcher.
use Rattle.std.specs.Prelude.{◌≡◌, ◌≢◌, ℕ, Bool, true, false, not, Option, Some, None, option_map, if◌then◌else◌}
use Rattle.uv_ids.specs.declared.id.Id.{Id}
use Rattle.uv_records.specs.declared.handle.HandleRecord.{HandleRecord}
use Rattle.uv_records.specs.declared.lists.ListName.{ListName}
use Rattle.uv_records.specs.declared.lists.WatcherKind.{WatcherKind}
use Rattle.uv_records.specs.declared.lists.WatcherKind.TheVariants as watcher
use Rattle.uv_records.specs.Handles.{stopped, activated, woken}
use Rattle.uv_records.specs.Lists.{watcher_kind, list_of, yet_of}
use Rattle.uv_records.specs.Refusals.{start_watcher_refusal}
use Rattle.uv_records.specs.Slots.{with_held}
use Rattle.uv_records.specs.Walks.{Walk, all_yet, moved_on}
use Rattle.uv_arena.specs.declared.undo.SpliceUndo.{SpliceUndo}
use Rattle.uv_arena.specs.Image.{Image, members, held, on_list, plain_slots}
use Rattle.uv_arena.specs.Undo.{splice_undone, CanUndoSplice}
use Rattle.uv_arena.specs.Calls.{IsFirst, SameSlots}
use Rattle.uv_handle.specs.declared.undo.DelistUndo.{DelistUndo}
use Rattle.uv_handle.specs.declared.undo.ListUndo.{ListUndo}
use Rattle.uv_handle.specs.declared.undo.RecordUndo.{RecordUndo}
use Rattle.uv_handle.specs.Counted.{Counted, IsCounted, record_at}
use Rattle.uv_handle.specs.Changes.{IsEnlisted, IsDelisted}
use Rattle.uv_handle.specs.declared.undo.WalkUndo.{WalkUndo}
use Rattle.uv_handle.specs.Walks.{unwoken, CanUnwake, walk_undone, CanUndoWalk}

-- a handle waits for its callback
abbrev pub pending_in : Option HandleRecord → Bool
pending_in None = false
pending_in (Some h) = h.pending

-- a section looks at that where its handles can be sent to: those of the async section
abbrev pub pending_of : WatcherKind → Option HandleRecord → Bool
pending_of watcher.Async h = pending_in h
pending_of w h = false

-- the record of a handle that waited for its callback, and waits no more; any other one stays
abbrev pub woken_if : Bool → Option HandleRecord → Option HandleRecord
woken_if pending h = if pending then option_map woken h else h

-- the walked list of a kind, by slots
abbrev pub walk_of : {X : Type 0} → Image X → WatcherKind → Walk ℕ
walk_of i w = record { list = members i (list_of w); yet = members i (yet_of w) }

-- a section begins: the whole list is yet to run
pub record IsBegun {X : Type 0} (old new : Image X) (w : WatcherKind) (u : SpliceUndo) : Type 0 where
  pub walk : walk_of new w ≡ all_yet (walk_of old w)
  pub others : (l : ListName) → l ≢ list_of w → l ≢ yet_of w → members new l ≡ members old l
  pub slots : SameSlots old new
  pub kept : (e : Id) → on_list new e ≡ on_list old e
  pub undone : splice_undone u new ≡ old
  pub can_undo : CanUndoSplice new u

module _ {X : Type 0} (read : X → Option HandleRecord) (make : HandleRecord → X) where
  -- a watcher that was inactive is active, and at the front of its list
  pub record IsStarted (old new : Counted X) (d : Id) (u : ListUndo) : Type 0 where
    pub from : HandleRecord
    pub kind : WatcherKind
    pub is_kind : watcher_kind from.kind ≡ Some kind
    pub allowed : start_watcher_refusal from ≡ None
    pub inactive : from.active ≡ false
    pub enlisted : IsEnlisted read make old new d from (activated from) (list_of kind) u

  -- the handle is inactive, and off its list unless it is closing
  abbrev pub IsStopped : Counted X → Counted X → Id → HandleRecord → DelistUndo → Type 0
  IsStopped old new d from u = IsDelisted read make old new d from (stopped from) (not from.closing) u

  -- the handle waits for no callback any more
  pub record IsWoken (old new : Counted X) (w : WatcherKind) (d : Id) (pending : Bool) (u : Option RecordUndo) : Type 0 where
    pub was : pending ≡ pending_of w (record_at read old.arena d)
    pub handle : record_at read new.arena d ≡ woken_if pending (record_at read old.arena d)
    pub asleep : pending ≡ false → plain_slots new.arena ≡ plain_slots old.arena
    pub awake : (h : HandleRecord) → record_at read old.arena d ≡ Some h → pending ≡ true
        → plain_slots new.arena ≡ record (plain_slots old.arena) { slots = with_held (plain_slots old.arena).slots d (make (woken h)) }
    pub lists : (l : ListName) → members new.arena l ≡ members old.arena l
    pub contents : (e : Id) → e.slot ≢ d.slot → held new.arena e ≡ held old.arena e
    pub kept : (e : Id) → on_list new.arena e ≡ on_list old.arena e
    pub counts : IsCounted read new
    pub undone : unwoken read make u new ≡ old
    pub can_undo : CanUnwake read make u new

  -- the front of those yet to run is at the end of its list, and one of the async section waits for no callback any more
  pub record IsMovedOn (old new : Counted X) (w : WatcherKind) (d : Id) (pending : Bool) (u : WalkUndo) : Type 0 where
    pub first : IsFirst old.arena (yet_of w) d
    pub was : pending ≡ pending_of w (record_at read old.arena d)
    pub walk : walk_of new.arena w ≡ moved_on (walk_of old.arena w) d.slot first.rest
    pub others : (l : ListName) → l ≢ list_of w → l ≢ yet_of w → members new.arena l ≡ members old.arena l
    pub handle : record_at read new.arena d ≡ woken_if pending (record_at read old.arena d)
    pub asleep : pending ≡ false → plain_slots new.arena ≡ plain_slots old.arena
    pub awake : (h : HandleRecord) → record_at read old.arena d ≡ Some h → pending ≡ true
        → plain_slots new.arena ≡ record (plain_slots old.arena) { slots = with_held (plain_slots old.arena).slots d (make (woken h)) }
    pub listed : on_list new.arena d ≡ true
    pub contents : (e : Id) → e.slot ≢ d.slot → held new.arena e ≡ held old.arena e
    pub kept : (e : Id) → e.slot ≢ d.slot → on_list new.arena e ≡ on_list old.arena e
    pub counts : IsCounted read new
    pub undone : walk_undone read make u new ≡ old
    pub can_undo : CanUndoWalk read make new u
