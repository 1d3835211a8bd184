-- What a step of the memory did, beside its record.
use Rattle.std.specs.Prelude.{◌≡◌, ℕ, ◌∷◌, [], ◌++◌, ◌⊎◌, Bool, true, false, Some, None}
use Rattle.uv_ids.specs.declared.id.Id.{Id}
use Rattle.uv_ids.specs.declared.id.Var.{Var}
use Rattle.uv_ids.specs.declared.phase.Kind.{Kind}
use Rattle.uv_ids.specs.declared.phase.Kind.TheVariants as kind
use Rattle.uv_records.specs.declared.handle.HandleRecord.{HandleRecord}
use Rattle.uv_records.specs.declared.lists.ListName.{ListName}
use Rattle.uv_records.specs.declared.lists.ListName.TheVariants.{Async, Closing}
use Rattle.uv_records.specs.Handles.{closed}
use Rattle.uv_arena.specs.Image as arena
use Rattle.uv_arena.specs.Calls.{IsPushed, IsFirst}
use Rattle.uv_handle.specs.Counted.{Counted, record_at}
use Rattle.uv_handle.specs.Changes.{IsAdded}
use Rattle.uv_handle.specs.declared.undo.TakeUndo.{TakeUndo}
use Rattle.uv_timer.specs.declared.undo.CollectUndo.{CollectUndo}
use Rattle.uv_requests.specs.declared.undo.CollectWorkUndo.{CollectWorkUndo}
use Rattle.uv_timer.specs.Changes.{becoming}
use Rattle.uv_work.specs.declared.request.Request.{Request}
use Rattle.uv_timer.specs.Timed.{Timed, with_arena}
use Rattle.uv_timer.specs.Timers.{IsRescheduled}
use Rattle.uv_work.specs.declared.content.Content.{Content}
use Rattle.uv_work.specs.declared.content.Content.TheVariants.{Handle}
use Rattle.uv_memory.specs.declared.record.Added.{Added}
use Rattle.uv_memory.specs.Change.{Change}
use Rattle.uv_memory.specs.Change as change
use Rattle.uv_memory.specs.declared.record.Naming.TheVariants.{Same as unnamed}
use Rattle.uv_memory.specs.Record.{Record}
use Rattle.uv_work.specs.Content.{handle_of}

-- the record of a change alone
abbrev pub changed : {P : Type 0} → P → Change → Record P
changed place c = record { place = place; naming = unnamed; change = c }

-- the changes whose tokens lie in parts, or beside what a slot held
abbrev pub moved_by : CollectUndo → Change
moved_by u = change.Moved u.pushed u.timer

abbrev pub closed_by : HandleRecord → TakeUndo → Change
closed_by h u = change.Closed u h

abbrev pub ended_by : Request → CollectWorkUndo → Change
ended_by r u = change.Ended u r

-- a change of this kind, of whose token this holds
pub record By {U : Type 0} (kind : U → Change) (F : U → Type 0) (c : Change) : Type 0 where
  pub undo : U
  pub is : c ≡ kind undo
  pub does : F undo

-- async handles are listed as they are made
abbrev pub is_async : Kind → Bool
is_async kind.Async = true
is_async k = false

abbrev pub JoinsIf : Bool → arena.Image Content → arena.Image Content → Id → Type 0
JoinsIf false i j d = j ≡ i
JoinsIf true i j d = IsPushed i j Async d (arena.members i Async ++ d.slot ∷ [])

-- a handle is made, and put at the end of the async list if it is an async one
pub record IsMade (old new : Counted Content) (name : Var) (kind : Kind) (d : Id) (u : Added) : Type 0 where
  pub mid : arena.Image Content
  pub added : IsAdded handle_of Handle old (record { arena = mid; count = new.count }) name kind d u.added
  pub listed : u.listed ≡ is_async kind
  pub joins : JoinsIf u.listed mid new.arena d

-- a handle is off its list and the heap, inactive and closing, and at the front of the closing list
pub record IsShut (room : ℕ) (old new : Timed Content) (d : Id) (from : HandleRecord) (u : CollectUndo) : Type 0 where
  pub mid : arena.Image Content
  pub changed : IsRescheduled handle_of Handle room old (with_arena mid new) d (becoming from (closed from) None) u.timer
  pub listed : IsPushed mid new.handles.arena Closing d (d.slot ∷ arena.members mid Closing)

-- the front of a list, which is a handle
pub record FirstIs (i : arena.Image Content) (l : ListName) (d : Id) (h : HandleRecord) : Type 0 where
  pub first : IsFirst i l d
  pub handle : record_at handle_of i d ≡ Some h

-- the list is empty (or its front is no handle)
abbrev pub NoHandleFirst : arena.Image Content → ListName → Type 0
NoHandleFirst i l = (arena.members i l ≡ []) ⊎ ((d : Id) × IsFirst i l d × (record_at handle_of i d ≡ None))
