-- What holds after each call that changes a timer.
use Rattle.std.specs.Prelude.{◌≡◌, ◌≢◌, ◌≤◌, ℕ, ◌+◌, ◌==◌, ◌⊎◌, true, eqb, List, [], ◌∷◌, ◌++◌, slice_get, Option, Some, None, IfSome, is_some, nat_le, if◌then◌else◌}
use Rattle.uv_ids.specs.declared.id.Id.{Id}
use Rattle.uv_ids.specs.declared.due.Due.{Due}
use Rattle.uv_records.specs.declared.handle.HandleRecord.{HandleRecord}
use Rattle.uv_records.specs.declared.lists.ListName.{ListName}
use Rattle.uv_records.specs.declared.lists.ListName.TheVariants.{Ready}
use Rattle.uv_records.specs.Handles.{stopped}
use Rattle.uv_records.specs.Slots.{id_of, with_held}
use Rattle.uv_records.specs.Walks.{without}
use Rattle.uv_arena.specs.Image.{Image, members, slot_at, held, on_list, plain_slots}
use Rattle.uv_arena.specs.Calls.{IsFirst}
use Rattle.uv_handle.specs.Counted.{IsCounted, record_at}
use Rattle.uv_handle.specs.Changes.{IsDelisted}
use Rattle.uv_heap.specs.declared.entry.Entry.{Entry}
use Rattle.uv_heap.specs.Array.{place_in}
use Rattle.uv_heap.specs.Moves.{pushed, removed}
use Rattle.uv_heap.specs.Order.{IsInOrder, IsBeforeAll, inserted}
use Rattle.uv_timer.specs.declared.change.Times.{Times}
use Rattle.uv_timer.specs.declared.change.TimerChange.{TimerChange}
use Rattle.uv_timer.specs.declared.undo.TimerUndo.{TimerUndo}
use Rattle.uv_timer.specs.declared.undo.CollectUndo.{CollectUndo}
use Rattle.uv_timer.specs.Changes.{firing}
use Rattle.uv_timer.specs.Timed.{Timed, timer_undone, collect_undone, CanUndoTimer, CanUndoCollect}

-- the timers without that of a slot
abbrev pub cleared : ℕ → List Entry → List Entry
cleared slot [] = []
cleared slot (x ∷ xs) = if x.slot == slot then xs else x ∷ cleared slot xs

-- and with one that is due then, at its place in the order
abbrev pub with_due : Option Due → ℕ → List Entry → List Entry
with_due None slot ts = ts
with_due (Some due) slot ts = inserted (record { due = due; slot = slot }) ts

-- the heap's array without the timer of a slot: taken off at its place, if it is there
abbrev pub taken_off : Option ℕ → List Entry → List Entry
taken_off None array = array
taken_off (Some place) array = (removed array place).array

abbrev pub off_heap : ℕ → List Entry → List Entry
off_heap slot array = taken_off (place_in array slot) array

-- and with one that is due then, pushed
abbrev pub on_heap : Option Due → ℕ → List Entry → List Entry
on_heap None slot array = array
on_heap (Some due) slot array = (pushed array (record { due = due; slot = slot })).array

-- one that is set draws a start number
abbrev pub drawn : Option Due → Times → Times
drawn None t = t
drawn (Some due) t = record t { next_start = t.next_start + 1 }

module _ {X : Type 0} (read : X → Option HandleRecord) where
  -- the first timer of the order, if it is due; the slot of the array's least entry holds it
  pub record IsDue (i : Image X) (array : List Entry) (time : ℕ) (d : Id) (h : HandleRecord) : Type 0 where
    pub entry : Entry
    pub least : slice_get array 0 ≡ Some entry
    pub first : (f : Entry) (fs : List Entry) → IsInOrder array (f ∷ fs) → IsBeforeAll f fs → entry ≡ f
    pub due : entry.due.at ≤ time
    pub slot : d.slot ≡ entry.slot
    pub handle : record_at read i d ≡ Some h

  -- the handle that a slot holds, if it holds one
  abbrev pub handle_of : Image X → ℕ → Option Id
  handle_of i slot =
      let d = id_of slot (slot_at i.memory slot) in
      if is_some (record_at read i d) then Some d else None

  abbrev pub due_of : Image X → ℕ → Option Entry → Option Id
  due_of i time None = None
  due_of i time (Some e) = if nat_le e.due.at time then handle_of i e.slot else None

  -- the timer that a collecting takes: that of the array's least entry, if it is due
  abbrev pub first_due : Image X → List Entry → ℕ → Option Id
  first_due i array time = due_of i time (slice_get array 0)

  -- the timer that is called next: the front of the ready list
  abbrev pub handle_first : Image X → List ℕ → Option Id
  handle_first i [] = None
  handle_first i (slot ∷ slots) = handle_of i slot

  abbrev pub first_ready : Image X → Option Id
  first_ready i = handle_first i (members i Ready)

  -- no timer is due: there is none, or the least one isn't due (or its slot holds no handle)
  abbrev pub NoneIsDue : Image X → List Entry → ℕ → Type 0
  NoneIsDue i array time = IfSome (slice_get array 0) (λ e. e.due.at ≤ time → record_at read i (id_of e.slot (slot_at i.memory e.slot)) ≡ None)

  -- no timer is ready: the list is empty (or its front is no handle)
  abbrev pub NoneIsReady : Image X → Type 0
  NoneIsReady i = (members i Ready ≡ []) ⊎ ((d : Id) × IsFirst i Ready d × (record_at read i d ≡ None))

  module _ (make : HandleRecord → X) where
    -- the handle has its other record, and is off its list if it was to leave it; it is on the heap if it is due at some time, and
    -- not otherwise. One that was on the heap is taken off it first, and then pushed anew
    pub record IsRescheduled (room : ℕ) (old new : Timed X) (d : Id) (c : TimerChange) (u : TimerUndo) : Type 0 where
      pub handles : IsDelisted read make old.handles new.handles d c.from c.to c.leaves u.delisted
      pub heap : new.heap ≡ on_heap c.due d.slot (off_heap d.slot old.heap)
      pub timers : (ts : List Entry) → IsInOrder old.heap ts → IsInOrder new.heap (with_due c.due d.slot (cleared d.slot ts))
      pub times : new.times ≡ drawn c.due old.times
      pub undone : timer_undone read make u new ≡ old
      pub can_undo : CanUndoTimer read make room new u

    -- the first timer, which is due, is off the heap, inactive, and at the end of the ready list
    pub record IsCollected (room : ℕ) (old new : Timed X) (d : Id) (u : CollectUndo) : Type 0 where
      pub from : HandleRecord
      pub is_due : IsDue old.handles.arena old.heap old.times.time d from
      pub handle : record_at read new.handles.arena d ≡ Some (stopped from)
      pub plain : plain_slots new.handles.arena
          ≡ record (plain_slots old.handles.arena) { slots = with_held (plain_slots old.handles.arena).slots d (make (stopped from)) }
      pub ready : members new.handles.arena Ready ≡ without eqb (members old.handles.arena Ready) d.slot ++ d.slot ∷ []
      pub others : (l : ListName) → l ≢ Ready → members new.handles.arena l ≡ without eqb (members old.handles.arena l) d.slot
      pub listed : on_list new.handles.arena d ≡ true
      pub contents : (e : Id) → e.slot ≢ d.slot → held new.handles.arena e ≡ held old.handles.arena e
      pub kept : (e : Id) → e.slot ≢ d.slot → on_list new.handles.arena e ≡ on_list old.handles.arena e
      pub counts : IsCounted read new.handles
      pub heap : new.heap ≡ off_heap d.slot old.heap
      pub timers : (ts : List Entry) → IsInOrder old.heap ts → IsInOrder new.heap (cleared d.slot ts)
      pub times : new.times ≡ old.times
      pub undone : collect_undone read make u new ≡ old
      pub can_undo : CanUndoCollect read make room new u

    -- the front of the ready list is off it, and set again from now if it repeats
    pub record IsFired (room : ℕ) (old new : Timed X) (d : Id) (u : TimerUndo) : Type 0 where
      pub first : IsFirst old.handles.arena Ready d
      pub from : HandleRecord
      pub changed : IsRescheduled room old new d (firing old.times from) u
