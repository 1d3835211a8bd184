-- All that the calls of timers change; what takes them back, and when that may be asked: where all is as the call left it.
use Rattle.std.specs.Borrow.{MutBor}
use Rattle.std.specs.Prelude.{ℕ, ◌<◌, ◌^◌, ◌-◌, List, Option, Some, None}
use Rattle.uv_records.specs.declared.handle.HandleRecord.{HandleRecord}
use Rattle.uv_arena.specs.Image.{Arena, Image}
use Rattle.uv_arena.specs.Undo.{push_undone, CanUndoPush}
use Rattle.uv_handle.specs.Counted.{Counted, counted, delist_undone, CanUndoDelist}
use Rattle.uv_heap.specs.declared.entry.Entry.{Entry}
use Rattle.uv_heap.specs.declared.undo.HeapRemoveUndo.{HeapRemoveUndo}
use Rattle.uv_heap.specs.Array.{Heap}
use Rattle.uv_heap.specs.Undo as heap
use Rattle.uv_timer.specs.declared.change.Times.{Times}
use Rattle.uv_timer.specs.declared.parts.TimerParts.{TimerParts}
use Rattle.uv_timer.specs.declared.undo.SetUndo.{SetUndo}
use Rattle.uv_timer.specs.declared.undo.TimerUndo.{TimerUndo}
use Rattle.uv_timer.specs.declared.undo.CollectUndo.{CollectUndo}

-- the arena with the count of its active referenced handles, the heap's array, and the times. The heap's room is no part of it
pub record Timed (X : Type 0) : Type 0 where
  pub handles : Counted X
  pub heap : List Entry
  pub times : Times

-- what the parts that the calls take refer to
pub record Behind (X : Type 0) : Type 0 where
  pub handles : ℕ
  pub slots : Arena X
  pub heap : Heap
  pub times : Times

-- a timer that was put on the heap leaves it again
abbrev pub unset : Option SetUndo → List Entry → List Entry
unset None es = es
unset (Some u) es = heap.push_undone es u.pushed.place

abbrev pub CanUnset : Option SetUndo → List Entry → Type 0
CanUnset None es = Unit {0}
CanUnset (Some u) es = heap.CanUndoPush es u.pushed.place

-- and its start number is yet to be drawn
abbrev pub undrawn : Option SetUndo → Times → Times
undrawn None t = t
undrawn (Some u) t = record t { next_start = u.start }

-- a timer that was taken off the heap is put back there
abbrev pub put_back : Option HeapRemoveUndo → List Entry → List Entry
put_back None es = es
put_back (Some u) es = heap.removal_undone es u

-- it can be, where the heap has so much room
abbrev pub CanPutBack : ℕ → Option HeapRemoveUndo → List Entry → Type 0
CanPutBack room None es = Unit {0}
CanPutBack room (Some u) es = heap.CanUndoRemove (record { array = es; room = room }) u

-- a timer of this slot can be set: there is room for it on the heap, and a number for its start
pub record CanSet (slot : ℕ) (heap : Heap) (times : Times) : Type 0 where
  pub room : slot < heap.room
  pub start : times.next_start < 2 ^ 64 - 1

module _ {X : Type 0} where
  abbrev pub timed : Image X → ℕ → Heap → Times → Timed X
  timed i n h t = record { handles = counted i n; heap = h.array; times = t }

  -- what the parts refer to, as they were passed
  abbrev pub before : TimerParts X → Behind X
  before p = record { handles = p.handles.now; slots = p.slots.now; heap = p.heap.now; times = p.times.now }

  -- and as the call left it
  abbrev pub after : MutBor ℕ × (MutBor (Arena X) × (MutBor Heap × (MutBor Times × Unit {0}))) → Behind X
  after p = record { handles = p.0.now; slots = p.1.0.now; heap = p.1.1.0.now; times = p.1.1.1.0.now }

  abbrev pub timed_in : Behind X → Timed X
  timed_in b = timed b.slots.image b.handles b.heap b.times

  -- with other lists in the arena
  abbrev pub with_arena : Image X → Timed X → Timed X
  with_arena i t = record t { handles = counted i t.handles.count }

module _ {X : Type 0} (read : X → Option HandleRecord) (make : HandleRecord → X) where
  -- what became of a timer is taken back: it is set no more, its record is put back, and then the timer on its list and on the heap
  abbrev pub timer_undone : TimerUndo → Timed X → Timed X
  timer_undone u t = record {
    handles = delist_undone read make u.delisted t.handles;
    heap = put_back u.removed (unset u.set t.heap);
    times = undrawn u.set t.times;
  }

  pub record CanUndoTimer (room : ℕ) (t : Timed X) (u : TimerUndo) : Type 0 where
    pub set : CanUnset u.set t.heap
    pub removed : CanPutBack room u.removed (unset u.set t.heap)
    pub delisted : CanUndoDelist read make t.handles u.delisted

  -- a timer that was collected leaves the ready list, and what became of it is taken back
  abbrev pub collect_undone : CollectUndo → Timed X → Timed X
  collect_undone u t = timer_undone u.timer (with_arena (push_undone u.pushed.slot t.handles.arena) t)

  pub record CanUndoCollect (room : ℕ) (t : Timed X) (u : CollectUndo) : Type 0 where
    pub pushed : CanUndoPush t.handles.arena u.pushed.slot
    pub timer : CanUndoTimer room (with_arena (push_undone u.pushed.slot t.handles.arena) t) u.timer
