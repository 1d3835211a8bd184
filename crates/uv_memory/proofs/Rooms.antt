-- What can be taken back can be where the heap has more room.
use Rattle.uv_memory.proofs.Names.{◌≤◌, ℕ, List, Option, Some, None, arith, HeapRemoveUndo, Timed, CanPutBack, CanUndoTimer, CanUndoCollect, TimerUndo, CollectUndo, Content, Handle, Change, Record, handle_of, Image, CanUndo, CanUnwind}
use Rattle.uv_heap.specs.declared.entry.Entry.{Entry}
use Rattle.uv_memory.specs.Change as change

module _ (room more : ℕ) (grown : room ≤ more) where
  put_back_still : (u : Option HeapRemoveUndo) (es : List Entry) → CanPutBack room u es → CanPutBack more u es
  put_back_still None es c = tt
  put_back_still (Some u) es c = record { put_back = c.put_back; has_room = (let has = c.has_room in omega (arith, has, grown)) }

  timer_still : (t : Timed Content) (u : TimerUndo) → CanUndoTimer handle_of Handle room t u → CanUndoTimer handle_of Handle more t u
  timer_still t u c = record { set = c.set; removed = put_back_still u.removed _ c.removed; delisted = c.delisted }

  collect_still : (t : Timed Content) (u : CollectUndo) → CanUndoCollect handle_of Handle room t u → CanUndoCollect handle_of Handle more t u
  collect_still t u c = record { pushed = c.pushed; timer = timer_still _ u.timer c.timer }

  module _ {P : Type 0} where
    undo_still : (x : Change) (i : Image P) → CanUndo room x i → CanUndo more x i
    undo_still change.Nothing i c = c
    undo_still (change.Time n) i c = c
    undo_still (change.Clock n) i c = c
    undo_still (change.Stop b) i c = c
    undo_still (change.Idled b) i c = c
    undo_still (change.Iterated n b) i c = c
    undo_still (change.Added u) i c = c
    undo_still (change.Edited u) i c = c
    undo_still (change.Enlisted u) i c = c
    undo_still (change.Delisted u) i c = c
    undo_still (change.Timer u) i c = timer_still _ u c
    undo_still (change.Moved put t) i c = collect_still _ (record { timer = t; pushed = put }) c
    undo_still (change.Begun u) i c = c
    undo_still (change.Polled u) i c = c
    undo_still (change.Walked u) i c = c
    undo_still (change.Closed u h) i c = c
    undo_still (change.Queued u) i c = c
    undo_still (change.Taken u) i c = c
    undo_still (change.Finished u) i c = c
    undo_still (change.Cancelled u) i c = c
    undo_still (change.Ended u r) i c = c

    -- a record that may be unwound may be where there is more room
    pub unwind_still : (r : Record P) (i : Image P) → CanUnwind room r i → CanUnwind more r i
    unwind_still r i c = record { naming = c.naming; change = undo_still r.change _ c.change; fit = c.fit }
