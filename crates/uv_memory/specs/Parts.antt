-- A record as a short row of parts, which are undone one by one, the last first.
use Rattle.std.specs.Prelude.{ℕ, Bool, true, false, List, [], ◌∷◌, ◌++◌, Option, Some, None}
use Rattle.uv_ids.specs.declared.id.Id.{Id}
use Rattle.uv_ids.specs.declared.id.Var.{Var}
use Rattle.uv_ids.specs.declared.seen.Callback.{Callback}
use Rattle.uv_arena.specs.declared.links.ChainPlace.{ChainPlace}
use Rattle.uv_arena.specs.declared.undo.InsertUndo.{InsertUndo}
use Rattle.uv_arena.specs.declared.undo.RemoveUndo.{RemoveUndo}
use Rattle.uv_arena.specs.declared.undo.SpliceUndo.{SpliceUndo}
use Rattle.uv_records.specs.declared.lists.WatcherKind.{WatcherKind}
use Rattle.uv_records.specs.Lists.{list_of, yet_of}
use Rattle.uv_arena.specs.Undo.{insert_undone, remove_undone, set_undone, push_undone, unlink_undone, splice_undone, rotate_undone}
use Rattle.uv_handle.specs.declared.undo.RecordUndo.{RecordUndo}
use Rattle.uv_handle.specs.declared.undo.DelistUndo.{DelistUndo}
use Rattle.uv_heap.specs.declared.undo.HeapRemoveUndo.{HeapRemoveUndo}
use Rattle.uv_heap.specs.Undo as heap
use Rattle.uv_timer.specs.declared.undo.SetUndo.{SetUndo}
use Rattle.uv_timer.specs.declared.undo.TimerUndo.{TimerUndo}
use Rattle.uv_requests.specs.Undo.{with_count, with_run, reopened_in}
use Rattle.uv_work.specs.declared.content.Content.{Content}
use Rattle.uv_work.specs.declared.content.Content.TheVariants.{Handle, Request as Asked}
use Rattle.uv_memory.specs.declared.record.Naming.{Naming}
use Rattle.uv_memory.specs.declared.record.Naming.TheVariants as naming
use Rattle.uv_memory.specs.Change.{Change}
use Rattle.uv_memory.specs.Change as change
use Rattle.uv_memory.specs.Record.{Record}
use Rattle.uv_work.specs.Content.{request_of}
use Rattle.uv_records.specs.Names.{binding, calling}
use Rattle.uv_memory.specs.Image.{Image}

-- one thing that a step changed, with what it was before
pub data Part (P : Type 0) : Type 0 where
  -- where the loop stood
  Stood : P → Part P
  -- what a name was bound to
  Bound : Var → Option Id → Part P
  -- how often a callback of a name was called
  Called : Var → Callback → ℕ → Part P
  -- the loop's time, the clock, the next start number, whether the run is to stop, whether an idle handle was active
  Time : ℕ → Part P
  Clock : ℕ → Part P
  Start : ℕ → Part P
  Stop : Bool → Part P
  Idled : Bool → Part P
  -- how many handles were active and referenced, and how many requests open
  Active : ℕ → Part P
  Open : ℕ → Part P
  -- what a worker ran
  Ran : ℕ → Option Id → Part P
  -- a slot held this
  Held : ℕ → Content → Part P
  -- a request was open
  WasOpen : Id → Part P
  -- a slot was taken, or freed, which held this
  Taken : InsertUndo → Part P
  Freed : RemoveUndo → Content → Part P
  -- a slot was put on a list, or taken off its place there; or two lists changed places
  PutOn : ℕ → Part P
  TakenOff : ChainPlace → Part P
  Moved : SpliceUndo → Part P
  -- a watcher of this kind was called: the front of those yet to run became the last of its list
  Passed : WatcherKind → Part P
  -- an entry was pushed on the heap and ended at a place, or was removed
  Pushed : ℕ → Part P
  Removed : HeapRemoveUndo → Part P

-- a name was bound to this, or to nothing
abbrev pub was_bound : Var → Option Id → Naming
was_bound v None = naming.Unbound v
was_bound v (Some id) = naming.Bound v id

module _ {P : Type 0} where
  -- a part is undone
  abbrev pub undo : Part P → Image P → Image P
  undo (Stood place) i = record i { place = place }
  undo (Bound v id) i = record i { names = binding v.0 id i.names }
  undo (Called v which n) i = record i { names = calling v.0 which n i.names }
  undo (Time n) i = record i { times = record i.times { time = n } }
  undo (Clock n) i = record i { clock = n }
  undo (Start n) i = record i { times = record i.times { next_start = n } }
  undo (Stop b) i = record i { stop_flag = b }
  undo (Idled b) i = record i { idled = b }
  undo (Active n) i = record i { active = n }
  undo (Open n) i = record i { running = with_count n i.running }
  undo (Ran k id) i = record i { running = with_run k id i.running }
  undo (Held x v) i = record i { arena = set_undone x v i.arena }
  undo (WasOpen d) i = record i { arena = reopened_in request_of Asked d i.arena }
  undo (Taken u) i = record i { arena = insert_undone u i.arena }
  undo (Freed u v) i = record i { arena = remove_undone u v i.arena }
  undo (PutOn x) i = record i { arena = push_undone x i.arena }
  undo (TakenOff t) i = record i { arena = unlink_undone t i.arena }
  undo (Moved u) i = record i { arena = splice_undone u i.arena }
  undo (Passed k) i = record i { arena = rotate_undone (yet_of k) (list_of k) i.arena }
  undo (Pushed n) i = record i { heap = heap.push_undone i.heap n }
  undo (Removed u) i = record i { heap = heap.removal_undone i.heap u }

  -- parts, in the order in which they were done, are undone, the last first
  abbrev pub unwind_parts : List (Part P) → Image P → Image P
  unwind_parts [] i = i
  unwind_parts (p ∷ ps) i = undo p (unwind_parts ps i)

  -- ---- the parts of a change, in the order in which they are done

  -- a handle has another record, and the count goes with it
  abbrev pub edit_parts : RecordUndo → List (Part P)
  edit_parts u = Held u.slot (Handle u.old) ∷ Active u.active ∷ []

  abbrev pub woken_parts : Option RecordUndo → List (Part P)
  woken_parts None = []
  woken_parts (Some u) = edit_parts u

  abbrev pub off_parts : Option ChainPlace → List (Part P)
  off_parts None = []
  off_parts (Some t) = TakenOff t ∷ []

  abbrev pub put_parts : Bool → ℕ → List (Part P)
  put_parts false x = []
  put_parts true x = PutOn x ∷ []

  abbrev pub removed_parts : Option HeapRemoveUndo → List (Part P)
  removed_parts None = []
  removed_parts (Some u) = Removed u ∷ []

  abbrev pub set_parts : Option SetUndo → List (Part P)
  set_parts None = []
  set_parts (Some u) = Pushed u.pushed.place ∷ Start u.start ∷ []

  abbrev pub off_list_parts : DelistUndo → List (Part P)
  off_list_parts u = off_parts u.unlinked ++ edit_parts u.changed

  -- a timer leaves the heap and its list, has another record, and is set again
  abbrev pub timer_parts : TimerUndo → List (Part P)
  timer_parts u = removed_parts u.removed ++ off_list_parts u.delisted ++ set_parts u.set

  abbrev pub change_parts : Change → List (Part P)
  change_parts change.Nothing = []
  change_parts (change.Time n) = Time n ∷ []
  change_parts (change.Clock n) = Clock n ∷ []
  change_parts (change.Stop b) = Stop b ∷ []
  change_parts (change.Idled b) = Idled b ∷ []
  change_parts (change.Iterated n b) = Time n ∷ Idled b ∷ []
  change_parts (change.Added u) = Taken u.added.inserted ∷ Active u.added.active ∷ put_parts u.listed u.added.inserted.slot
  change_parts (change.Edited u) = edit_parts u
  change_parts (change.Enlisted u) = edit_parts u.changed ++ PutOn u.pushed.slot ∷ []
  change_parts (change.Delisted u) = off_list_parts u
  change_parts (change.Timer u) = timer_parts u
  change_parts (change.Moved put t) = timer_parts t ++ PutOn put.slot ∷ []
  change_parts (change.Begun u) = Moved u ∷ []
  change_parts (change.Polled u) = Time u.time ∷ Moved u.spliced ∷ []
  change_parts (change.Walked u) = Passed u.kind ∷ woken_parts u.woken
  change_parts (change.Closed u h) = TakenOff u.unlinked ∷ Freed u.removed (Handle h) ∷ Active u.active ∷ []
  change_parts (change.Queued u) = Taken u.inserted ∷ PutOn u.inserted.slot ∷ Open u.count ∷ []
  change_parts (change.Taken u) = TakenOff u.unlinked ∷ Ran u.worker None ∷ []
  change_parts (change.Finished u) = WasOpen u.id ∷ PutOn u.id.slot ∷ Ran u.worker (Some u.id) ∷ []
  change_parts (change.Cancelled u) = TakenOff u.unlinked ∷ WasOpen u.id ∷ PutOn u.id.slot ∷ []
  change_parts (change.Ended u r) = TakenOff u.unlinked ∷ Freed u.removed (Asked r) ∷ Open u.count ∷ []

  abbrev pub naming_parts : Naming → List (Part P)
  naming_parts naming.Same = []
  naming_parts (naming.Unbound v) = Bound v None ∷ []
  naming_parts (naming.Bound v id) = Bound v (Some id) ∷ []
  naming_parts (naming.Called v which n) = Called v which n ∷ []

  -- the parts of a record: the change, what became of a name, and where the loop stood
  abbrev pub parts : Record P → List (Part P)
  parts r = change_parts r.change ++ (naming_parts r.naming ++ Stood r.place ∷ [])

  -- a record is unwound
  abbrev pub unwind : Record P → Image P → Image P
  unwind r i = unwind_parts (parts r) i
