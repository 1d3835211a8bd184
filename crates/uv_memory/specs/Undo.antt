-- When a record may be unwound, and what each step of the memory leaves for that.
use Rattle.std.specs.Prelude.{◌≡◌, ℕ, ◌<◌, Bool, true, false, length}
use Rattle.uv_arena.specs.Undo.{push_undone, CanUndoPush, CanUndoSplice}
use Rattle.uv_handle.specs.Counted.{CanUndoRecord, CanUndoAdd, CanUndoEnlist, CanUndoDelist, CanUndoTake}
use Rattle.uv_timer.specs.Timed.{CanUndoTimer, CanUndoCollect}
use Rattle.uv_handle.specs.Walks.{CanUndoWalk}
use Rattle.uv_requests.specs.Undo as work
use Rattle.uv_work.specs.declared.content.Content.TheVariants.{Handle, Request as Asked}
use Rattle.uv_memory.specs.declared.record.Added.{Added}
use Rattle.uv_memory.specs.declared.record.Naming.{Naming}
use Rattle.uv_memory.specs.declared.record.Naming.TheVariants as naming
use Rattle.uv_memory.specs.Change.{Change}
use Rattle.uv_memory.specs.Change as change
use Rattle.uv_memory.specs.Record.{Record}
use Rattle.uv_work.specs.Content.{handle_of, request_of}
use Rattle.uv_memory.specs.Image.{Image, Held, counted_of, timed_of, working_of, standing}
use Rattle.uv_memory.specs.Parts.{unwind, unwind_parts, naming_parts}
use Rattle.uv_memory.specs.Fit.{IsFit}

module _ {P : Type 0} where
  -- a new handle that was put on a list leaves it
  abbrev pub off_if : Bool → ℕ → Image P → Image P
  off_if false x i = i
  off_if true x i = record i { arena = push_undone x i.arena }

  abbrev pub CanLeave : Bool → ℕ → Image P → Type 0
  CanLeave false x i = Unit {0}
  CanLeave true x i = CanUndoPush i.arena x

  pub record CanUndoAdded (i : Image P) (u : Added) : Type 0 where
    pub pushed : CanLeave u.listed u.added.inserted.slot i
    pub added : CanUndoAdd handle_of (counted_of (off_if u.listed u.added.inserted.slot i)) u.added

  -- the change can be taken back, where the heap has so much room
  abbrev pub CanUndo : ℕ → Change → Image P → Type 0
  CanUndo room change.Nothing i = Unit {0}
  CanUndo room (change.Time n) i = Unit {0}
  CanUndo room (change.Clock n) i = Unit {0}
  CanUndo room (change.Stop b) i = Unit {0}
  CanUndo room (change.Idled b) i = Unit {0}
  CanUndo room (change.Iterated n b) i = Unit {0}
  CanUndo room (change.Added u) i = CanUndoAdded i u
  CanUndo room (change.Edited u) i = CanUndoRecord handle_of Handle (counted_of i) u
  CanUndo room (change.Enlisted u) i = CanUndoEnlist handle_of Handle (counted_of i) u
  CanUndo room (change.Delisted u) i = CanUndoDelist handle_of Handle (counted_of i) u
  CanUndo room (change.Timer u) i = CanUndoTimer handle_of Handle room (timed_of i) u
  CanUndo room (change.Moved put t) i = CanUndoCollect handle_of Handle room (timed_of i) (record { timer = t; pushed = put })
  CanUndo room (change.Begun u) i = CanUndoSplice i.arena u
  CanUndo room (change.Polled u) i = CanUndoSplice i.arena u.spliced
  CanUndo room (change.Walked u) i = CanUndoWalk handle_of Handle (counted_of i) u
  CanUndo room (change.Closed u h) i = CanUndoTake handle_of (counted_of i) u (Handle h)
  CanUndo room (change.Queued u) i = work.CanUndoQueue request_of (working_of i) u
  CanUndo room (change.Taken u) i = work.CanUndoTake request_of (working_of i) u
  CanUndo room (change.Finished u) i = work.CanUndoFinish request_of Asked (working_of i) u
  CanUndo room (change.Cancelled u) i = work.CanUndoCancel request_of Asked (working_of i) u
  CanUndo room (change.Ended u r) i = work.CanUndoCollect request_of Asked (working_of i) u r

  -- the name is one of the loop's
  abbrev pub CanRename : Naming → Image P → Type 0
  CanRename naming.Same i = Unit {0}
  CanRename (naming.Unbound v) i = v.0 < length i.names
  CanRename (naming.Bound v id) i = v.0 < length i.names
  CanRename (naming.Called v which n) i = v.0 < length i.names

  -- the record can be unwound, and what it gives back is the memory of a loop
  pub record CanUnwind (room : ℕ) (r : Record P) (i : Image P) : Type 0 where
    pub naming : CanRename r.naming i
    pub change : CanUndo room r.change (unwind_parts (naming_parts r.naming) (standing r.place i))
    pub fit : IsFit (unwind r i)

  -- a step was done that touched no name, and its record gives back the very image from before
  pub record Recorded (r : Record P) (old new : Held P) : Type 0 where
    pub back : unwind r new.image ≡ old.image
    pub can : CanUnwind new.room r new.image
    pub unnamed : r.naming ≡ naming.Same
    pub fit : IsFit new.image
    pub place : new.image.place ≡ old.image.place
    pub names : new.image.names ≡ old.image.names
    pub room : new.room ≡ old.room

  -- a step did this besides, and its record grew with it: it gives back the same
  pub record Extended (r s : Record P) (old new : Held P) : Type 0 where
    pub back : unwind s new.image ≡ unwind r old.image
    pub can : CanUnwind new.room s new.image
    pub fit : IsFit new.image
    pub room : new.room ≡ old.room
