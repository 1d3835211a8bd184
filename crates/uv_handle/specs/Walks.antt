-- What takes a step of a walk back, and when that may be asked: where all is as the step left it.
use Rattle.std.specs.Prelude.{Option, Some, None}
use Rattle.uv_records.specs.declared.handle.HandleRecord.{HandleRecord}
use Rattle.uv_records.specs.Lists.{list_of, yet_of}
use Rattle.uv_arena.specs.Undo.{rotate_undone, CanUndoRotate}
use Rattle.uv_handle.specs.declared.undo.RecordUndo.{RecordUndo}
use Rattle.uv_handle.specs.Counted.{Counted, counted, record_undone, CanUndoRecord}
use Rattle.uv_handle.specs.declared.undo.WalkUndo.{WalkUndo}

module _ {X : Type 0} (read : X → Option HandleRecord) (make : HandleRecord → X) where
  -- the record of a handle that was woken is put back
  abbrev pub unwoken : Option RecordUndo → Counted X → Counted X
  unwoken None c = c
  unwoken (Some u) c = record_undone read make u c

  abbrev pub CanUnwake : Option RecordUndo → Counted X → Type 0
  CanUnwake None c = Unit {0}
  CanUnwake (Some u) c = CanUndoRecord read make c u

  -- a step of a walk is taken back: the handle is woken no more, and the last of its list is the first of those yet to run again
  abbrev pub walk_undone : WalkUndo → Counted X → Counted X
  walk_undone u c =
      let back = unwoken u.woken c in
      counted (rotate_undone (yet_of u.kind) (list_of u.kind) back.arena) back.count

  pub record CanUndoWalk (c : Counted X) (u : WalkUndo) : Type 0 where
    pub woken : CanUnwake u.woken c
    pub moved : CanUndoRotate (unwoken u.woken c).arena (yet_of u.kind) (list_of u.kind)
