-- What takes a change of the arena back, and when that may be asked: where the arena is as the change left it.
use Rattle.std.specs.Prelude.{◌≡◌, ℕ, ◌-◌, ◌<◌, false, length, Option, Some, None, if◌then◌else◌}
use Rattle.std.specs.List.{swap}
use Rattle.uv_records.specs.declared.lists.ListName.{ListName}
use Rattle.uv_records.specs.Lists.{number}
use Rattle.uv_arena.specs.declared.links.ChainPlace.{ChainPlace}
use Rattle.uv_arena.specs.declared.undo.InsertUndo.{InsertUndo}
use Rattle.uv_arena.specs.declared.undo.RemoveUndo.{RemoveUndo}
use Rattle.uv_arena.specs.declared.undo.SpliceUndo.{SpliceUndo}
use Rattle.uv_arena.specs.declared.links.TheConstants.{FREE}
use Rattle.uv_arena.specs.Image.{Image, Memory, IsWithin, put_in, taken_out, edited, shrunk, slot_at, place_at, tail_at, name_at, front_place, in_memory, IsSound}

-- the slot of an end of a chain, or the first one
abbrev pub slot_or_first : Option ℕ → ℕ
slot_or_first None = 0
slot_or_first (Some x) = x

-- the two lists change places
abbrev pub spliced : {X : Type 0} → ListName → ListName → Image X → Image X
spliced a b i = record { memory = i.memory; names = swap i.names (number a) (number b); last = i.last }

module _ {X : Type 0} where
  -- a slot with other content
  abbrev pub holding : ℕ → X → Memory X → Memory X
  holding x v m = edited x (record { generation = (slot_at m x).generation; content = Some v }) m

  -- an insert is taken back: a slot that was never used before is unused again, another one is at the front of the free list again
  abbrev pub insert_undone : InsertUndo → Image X → Image X
  insert_undone u i =
      if u.fresh then in_memory shrunk i
      else in_memory (λ m. put_in (front_place FREE u.slot m) (edited u.slot (record {
        generation = (slot_at m u.slot).generation;
        content =
            None;
      }) m)) i

  pub record CanUndoInsert (i : Image X) (u : InsertUndo) : Type 0 where
    pub slot : u.slot < length i.memory.row.items
    pub place : u.fresh ≡ false → IsWithin (front_place FREE u.slot i.memory) (length i.memory.row.items)
    pub sound : IsSound (insert_undone u i)

  -- a removal is taken back: the slot leaves the front of the free list, or is no longer retired; its generation is put back, and
  -- what it held
  abbrev pub remove_undone : RemoveUndo → X → Image X → Image X
  remove_undone u v i =
      if u.retired then in_memory (holding u.slot v) i
      else in_memory
      (λ m. edited u.slot (record { generation = (slot_at m u.slot).generation - 1; content = Some v }) (taken_out (place_at m u.slot) m)) i

  pub record CanUndoRemove (i : Image X) (u : RemoveUndo) (v : X) : Type 0 where
    pub slot : u.slot < length i.memory.row.items
    pub generation : u.retired ≡ false → 0 < (slot_at i.memory u.slot).generation
    pub place : u.retired ≡ false → IsWithin (place_at i.memory u.slot) (length i.memory.row.items)
    pub sound : IsSound (remove_undone u v i)

  -- a change of content is taken back
  abbrev pub set_undone : ℕ → X → Image X → Image X
  set_undone x v i = in_memory (holding x v) i

  pub record CanUndoSet (i : Image X) (x : ℕ) (v : X) : Type 0 where
    pub slot : x < length i.memory.row.items
    pub sound : IsSound (set_undone x v i)

  -- a push is taken back: the slot is taken out of the place where it stands
  abbrev pub push_undone : ℕ → Image X → Image X
  push_undone x i = in_memory (λ m. taken_out (place_at m x) m) i

  pub record CanUndoPush (i : Image X) (x : ℕ) : Type 0 where
    pub place : IsWithin (place_at i.memory x) (length i.memory.row.items)
    pub sound : IsSound (push_undone x i)

  -- an unlinking is taken back: the slot is put between its two old neighbours
  abbrev pub unlink_undone : ChainPlace → Image X → Image X
  unlink_undone t i = in_memory (put_in t) i

  pub record CanUndoUnlink (i : Image X) (t : ChainPlace) : Type 0 where
    pub place : IsWithin t (length i.memory.row.items)
    pub sound : IsSound (unlink_undone t i)

  -- that the front of a list was moved to the end of another one is taken back: the last of that is the front again
  abbrev pub last_slot : ListName → Image X → ℕ
  last_slot to i = slot_or_first (tail_at i.memory (name_at i.names (number to)))

  abbrev pub front_again : ListName → ℕ → Image X → ChainPlace
  front_again from x i = front_place (name_at i.names (number from)) x i.memory

  abbrev pub rotate_undone : ListName → ListName → Image X → Image X
  rotate_undone from to i =
      let x = last_slot to i in let k = push_undone x i in unlink_undone (front_again from x k) k

  pub record CanUndoRotate (i : Image X) (from to : ListName) : Type 0 where
    pub slot : ℕ
    pub last : tail_at i.memory (name_at i.names (number to)) ≡ Some slot
    -- the front of the one list is the same with the slot on the other one
    pub front : front_again from slot (push_undone slot i) ≡ front_again from slot i
    pub pushed : CanUndoPush i slot
    pub unlinked : CanUndoUnlink (push_undone slot i) (front_again from slot (push_undone slot i))

  -- a splice is taken back: the two lists change places again
  abbrev pub splice_undone : SpliceUndo → Image X → Image X
  splice_undone u i = spliced u.from u.to i

  abbrev pub CanUndoSplice : Image X → SpliceUndo → Type 0
  CanUndoSplice i u = IsSound (splice_undone u i)
