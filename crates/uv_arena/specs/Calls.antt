-- What holds after each call that changes the arena: the lists and the slots, what stays, and that the call can be taken back.
use Rattle.std.specs.Prelude.{◌≡◌, ◌≢◌, ℕ, ◌+◌, ◌<◌, ◌≤◌, nat_lt, if◌then◌else◌, length, true, false, eqb, List, [], ◌∷◌, ◌++◌, Option, Some, None, is_some}
use Rattle.uv_ids.specs.declared.id.Id.{Id}
use Rattle.uv_records.specs.declared.lists.ListName.{ListName}
use Rattle.uv_records.specs.Walks.{without}
use Rattle.uv_records.specs.Slots.{next_free, taken, freed, with_held}
use Rattle.uv_raw.specs.Pieced.{PIECE}
use Rattle.uv_arena.specs.declared.arena.InsertFault.{InsertFault}
use Rattle.uv_arena.specs.declared.arena.InsertFault.TheVariants.{Full, Memory}
use Rattle.uv_arena.specs.declared.links.ChainPlace.{ChainPlace}
use Rattle.uv_arena.specs.declared.undo.InsertUndo.{InsertUndo}
use Rattle.uv_arena.specs.declared.undo.RemoveUndo.{RemoveUndo}
use Rattle.uv_arena.specs.declared.undo.SpliceUndo.{SpliceUndo}
use Rattle.uv_arena.specs.Image.{Image, Arena, members, plain_slots, held, on_list}
use Rattle.uv_arena.specs.Undo.{insert_undone, remove_undone, set_undone, push_undone, unlink_undone, splice_undone, rotate_undone, CanUndoRotate, CanUndoInsert, CanUndoRemove, CanUndoSet, CanUndoPush, CanUndoUnlink, CanUndoSplice}

-- the slot of an id
abbrev pub slot_of : Option Id → Option ℕ
slot_of None = None
slot_of (Some d) = Some d.slot

-- the room once the next slot has a piece: one that is free has its piece
abbrev pub room_with_next : List ℕ → ℕ → ℕ → ℕ
room_with_next [] used room = if nat_lt used room then room else room + PIECE
room_with_next (n ∷ ns) used room = room

module _ {X : Type 0} where
  -- no slot is free, and the piece of the next unused one isn't there
  pub record LacksPiece (a : Arena X) : Type 0 where
    pub free : (plain_slots a.image).free ≡ []
    pub unused : 0 < (plain_slots a.image).unused
    pub room : a.room ≤ length (plain_slots a.image).slots

  -- why nothing is inserted: no slot is free or unused, or there is no memory for the piece that is wanted
  abbrev pub RefusesInsert : InsertFault → Arena X → Type 0
  RefusesInsert Full a = next_free (plain_slots a.image) ≡ None
  RefusesInsert Memory a = LacksPiece a

  -- the room after an insert
  abbrev pub room_after : Arena X → ℕ
  room_after a = room_with_next (plain_slots a.image).free (length (plain_slots a.image).slots) a.room

  -- what is held under the id now was put there, in the slot that was next
  pub record IsInserted (old new : Image X) (v : X) (d : Id) (u : InsertUndo) : Type 0 where
    pub next : next_free (plain_slots old) ≡ Some d
    pub vacant : held old d ≡ None
    pub slot : u.slot ≡ d.slot
    pub plain : plain_slots new ≡ taken d v (plain_slots old)
    pub now : held new d ≡ Some v
    pub loose : on_list new d ≡ false
    pub contents : (e : Id) → e.slot ≢ d.slot → held new e ≡ held old e
    pub kept : (e : Id) → e.slot ≢ d.slot → on_list new e ≡ on_list old e
    pub lists : (l : ListName) → members new l ≡ members old l
    pub undone : insert_undone u new ≡ old
    pub can_undo : CanUndoInsert new u

  -- what was held under the id is gone: its slot is free, or retired
  pub record IsRemoved (old new : Image X) (d : Id) (v : X) (u : RemoveUndo) : Type 0 where
    pub was : held old d ≡ Some v
    pub slot : u.slot ≡ d.slot
    pub plain : plain_slots new ≡ freed old.last d (plain_slots old)
    pub contents : (e : Id) → e.slot ≢ d.slot → held new e ≡ held old e
    pub kept : (e : Id) → e.slot ≢ d.slot → on_list new e ≡ on_list old e
    pub lists : (l : ListName) → members new l ≡ members old l
    pub undone : remove_undone u v new ≡ old
    pub can_undo : CanUndoRemove new u v

  -- other content is held under the id
  pub record IsSet (old new : Image X) (d : Id) (v was : X) : Type 0 where
    pub image : new ≡ set_undone d.slot v old
    pub plain : plain_slots new ≡ record (plain_slots old) { slots = with_held (plain_slots old).slots d v }
    pub now : held new d ≡ Some v
    pub contents : (e : Id) → e.slot ≢ d.slot → held new e ≡ held old e
    pub kept : (e : Id) → on_list new e ≡ on_list old e
    pub lists : (l : ListName) → members new l ≡ members old l
    pub undone : set_undone d.slot was new ≡ old
    pub can_undo : CanUndoSet new d.slot was

  -- what moving slots between lists leaves as it was
  pub record SameSlots (old new : Image X) : Type 0 where
    pub plain : plain_slots new ≡ plain_slots old
    pub contents : (e : Id) → held new e ≡ held old e

  -- the slot of the id is on a list now, whose members are these
  pub record IsPushed (old new : Image X) (list : ListName) (d : Id) (now : List ℕ) : Type 0 where
    pub lists : members new list ≡ now
    pub others : (l : ListName) → l ≢ list → members new l ≡ members old l
    pub slots : SameSlots old new
    pub listed : on_list new d ≡ true
    pub kept : (e : Id) → e.slot ≢ d.slot → on_list new e ≡ on_list old e
    pub undone : push_undone d.slot new ≡ old
    pub can_undo : CanUndoPush new d.slot

  -- the slot of the id is off its list
  pub record IsUnlinked (old new : Image X) (d : Id) (t : ChainPlace) : Type 0 where
    pub slot : t.slot ≡ d.slot
    pub lists : (l : ListName) → members new l ≡ without eqb (members old l) d.slot
    pub slots : SameSlots old new
    pub loose : on_list new d ≡ false
    pub kept : (e : Id) → e.slot ≢ d.slot → on_list new e ≡ on_list old e
    pub undone : unlink_undone t new ≡ old
    pub can_undo : CanUndoUnlink new t

  -- all that was on one list is on another one, which was empty
  pub record IsSpliced (old new : Image X) (source target : ListName) (u : SpliceUndo) : Type 0 where
    pub moved : members new target ≡ members old source
    pub rest : source ≢ target → members new source ≡ []
    pub others : (l : ListName) → l ≢ source → l ≢ target → members new l ≡ members old l
    pub slots : SameSlots old new
    pub kept : (e : Id) → on_list new e ≡ on_list old e
    pub undone : splice_undone u new ≡ old
    pub can_undo : CanUndoSplice new u

  -- the id is of what is held in a slot, on a list
  pub record IsListed (i : Image X) (d : Id) : Type 0 where
    pub held : is_some (held i d) ≡ true
    pub listed : on_list i d ≡ true

  -- the first of a list
  pub record IsFirst (i : Image X) (list : ListName) (d : Id) : Type 0 where
    pub rest : List ℕ
    pub is : members i list ≡ d.slot ∷ rest
    pub after : without eqb (members i list) d.slot ≡ rest
    pub others : (l : ListName) → l ≢ list → without eqb (members i l) d.slot ≡ members i l
    pub listed : IsListed i d

  -- the first of a list is the last of another one
  pub record IsRotated (old new : Image X) (from to : ListName) (d : Id) : Type 0 where
    pub between : Image X
    pub place : ChainPlace
    pub unlinked : IsUnlinked old between d place
    pub pushed : IsPushed between new to d (members between to ++ d.slot ∷ [])
    pub undone : rotate_undone from to new ≡ old
    pub can_undo : CanUndoRotate new from to

  -- the last of a list
  pub record IsLast (i : Image X) (list : ListName) (d : Id) : Type 0 where
    pub front : List ℕ
    pub is : members i list ≡ front ++ d.slot ∷ []
    pub listed : IsListed i d
