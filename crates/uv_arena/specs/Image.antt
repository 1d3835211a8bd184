-- The image of the arena: all that its memory holds, and what the calls make of it.
use Rattle.std.specs.Prelude.{◌≡◌, ℕ, ◌-◌, ◌<◌, ◌≤◌, ◌^◌, ◌⊎◌, Bool, ◌&&◌, cond, eqb, List, [], ◌∷◌, ◌++◌, map, length, take, replicate, Option, Some, None, is_some, slice_get, slice_index_or}
use Rattle.uv_ids.specs.declared.id.Id.{Id}
use Rattle.uv_raw.specs.Row.{Row, row}
use Rattle.uv_records.specs.declared.slot.Slot.{Slot}
use Rattle.uv_records.specs.declared.lists.ListName.{ListName}
use Rattle.uv_records.specs.Lists.{number}
use Rattle.uv_records.specs.Slots as plain
use Rattle.uv_records.specs.declared.lists.TheConstants.{LIST_COUNT}
use Rattle.uv_arena.specs.declared.links.TheConstants.{CHAIN_COUNT, FREE}
use Rattle.uv_arena.specs.declared.links.Links.{Links}
use Rattle.uv_records.specs.declared.lists.Ends.{Ends}
use Rattle.uv_arena.specs.declared.links.ChainPlace.{ChainPlace}
use Rattle.uv_arena.specs.declared.links.Cell.{Cell}
use Rattle.uv_arena.specs.declared.memory.Memory as there
use Rattle.uv_arena.specs.Chains.{Chains, link, loose, each, new_links, new_ends, Stands, list_of, head_of, tail_of}

pub record Memory (X : Type 0) : Type 0 where
  -- the slots that were ever used with their links, and how many there may be
  pub row : Row (Cell X)
  -- the ends of the chains
  pub ends : List Ends

pub record Image (X : Type 0) : Type 0 where
  pub memory : Memory X
  -- which chain each list is, by the list's number
  pub names : List ℕ
  -- the last generation, at which a slot that is freed is retired
  pub last : ℕ

-- what an arena shows: its image, and its room, how many slots the pieces that are there can hold, also past the last one. An undo
-- keeps the pieces, so the room is no part of the image
pub record Arena (X : Type 0) : Type 0 where
  pub image : Image X
  pub room : ℕ

-- an end of nothing
abbrev pub no_ends : Ends
no_ends = record { head = None; tail = None }

abbrev pub IsBelow : Option ℕ → ℕ → Type 0
IsBelow None n = Unit {0}
IsBelow (Some i) n = i < n

-- a place of a chain, among so many slots
abbrev pub IsWithin : ChainPlace → ℕ → Type 0
IsWithin t n = (t.list < CHAIN_COUNT) × IsBelow t.before n × (t.slot < n) × IsBelow t.after n

-- which chain a list is
abbrev pub name_at : List ℕ → ℕ → ℕ
name_at ns k = slice_index_or ns k 0

-- each of the lists is a chain of its own
pub record AreNames (ns : List ℕ) : Type 0 where
  pub all : length ns ≡ LIST_COUNT
  pub below : (k : ℕ) → k < LIST_COUNT → name_at ns k < LIST_COUNT
  pub apart : (j k : ℕ) → j < LIST_COUNT → k < LIST_COUNT → name_at ns j ≡ name_at ns k → j ≡ k

-- the chain that a slot is on, or the first one
abbrev pub list_or_first : Option ℕ → ℕ
list_or_first None = 0
list_or_first (Some k) = k

module _ {X : Type 0} where
  -- the memory as it lies in the pieces
  abbrev pub memory_of : there.Memory X → Memory X
  memory_of m = record { row = m.row.row; ends = m.ends }

  -- ---- one write, at each index

  abbrev pub with_links : Links → Cell X → Cell X
  with_links l c = record { slot = c.slot; links = l }

  abbrev pub with_cells : (ℕ → Cell X → Cell X) → Memory X → Memory X
  with_cells f m = record { row = row (each f m.row.items) m.row.capacity; ends = m.ends }

  abbrev pub with_ends : (ℕ → Ends → Ends) → Memory X → Memory X
  with_ends f m = record { row = m.row; ends = each f m.ends }

  -- ---- places

  abbrev pub chains : Memory X → Chains
  chains m = record { links = map (λ c. c.links) m.row.items; ends = m.ends }

  -- a chain, from its head
  abbrev pub chain : Memory X → ℕ → List ℕ
  chain m k = list_of (chains m) k

  -- one place is relinked
  abbrev pub relinked_cells : ChainPlace → Option ℕ → Option ℕ → Links → List (Cell X) → List (Cell X)
  relinked_cells t a b l cs = each (λ j c. with_links (new_links t a b l j c.links) c) cs

  abbrev pub relinked_memory : ChainPlace → Option ℕ → Option ℕ → Links → Memory X → Memory X
  relinked_memory t a b l m = record { row = row (relinked_cells t a b l m.row.items) m.row.capacity; ends = each (new_ends t a b) m.ends }

  -- the slot is put in the place
  abbrev pub put_in : ChainPlace → Memory X → Memory X
  put_in t m = relinked_memory t (Some t.slot) (Some t.slot) (link t.list t.before t.after) m

  -- the slot is taken out of the place
  abbrev pub taken_out : ChainPlace → Memory X → Memory X
  taken_out t m = relinked_memory t t.after t.before loose m

  -- what a slot holds is written
  abbrev pub edit_at : ℕ → Slot X → ℕ → Cell X → Cell X
  edit_at x s j c = cond (eqb x j) (record { slot = s; links = c.links }) c

  abbrev pub edited : ℕ → Slot X → Memory X → Memory X
  edited x s m = with_cells (edit_at x s) m

  -- one slot more, that was never used
  abbrev pub grown : X → Memory X → Memory X
  grown v m = record {
    row = row (m.row.items ++ record {
      slot = record { generation = 0; content = Some v };
      links =
          loose;
    } ∷ []) m.row.capacity;
    ends = m.ends;
  }

  -- without the last slot
  abbrev pub shrunk : Memory X → Memory X
  shrunk m = record { row = row (take (length m.row.items - 1) m.row.items) m.row.capacity; ends = m.ends }

  -- ---- what stands at a slot, and at the ends of a chain

  abbrev pub links_in : Option (Cell X) → Links
  links_in None = loose
  links_in (Some c) = c.links

  abbrev pub slot_in : Option (Cell X) → Slot X
  slot_in None = record { generation = 0; content = None }
  slot_in (Some c) = c.slot

  abbrev pub links_at : Memory X → ℕ → Links
  links_at m x = links_in (slice_get m.row.items x)

  abbrev pub slot_at : Memory X → ℕ → Slot X
  slot_at m x = slot_in (slice_get m.row.items x)

  abbrev pub head_at : Memory X → ℕ → Option ℕ
  head_at m k = head_of (slice_get m.ends k)

  abbrev pub tail_at : Memory X → ℕ → Option ℕ
  tail_at m k = tail_of (slice_get m.ends k)

  -- where a slot stands
  abbrev pub place_at : Memory X → ℕ → ChainPlace
  place_at m x = record { list = list_or_first (links_at m x).list; before = (links_at m x).prev; slot = x; after = (links_at m x).next }

  abbrev pub front_place : ℕ → ℕ → Memory X → ChainPlace
  front_place k x m = record { list = k; before = None; slot = x; after = head_at m k }

  abbrev pub back_place : ℕ → ℕ → Memory X → ChainPlace
  back_place k x m = record { list = k; before = tail_at m k; slot = x; after = None }

  -- ---- what always holds

  -- what a slot holds fits the chain that it is on: it is empty on the free list, and empty elsewhere only if it is retired
  pub record Fits (last : ℕ) (l : Option ℕ) (s : Slot X) : Type 0 where
    pub below : s.generation ≤ last
    pub free : l ≡ Some FREE → s.content ≡ None
    pub empty : s.content ≡ None → (l ≡ Some FREE) ⊎ ((l ≡ None) × (s.generation ≡ last))

  abbrev pub AreFit : ℕ → List (Cell X) → Type 0
  AreFit last cs = (y : ℕ) (c : Cell X) → slice_get cs y ≡ Some c → Fits last c.links.list c.slot

  -- the links agree with the chains that are read off them, both ways, and a slot is on at most one
  pub record IsLinked (m : Memory X) : Type 0 where
    pub stands : Stands (chains m) (chain m)
    pub all_ends : length m.ends ≡ CHAIN_COUNT
    pub within : length m.row.items ≤ m.row.capacity
    pub few : m.row.capacity < 2 ^ 32

  pub record IsSound (i : Image X) : Type 0 where
    pub linked : IsLinked i.memory
    pub fit : AreFit i.last i.memory.row.items
    pub names : AreNames i.names
    pub last : i.last < 2 ^ 32

  -- ---- what callers see

  abbrev pub in_memory : (Memory X → Memory X) → Image X → Image X
  in_memory f i = record { memory = f i.memory; names = i.names; last = i.last }

  -- a list, front first
  abbrev pub members : Image X → ListName → List ℕ
  members i l = chain i.memory (name_at i.names (number l))

  -- the slots as plain lists: what each holds, the free list, and how many were never used
  abbrev pub held_slots : Memory X → List (Slot X)
  held_slots m = map (λ c. c.slot) m.row.items

  abbrev pub plain_slots : Image X → plain.Slots X
  plain_slots i = record {
    slots = held_slots i.memory;
    free = chain i.memory FREE;
    unused = i.memory.row.capacity - length i.memory.row.items;
  }

  -- what is held under an id
  abbrev pub held : Image X → Id → Option X
  held i d = plain.held (held_slots i.memory) d

  -- whether something is held under an id, and is on a list
  abbrev pub on_list : Image X → Id → Bool
  on_list i d = is_some (held i d) && is_some (links_at i.memory d.slot).list

-- an arena of so many slots, none of them used
abbrev pub fresh_image : (X : Type 0) → ℕ → ℕ → Image X
fresh_image X capacity last = record {
  memory = record { row = row [] capacity; ends = replicate CHAIN_COUNT no_ends };
  names = 0 ∷ 1 ∷ 2 ∷ 3 ∷ 4 ∷ 5 ∷ 6 ∷ 7 ∷ 8 ∷ 9 ∷ 10 ∷ 11 ∷ 12 ∷ 13 ∷ [];
  last = last;
}

-- and without a piece
abbrev pub fresh_arena : (X : Type 0) → ℕ → ℕ → Arena X
fresh_arena X capacity last = record { image = fresh_image X capacity last; room = 0 }
