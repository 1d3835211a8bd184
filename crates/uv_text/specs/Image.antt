-- The text of how the memory lies that stands for a session's state.
use Rattle.std.specs.Prelude.{◌≡◌, ℕ, ◌+◌, ◌-◌, ◌==◌, nat_lt, List, [], ◌∷◌, ◌++◌, length, Option, Some, None, slice_get, if◌then◌else◌, codes}
use Rattle.std.specs.List.{flat_map}
use Rattle.uv_records.specs.declared.lists.Ends.{Ends}
use Rattle.uv_heap.specs.declared.entry.Entry.{Entry}
use Rattle.uv_model.specs.declared.layout.LaidSlot.{LaidSlot}
use Rattle.uv_model.specs.declared.layout.Layout.{Layout}
use Rattle.uv_model.specs.declared.layout.ListEnds.{ListEnds}
use Rattle.uv_model.specs.Layout.{LiesFor}
use Rattle.uv_model.specs.After.{after}
use Rattle.uv_session.specs.Shown.{Shown}
use Rattle.uv_text.specs.State.{numbered, list_word, state_text}

-- a space and a number, or a space and `-` for none
abbrev pub or_dash : Option ℕ → List ℕ
or_dash (Some n) = numbered (codes " ") n
or_dash None = codes " -"

-- ---- links

-- a slot, the one before it on its list, and the one behind it
unfoldable pub link_line : ℕ → LaidSlot → List ℕ
link_line x c = numbered (codes "link ") x ++ or_dash c.prev ++ or_dash c.next ++ codes "\n"

-- the lines of these slots, the first of them having this number
abbrev pub links_from : ℕ → List LaidSlot → List ℕ
links_from x [] = []
links_from x (c ∷ slots) = link_line x c ++ links_from (x + 1) slots

-- ---- lists

-- a list, its first slot and its last
unfoldable pub ends_line : List ℕ → Ends → List ℕ
ends_line word e = codes "list " ++ word ++ or_dash e.head ++ or_dash e.tail ++ codes "\n"

abbrev pub named_ends : ListEnds → List ℕ
named_ends l = ends_line (list_word l.list) l.ends

-- ---- the heap and the counts

abbrev pub entry_text : Entry → List ℕ
entry_text e = numbered (codes " ") e.slot

-- the slots of the array, from its first place on
unfoldable pub heap_line : List Entry → List ℕ
heap_line heap = codes "heap" ++ flat_map entry_text heap ++ codes "\n"

-- where the array has a slot
abbrev pub place_text : LaidSlot → List ℕ
place_text c = or_dash c.place

unfoldable pub places_line : List LaidSlot → List ℕ
places_line slots = codes "places" ++ flat_map place_text slots ++ codes "\n"

-- the active referenced handles, and the open requests
unfoldable pub counts_line : ℕ → ℕ → List ℕ
counts_line active opened = numbered (codes "counts ") active ++ numbered (codes " ") opened ++ codes "\n"

-- ---- all of it

-- how the memory lies
unfoldable pub layout_text : Layout → List ℕ
layout_text l =
    links_from 0 l.slots.items ++ ends_line (codes "free") l.free ++ flat_map named_ends l.lists.items ++ heap_line l.heap.items
    ++ places_line l.slots.items ++ counts_line l.active l.opened

-- the same in parts, as it is written: a line for each slot, and what stands behind them

-- the line of a slot
abbrev pub link_part : ℕ → Option LaidSlot → List ℕ
link_part x (Some c) = link_line x c
link_part x None = []

-- how many parts stand behind these lines
abbrev pub LAYOUT_PARTS : ℕ
LAYOUT_PARTS = 5

-- one of these
unfoldable pub rest_part : Layout → ℕ → List ℕ
rest_part l n =
    if n == 0 then ends_line (codes "free") l.free
    else if n == 1 then flat_map named_ends l.lists.items
    else if n == 2 then heap_line l.heap.items
    else if n == 3 then places_line l.slots.items
    else counts_line l.active l.opened

unfoldable pub layout_part : Layout → ℕ → List ℕ
layout_part l n =
    if nat_lt n (length l.slots.items) then link_part n (slice_get l.slots.items n)
    else rest_part l (n - length l.slots.items)

abbrev pub layout_parts : Layout → ℕ
layout_parts l = length l.slots.items + LAYOUT_PARTS

-- the state, and how the memory lies
abbrev pub image_text : Shown → Layout → List ℕ
image_text s l = state_text s ++ layout_text l

-- the text of a memory that stands for the session's state
pub record IsImageText (s : Shown) (text : List ℕ) : Type 0 where
  pub layout : Layout
  pub lies : LiesFor layout (after s.program s.standing)
  pub is : text ≡ image_text s layout
