-- What a push and a removal make of the array.
use Rattle.std.specs.Prelude.{ℕ, zero, suc, ◌+◌, ◌-◌, ◌*◌, Bool, ◌==◌, ◌&&◌, nat_lt, if◌then◌else◌, List, [], ◌∷◌, ◌++◌, length, take, swap, slice_set}
use Rattle.uv_heap.specs.declared.entry.Entry.{Entry}
use Rattle.uv_heap.specs.Order.{is_before}
use Rattle.uv_heap.specs.Array.{entry_at, parent}

-- an array after a move, and the place where the entry that moved came to rest
pub record Moved : Type 0 where
  pub array : List Entry
  pub place : ℕ

-- whether the entry at a place is less than its parent
abbrev pub must_rise : List Entry → ℕ → Bool
must_rise array i = nat_lt 0 i && is_before (entry_at array i) (entry_at array (parent i))

-- the place of the lesser child; of two that are due alike, the left one's (own)
abbrev pub lesser_child : List Entry → ℕ → ℕ
lesser_child array i =
    if nat_lt (2 * i + 2) (length array) && is_before (entry_at array (2 * i + 2)) (entry_at array (2 * i + 1)) then 2 * i + 2 else 2 * i + 1

-- whether the entry at a place is greater than its lesser child
abbrev pub must_sink : List Entry → ℕ → Bool
must_sink array i = nat_lt (2 * i + 1) (length array) && is_before (entry_at array (lesser_child array i)) (entry_at array i)

-- The entry at a place moves up while it is less than its parent, at most so many steps. From place i at most i steps are taken
unfoldable pub moved_up : ℕ → List Entry → ℕ → Moved
moved_up zero array i = record { array = array; place = i }
moved_up (suc steps) array i =
    if must_rise array i then moved_up steps (swap array i (parent i)) (parent i) else record { array = array; place = i }

-- It moves down while it is greater than its lesser child, at most so many steps. No more are taken than the array is long
unfoldable pub moved_down : ℕ → List Entry → ℕ → Moved
moved_down zero array i = record { array = array; place = i }
moved_down (suc steps) array i =
    if must_sink array i then moved_down steps (swap array i (lesser_child array i)) (lesser_child array i) else record { array = array; place = i }

-- the entry at a place moves up while it is less than its parent, or else down while it is greater than its lesser child
unfoldable pub settled : List Entry → ℕ → Moved
settled array i = if must_rise array i then moved_up i array i else moved_down (length array) array i

-- a push puts the new entry last and moves it up
unfoldable pub pushed : List Entry → Entry → Moved
pushed array entry = moved_up (length array) (array ++ entry ∷ []) (length array)

-- A removal takes the last entry away. If that one stood elsewhere, it is put at the place and settles
unfoldable pub removed : List Entry → ℕ → Moved
removed array i =
    let last = length array - 1 in
    if i == last then record { array = take last array; place = i }
    else settled (slice_set (take last array) i (entry_at array last)) i
