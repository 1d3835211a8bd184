-- A state whose slots stand in another order. Each number of a slot and each id that names one is renamed with it, and names it still.
use Rattle.std.specs.Prelude.{◌≡◌, ℕ, suc, ◌==◌, ◌<◌, ◌≤◌, ◌++◌, List, [], ◌∷◌, length, drop, map, Option, Some, None, option_map, option_to_list, unwrap_or, slice_get, if◌then◌else◌}
use Rattle.uv_ids.specs.declared.id.Id.{Id}
use Rattle.uv_model.specs.State.{State}
use Rattle.uv_slots.specs.Relabeled.{Labels, relabeled}

-- ---- orders: the numbers of slots as they are to stand, that of the first one first

-- how often a number stands in a list
abbrev pub times : List ℕ → ℕ → ℕ
times [] n = 0
times (m ∷ ms) n = if m == n then suc (times ms n) else times ms n

-- each number below its length stands in it once, and no other number does
pub record IsOrder (o : List ℕ) : Type 0 where
  pub once : (n : ℕ) → n < length o → times o n ≡ 1
  pub no_other : (n : ℕ) → length o ≤ n → times o n ≡ 0

-- the place of a number in a list
abbrev pub place_in : List ℕ → ℕ → Option ℕ
place_in [] n = None
place_in (m ∷ ms) n = if m == n then Some 0 else option_map suc (place_in ms n)

-- where the slot of this number goes: to the place that the number has in the order, and one that the order doesn't name stays
abbrev pub place_of : List ℕ → ℕ → ℕ
place_of o n = unwrap_or (place_in o n) n

-- the slots of these numbers
abbrev pub picked : {X : Type 0} → List ℕ → List X → List X
picked [] slots = []
picked (n ∷ ns) slots = option_to_list (slice_get slots n) ++ picked ns slots

-- the slots that an order names, in that order, and the others behind them
abbrev pub arranged_slots : {X : Type 0} → List ℕ → List X → List X
arranged_slots o slots = picked o slots ++ drop (length o) slots

-- ---- a state

abbrev pub arranged_id : List ℕ → Id → Id
arranged_id o id = record id { slot = place_of o id.slot }

-- slots in this order
abbrev pub in_order : List ℕ → Labels
in_order o = record { id = arranged_id o; slots = arranged_slots o; free = map (place_of o) }

abbrev pub arranged : List ℕ → State → State
arranged o s = relabeled (in_order o) s
