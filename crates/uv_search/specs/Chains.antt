-- Rows by places, of which each row has one: the last row of a place, and the row before each one at its place. A row is told by its
-- number and one more, and 0 tells that there is none.
use Rattle.std.specs.Prelude.{◌≡◌, ℕ, suc, ◌+◌, ◌*◌, ◌/◌, ◌%◌, ◌^◌, ◌<◌, ◌≤◌, List, Some, slice_get, map, length}

-- of the first n rows this one is the last at the place
pub record Leads (places : List ℕ) (place n at : ℕ) : Type 0 where
  pub within : at ≤ n
  pub none_behind : (i : ℕ) → at ≤ i → i < n → slice_get places i ≡ Some place → ⊥
  pub is_there : (i : ℕ) → at ≡ suc i → slice_get places i ≡ Some place

-- the first n rows are linked
pub record Linked (last before places : List ℕ) (n : ℕ) : Type 0 where
  pub lasts : (place at : ℕ) → slice_get last place ≡ Some at → Leads places place n at
  pub befores : (i place at : ℕ) → i < n → slice_get places i ≡ Some place → slice_get before i ≡ Some at → Leads places place i at

-- the place of a pair, among so many
unfoldable pub place_of : ℕ → ℕ × ℕ → ℕ
place_of count pair = ((pair.0 * 2 ^ 32 + pair.1) * 0x9e37_79b9_7f4a_7c15 % 2 ^ 64 / 2 ^ 32) % count

-- pairs that are linked by their places
pub record AreLinked (last before : List ℕ) (pairs : List (ℕ × ℕ)) : Type 0 where
  pub linked : Linked last before (map (place_of (length last)) pairs) (length pairs)
  pub long : length before ≡ length pairs
  pub room : length pairs ≤ length last
