-- The index of a callback's lines, by which a call finds its next one.
use Rattle.std.specs.Prelude.{◌≡◌, ℕ, ◌+◌, ◌≤◌, Bool, true, false, cond, List, [], ◌∷◌, Option, Some, None, min, slice_get, if◌then◌else◌}
use Rattle.std.specs.declared.cmp.Ordering.{Ordering}
use Rattle.std.specs.Ordering.{nat_cmp, ordering_then, is_eq}
use Rattle.std.specs.Option.{option_cmp}
use Rattle.std.specs.BTreeSet.{BTreeSet, contains}
use Rattle.uv_script.specs.declared.callback_lines.TheConstants.{LOOKED_AT}
use Rattle.uv_script.specs.declared.op.CallbackLine.{CallbackLine}

-- where a line stands: the call that it is for, none where it is for every call, and its place among the lines
abbrev pub Spot : Type 0
Spot = Option ℕ × ℕ

-- the spots of one call stand together, in the order of their places
abbrev pub spot_cmp : Spot → Spot → Ordering
spot_cmp a b = ordering_then (option_cmp nat_cmp a.0 b.0) (nat_cmp a.1 b.1)

-- a line is for this call alone; for every call, with none
abbrev pub is_of : Option ℕ → Option ℕ → Bool
is_of call its = is_eq (option_cmp nat_cmp its call)

-- there is a line, and it is of this call
abbrev pub is_line_of : Option ℕ → Option CallbackLine → Bool
is_line_of call None = false
is_line_of call (Some line) = is_of call line.call

-- behind the places that are looked at the index has the spot of each line, and no other
abbrev pub IsIndex : List CallbackLine → BTreeSet Spot → Type 0
IsIndex lines spots = (spot : Spot) → LOOKED_AT ≤ spot.1 → contains spot_cmp spots spot ≡ is_line_of spot.0 (slice_get lines spot.1)

-- and here it has one spot more
abbrev pub IsNoted : Spot → BTreeSet Spot → BTreeSet Spot → Type 0
IsNoted spot old new =
    (other : Spot) → LOOKED_AT ≤ other.1 → contains spot_cmp new other ≡ cond (is_eq (spot_cmp spot other)) true (contains spot_cmp old other)

-- the first line of this call among these, the first of which has this number
abbrev pub next_of : Option ℕ → ℕ → List CallbackLine → Option ℕ
next_of call number [] = None
next_of call number (line ∷ lines) = if is_of call line.call then Some number else next_of call (number + 1) lines

-- the first of two lines, of which either may be missing
abbrev pub earlier : Option ℕ → Option ℕ → Option ℕ
earlier None b = b
earlier (Some a) None = Some a
earlier (Some a) (Some b) = Some (min a b)
