-- The lines of the steps that stand, in two rows by their width.
use Rattle.std.specs.Prelude.{◌≡◌, ℕ, suc, List, [], ◌∷◌, map, length, Option}
use Rattle.uv_ids.specs.declared.seen.Seen.{Seen}
use Rattle.uv_stands.specs.PackedLines.{said}
use Rattle.uv_stands.specs.declared.packed_line.Line.{Line}
use Rattle.uv_stands.specs.declared.packed_line.Line.TheVariants as line

-- what callers see: the lines, and for how many more there is memory
pub record KeptLines : Type 0 where
  pub items : List (Option Seen)
  pub room : ℕ

abbrev pub all_said : List Seen → List Line → List (Option Seen)
all_said wides lines = map (said wides) lines

-- how many of the lines are wide
abbrev pub wide_count : List Line → ℕ
wide_count [] = 0
wide_count (line.Wide at ∷ lines) = suc (wide_count lines)
wide_count (other ∷ lines) = wide_count lines

-- the wide ones stand in their row one behind another, from this place on
abbrev pub InARow : ℕ → List Line → Type 0
InARow n [] = Unit {0}
InARow n (line.Wide at ∷ lines) = (at ≡ n) × InARow (suc n) lines
InARow n (other ∷ lines) = InARow n lines

pub record AreKept (lines : List Line) (wides : List Seen) : Type 0 where
  pub in_a_row : InARow 0 lines
  pub all : wide_count lines ≡ length wides
