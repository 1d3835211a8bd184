-- A text as lines, and a line as fields.
use Rattle.std.specs.Prelude.{◌≡◌, ℕ, ◌≤◌, ◌==◌, false, List, [], ◌∷◌, ◌++◌, length, All, Option, Some, None, if◌then◌else◌}
use Rattle.std.specs.List.{slice_split, onto_first, join_with_byte}

-- a text cut at each line feed; a last line that lacks its line feed counts too
abbrev pub lines_of : List ℕ → List (List ℕ)
lines_of [] = []
lines_of (b ∷ bs) = if b == 10 then [] ∷ lines_of bs else onto_first b (lines_of bs)

-- the rule of lines: bytes from the space to the tilde, 256 at most
pub record IsLine (line : List ℕ) : Type 0 where
  pub short : length line ≤ 256
  pub printable : All (λ b. (32 ≤ b) × (b ≤ 126)) line

-- a line cut at each space, so that a space too many leaves an empty field, which is no word, name or number
abbrev pub fields_of : List ℕ → List (List ℕ)
fields_of line = slice_split (λ b. b == 32) line

-- the rest of a line, from these of its fields on; none where there is none of them
abbrev pub rest_of : List (List ℕ) → Option (List ℕ)
rest_of [] = None
rest_of (field ∷ fields) = Some (join_with_byte 32 (field ∷ fields))

-- a line that says nothing: an empty one, or one that begins with `#`
pub data IsSkipped (line : List ℕ) : Type 0 where
  empty : line ≡ [] → IsSkipped line
  comment : (text : List ℕ) → line ≡ 35 ∷ text → IsSkipped line

-- a text cut at the first byte of this kind
pub record IsCut (byte : ℕ) (text before after : List ℕ) : Type 0 where
  pub whole : text ≡ before ++ byte ∷ after
  pub first : All (λ b. (b == byte) ≡ false) before
