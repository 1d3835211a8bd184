-- The rules of bytes as tests that the code computes. Where a public clause cites one, the rule itself stands beside it.
use Rattle.std.specs.Prelude.{ℕ, ◌^◌, ◌&&◌, ◌||◌, ◌==◌, Bool, true, false, not, nat_le, nat_lt, List, [], ◌∷◌, length, Option, Some, None, if◌then◌else◌}
use Rattle.std.specs.List.{list_all}
use Rattle.std.specs.Str.{all_ascii_digits}
use Rattle.std.specs.Str.Parse.{digits_value}

-- a byte from the space to the tilde
abbrev pub is_printable : ℕ → Bool
is_printable b = nat_le 32 b && nat_le b 126

-- the rule of lines
abbrev pub is_line : List ℕ → Bool
is_line line = nat_le (length line) 256 && list_all is_printable line

-- an empty line, or one that begins with `#`
abbrev pub is_skipped : List ℕ → Bool
is_skipped [] = true
is_skipped (b ∷ bs) = b == 35

-- a byte from `a` to `z`
abbrev pub is_letter : ℕ → Bool
is_letter b = nat_le 97 b && nat_le b 122

-- a letter, a digit or `_`
abbrev pub is_name_byte : ℕ → Bool
is_name_byte b = is_letter b || ((nat_le 48 b && nat_le b 57) || (b == 95))

-- the rule of names
abbrev pub is_name : List ℕ → Bool
is_name [] = false
is_name (b ∷ bs) = is_letter b && (nat_le (length bs) 31 && list_all is_name_byte bs)

-- neither a plus nor a zero too many stands in front
abbrev pub is_canonical : List ℕ → Bool
is_canonical [] = true
is_canonical (a ∷ []) = not (a == 43)
is_canonical (a ∷ b ∷ bs) = not (a == 43) && not (a == 48)

-- the rule of numbers
abbrev pub is_number : List ℕ → Bool
is_number text = is_canonical text && (nat_lt 0 (length text) && (all_ascii_digits text && nat_lt (digits_value 10 text) (2 ^ 64)))

-- the number that a text is
unfoldable pub number_of : List ℕ → Option ℕ
number_of text = if is_number text then Some (digits_value 10 text) else None
