-- What the sets of a session's breaks keep: what a line is held against in place of each break.
use Rattle.std.specs.Prelude.{◌≡◌, ℕ, ◌==◌, List, Bool, true, false, slice_index_or}
use Rattle.std.specs.List.{list_any}
use Rattle.uv_ids.specs.declared.code.Code.{Code}
use Rattle.uv_ids.specs.declared.phase.Phase.{Phase}
use Rattle.uv_session.specs.declared.breaks.Break.{Break}
use Rattle.uv_session.specs.declared.breaks.Break.TheVariants as at
use Rattle.uv_session.specs.Breaks.{same_code, same_phase}

-- a break is of calls of the name with this number
abbrev pub is_of_name : ℕ → Break → Bool
is_of_name n (at.Call v) = n == v.0
is_of_name n b = false

abbrev pub is_of_code : Code → Break → Bool
is_of_code c (at.Code d) = same_code c d
is_of_code c b = false

abbrev pub is_of_section : Phase → Break → Bool
is_of_section x (at.Section y) = same_phase x y
is_of_section x b = false

abbrev pub is_of_poll : Break → Bool
is_of_poll at.Poll = true
is_of_poll b = false

-- a name's flag says whether a break is of it, and so with the codes, the sections and the poll
pub record AreSets (breaks : List Break) (names : List Bool) (codes : List Code) (sections : List Phase) (polls : Bool) : Type 0 where
  pub names_are : (n : ℕ) → slice_index_or names n false ≡ list_any (is_of_name n) breaks
  pub codes_are : (c : Code) → list_any (same_code c) codes ≡ list_any (is_of_code c) breaks
  pub sections_are : (x : Phase) → list_any (same_phase x) sections ≡ list_any (is_of_section x) breaks
  pub polls_are : polls ≡ list_any is_of_poll breaks
