-- How many handles keep the loop alive, and counts that are kept beside what they count.
use Rattle.std.specs.Prelude.{◌≡◌, ℕ, ◌+◌, ◌<◌, ◌^◌, Bool, true, false, List, [], ◌∷◌, Option, Some, None}
use Rattle.uv_records.specs.declared.handle.HandleRecord.{HandleRecord}
use Rattle.uv_records.specs.declared.slot.Slot.{Slot}
use Rattle.uv_records.specs.Handles.{keeps_alive}

abbrev pub keeps_in : Option HandleRecord → Bool
keeps_in None = false
keeps_in (Some h) = keeps_alive h

abbrev pub one_if : Bool → ℕ
one_if true = 1
one_if false = 0

-- a count less what went and plus what came is a number again
abbrev pub Fits32 : ℕ → ℕ → ℕ → Type 0
Fits32 n before after = (m : ℕ) × (m + before ≡ n + after) × (m < 2 ^ 32)

-- whether what a slot holds pends
abbrev pub pends_in : {X : Type 0} → (X → Bool) → Option X → Bool
pends_in pends None = false
pends_in pends (Some x) = pends x

module _ {X : Type 0} (read : X → Option HandleRecord) where
  -- whether what a slot holds is a handle that is active and referenced
  abbrev pub content_keeps : Option X → Bool
  content_keeps None = false
  content_keeps (Some x) = keeps_in (read x)

  -- the active and referenced handles
  abbrev pub active_count : List (Slot X) → ℕ
  active_count [] = 0
  active_count (s ∷ ss) = one_if (content_keeps s.content) + active_count ss
