-- A reader's lines, one after another.
use Rattle.std.specs.Prelude.{◌≡◌, ◌≢◌, ℕ, ◌+◌, ◌==◌, true, false, List, [], ◌∷◌, ◌++◌, Bool, All, length, ◌≤◌, if◌then◌else◌}
use Rattle.std.specs.List.{AllByRecursion}
use Rattle.uv_ids.specs.declared.fault.Fault.{Fault}
use Rattle.uv_ids.specs.declared.fault.Fault.TheVariants as fault
use Rattle.uv_script.specs.Lines.{lines_of}

-- what was read of an input and not yet taken
pub record Buffered : Type 0 where
  -- the beginning of a line whose end was not yet seen
  pub part : List ℕ
  -- the bytes that follow it
  pub ahead : List ℕ
  -- the reader is at its end
  pub ended : Bool
  -- how many bytes more may be read
  pub budget : ℕ

abbrev pub pending : Buffered → List ℕ
pending b = b.part ++ b.ahead

-- the bytes that are left, where these remain in the reader
abbrev pub left : Buffered → List ℕ → List ℕ
left b remaining = pending b ++ remaining

-- the bytes that can still come, at the most
abbrev pub size : Buffered → ℕ
size b = length (pending b) + b.budget

-- how many reads can still come, at the most
abbrev pub turns_left : Buffered → ℕ
turns_left b = b.budget + (if b.ended then 0 else 1)

-- no byte is a line feed
abbrev pub NoFeed : List ℕ → Type 0
NoFeed line = All (λ b. (b == 10) ≡ false) line

-- a line is taken off the front, with its line feed if it has one; only a last line may lack it
abbrev pub TakesLine : List ℕ → List ℕ → Bool → List ℕ → Type 0
TakesLine old line true new = NoFeed line × (old ≡ line ++ 10 ∷ new)
TakesLine old line false new = NoFeed line × (line ≢ []) × (old ≡ line) × (new ≡ [])

-- where the end of the reader was seen, nothing remains in it
abbrev pub EndIsSeen : Buffered → List ℕ → Type 0
EndIsSeen b remaining = b.ended ≡ true → remaining ≡ []

-- the first 257 bytes of a line are taken, which may have 256
pub record TakesLong (old new : List ℕ) : Type 0 where
  pub front : List ℕ
  pub free : NoFeed front
  pub long : length front ≡ 257
  pub whole : old ≡ front ++ new

-- the rest of a line is taken, with its line feed if it has one
pub record TakesRest (old : List ℕ) (fed : Bool) (new : List ℕ) : Type 0 where
  pub rest : List ℕ
  pub free : NoFeed rest
  pub whole : old ≡ rest ++ (if fed then 10 ∷ new else [])
  pub last : fed ≡ false → new ≡ []

-- of these bytes no more were read than lines of at most 257 bytes, one after another, and 4,096 bytes behind them
pub record ReadsNear (bytes remaining : List ℕ) : Type 0 where
  pub lines : List ℕ
  pub rest : List ℕ
  pub whole : bytes ≡ lines ++ rest
  pub short : AllByRecursion (λ (line : List ℕ). length line ≤ 257) (lines_of lines)
  pub near : length rest ≤ length remaining + 4096

-- where a script is bad, no more was read
abbrev pub StopsNear : Fault → List ℕ → List ℕ → Type 0
StopsNear (fault.Script line) bytes remaining = ReadsNear bytes remaining
StopsNear _ bytes remaining = Unit {0}
