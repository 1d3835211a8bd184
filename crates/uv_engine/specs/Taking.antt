-- What the calls of an input's buffer do.
use Rattle.std.specs.Prelude.{◌≡◌, ℕ, ◌+◌, ◌-◌, ◌<◌, ◌≤◌, ◌^◌, List, [], ◌∷◌, ◌++◌, Bool, true, false, length, Option, Some, None, if◌then◌else◌}
use Rattle.uv_ids.specs.declared.fault.Fault.{Fault}
use Rattle.uv_ids.specs.declared.fault.Fault.TheVariants as fault
use Rattle.uv_engine.specs.declared.input.Ahead.{Ahead}
use Rattle.uv_engine.specs.declared.input.Ahead.TheVariants as ahead
use Rattle.uv_engine.specs.declared.input.Line.{Line}
use Rattle.uv_engine.specs.declared.input.Taken.{Taken}
use Rattle.uv_engine.specs.declared.input.Taken.TheVariants as taken
use Rattle.uv_engine.specs.Input.{Buffered, pending, size, NoFeed, TakesLine, TakesLong}

-- the reader and the count are as before
pub record SameReader (old new : Buffered) : Type 0 where
  pub ended : new.ended ≡ old.ended
  pub budget : new.budget ≡ old.budget

-- as many bytes fewer may be read as were taken from those that remained
abbrev pub SpendsBudget : Buffered → List ℕ → Buffered → List ℕ → Type 0
SpendsBudget old remaining new remaining' = new.budget + length remaining ≡ old.budget + length remaining'

-- as many bytes fewer may be read as the reader gave; nothing is said at the greatest value of its count
abbrev pub SpendsGiven : Buffered → ℕ → Buffered → ℕ → Type 0
SpendsGiven old given new given' = given + old.budget < 2 ^ 64 - 1 → given' + new.budget ≡ given + old.budget

-- a line is taken that ends in what was read, or the first bytes of one that is too long; else all that was read is part of the next line
abbrev pub TakesAhead : Buffered → Ahead → Buffered → Type 0
TakesAhead old (ahead.Line text) new = TakesLine (pending old) text.items true (pending new)
TakesAhead old ahead.Long new = TakesLong (pending old) (pending new)
TakesAhead old ahead.Part new = pending new ≡ pending old

-- a line has 256 bytes at the most, and nothing is kept of one that was taken; else nothing is left of what was read
abbrev pub EndsBehind : Ahead → Buffered → Type 0
EndsBehind (ahead.Line text) new = (length text.items ≤ 256) × (new.part ≡ [])
EndsBehind ahead.Long new = new.part ≡ []
EndsBehind ahead.Part new = new.ahead ≡ []

-- the next line is taken of what is left, or the first bytes of one that is too long; or nothing is left
abbrev pub TakesNext : List ℕ → Taken → List ℕ → Type 0
TakesNext old (taken.Line line) new = TakesLine old line.text.items line.fed new × (length line.text.items ≤ 256)
TakesNext old taken.Long new = TakesLong old new
TakesNext old taken.End new = old ≡ []

-- no more can still come, and less where something was taken
abbrev pub Shrinks : Taken → Buffered → Buffered → Type 0
Shrinks taken.End old new = size new ≤ size old
Shrinks _ old new = size new < size old

-- a line of at most 256 bytes is taken of what is left, or nothing is left
abbrev pub TakesOne : List ℕ → Option Line → List ℕ → Type 0
TakesOne old (Some line) new = TakesLine old line.text.items line.fed new
TakesOne old None new = old ≡ []

-- behind so many lines, the next one is refused as its first 257 bytes were read
abbrev pub RefusesLong : Fault → ℕ → List ℕ → List ℕ → Type 0
RefusesLong (fault.Script number) lines old new = (number ≡ lines + 1) × TakesLong old new
RefusesLong _ lines old new = Unit {0}

-- what was read of a line is passed over, up to its line feed or all of it
pub record SkipsAhead (old : Buffered) (found : Bool) (new : Buffered) : Type 0 where
  pub over : List ℕ
  pub free : NoFeed over
  pub whole : old.ahead ≡ over ++ (if found then 10 ∷ new.ahead else [])
  pub none : found ≡ false → new.ahead ≡ []

-- the reader failed, or gave more bytes than may be read (both answer `Read`), or there was no memory
abbrev pub IsReadFault : Fault → Type 0
IsReadFault fault.Read = Unit {0}
IsReadFault fault.Memory = Unit {0}
IsReadFault _ = ⊥
