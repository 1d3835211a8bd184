-- How devices count their failures.
use Rattle.std.specs.Prelude.{◌≡◌, ℕ, ◌+◌, ◌<◌, ◌≤◌, ◌-◌, ◌^◌, ◌⊎◌, min, List, [], length, Option, Some, None, IsSome, Result, Ok, Err}
use Rattle.uv_ids.specs.declared.fault.Fault.{Fault}
use Rattle.uv_ids.specs.declared.fault.Fault.TheVariants.{Memory, Read, Write}
use Rattle.uv_engine.specs.declared.sink.WriteFailed.{WriteFailed}

-- one failure more; nothing is said at the greatest count
abbrev pub Counted : ℕ → ℕ → Type 0
Counted old new = old < 2 ^ 64 - 1 → new ≡ old + 1

-- a write failed, or took no byte of some
abbrev pub WriteCount : Result ℕ WriteFailed → List ℕ → ℕ → ℕ → Type 0
WriteCount (Err failed) bytes old new = Counted old new
WriteCount (Ok n) bytes old new = (n ≡ 0 → 0 < length bytes → Counted old new) × (0 < n → new ≡ old)

-- a call answers `Write` where the writer failed, and only there
abbrev pub WriterCounts : {A : Type 0} → Result A Fault → ℕ → ℕ → Type 0
WriterCounts (Err Write) old new = Counted old new
WriterCounts (Err _) old new = new ≡ old
WriterCounts (Ok _) old new = new ≡ old

-- so many bytes more were given; the count stays at its greatest value
abbrev pub Gave : ℕ → ℕ → ℕ → Type 0
Gave n old new = new ≡ min (old + n) (2 ^ 64 - 1)

-- the input is longer than the limit: by the bytes that a reader tells, and by the count of those that any reader gave, of which
-- nothing is said at its greatest value
pub record IsTooLong (Tells : Type 0) (limit : ℕ) (remaining : List ℕ) (given given' : ℕ) : Type 0 where
  pub told : Tells → limit < length remaining
  pub gave : given + limit < 2 ^ 64 - 1 → given + limit < given'

-- a call answers `Read` where the reader failed, and else only where the input is too long
abbrev pub ReaderCounts : {A : Type 0} → Result A Fault → Type 0 → ℕ → ℕ → Type 0
ReaderCounts (Err Read) TooLong old new = Counted old new ⊎ ((new ≡ old) × TooLong)
ReaderCounts (Err _) TooLong old new = new ≡ old
ReaderCounts (Ok _) TooLong old new = new ≡ old

-- where a fault is one of the input, and not want of memory or the failure of a device
abbrev pub IfOfInput : Fault → Type 0 → Type 0
IfOfInput Memory Holds = Unit {0}
IfOfInput Read Holds = Unit {0}
IfOfInput Write Holds = Unit {0}
IfOfInput _ Holds = Holds

-- where a call answers its input: well, or by such a fault
abbrev pub OnAnswer : {A : Type 0} → Result A Fault → Type 0 → Type 0
OnAnswer (Ok found) Holds = Holds
OnAnswer (Err f) Holds = IfOfInput f Holds

-- so many bytes of what remained were taken, at the most
abbrev pub TakesWithin : ℕ → List ℕ → List ℕ → Type 0
TakesWithin limit remaining remaining' = length remaining ≤ limit + length remaining'

-- the bytes of each reader or writer of this type are known, as those of one over memory are
abbrev pub AreKnown : {A : Type 0} → (A → Option (List ℕ)) → Type 0
AreKnown {A} bytes = (device : A) → IsSome (bytes device)

-- the known bytes
abbrev pub known : Option (List ℕ) → List ℕ
known (Some bytes) = bytes
known None = []
