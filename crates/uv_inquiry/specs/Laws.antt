-- What the reading of an input is free of: two inquiries, an inquiry beside a bad line, two first bad lines.
use Rattle.std.specs.Prelude.{◌≡◌, ◌⊎◌, ℕ, List}
use Rattle.uv_script.specs.Program.{Program}
use Rattle.uv_asking.specs.Asked.{Asked}
use Rattle.uv_inquiry.specs.Grammar.{IsInquiry, IsBadInput}

-- something that an input asks
pub record Inquires (input : List ℕ) : Type 0 where
  pub program : Program
  pub asked : Asked
  pub is : IsInquiry input program asked

-- an input asks something, or has a first bad line
abbrev pub HasReading : List ℕ → Type 0
HasReading input = Inquires input ⊎ ((number : ℕ) × IsBadInput input number)

-- an input asks one thing at most
abbrev pub HasOneInquiry : List ℕ → Type 0
HasOneInquiry input = (p q : Program) (a b : Asked) → IsInquiry input p a → IsInquiry input q b → (p ≡ q) × (a ≡ b)

-- an input that asks something has no bad line
abbrev pub HasNoBadLine : List ℕ → Type 0
HasNoBadLine input = (p : Program) (a : Asked) (number : ℕ) → IsInquiry input p a → IsBadInput input number → ⊥

-- an input has at most one first bad line
abbrev pub HasOneBadLine : List ℕ → Type 0
HasOneBadLine input = (m n : ℕ) → IsBadInput input m → IsBadInput input n → m ≡ n
