-- Text that is gathered before it is written.
use Rattle.std.specs.Prelude.{◌≡◌, ℕ, List, ◌++◌, Result, Ok, Err}
use Rattle.uv_ids.specs.declared.fault.Fault.{Fault}
use Rattle.uv_ids.specs.declared.fault.Fault.TheVariants as fault

-- something, or nothing, was written after what was written before
pub record Grown (old new : List ℕ) : Type 0 where
  pub part : List ℕ
  pub is : new ≡ old ++ part

-- what was written is a beginning of all that there is to write
pub record CutOff (old all new : List ℕ) : Type 0 where
  pub grown : Grown old new
  pub rest : List ℕ
  pub whole : new ++ rest ≡ all

-- of all that there is to write this is left behind what was written and gathered
pub record Gathered (old all written gathered rest : List ℕ) : Type 0 where
  pub grown : Grown old written
  pub whole : (written ++ gathered) ++ rest ≡ all

-- a text was gathered behind what was written and gathered before; after a fault a beginning of all was written
abbrev pub Gathers : Result (Unit {0}) Fault → List ℕ → List ℕ → List ℕ → List ℕ → List ℕ → Type 0
Gathers (Ok done) written gathered text written' gathered' = Grown written written' × (written' ++ gathered' ≡ (written ++ gathered) ++ text)
Gathers (Err fault) written gathered text written' gathered' = CutOff written ((written ++ gathered) ++ text) written'

-- a text of this kind was gathered
pub record GathersOne (Is : List ℕ → Type 0) (r : Result (Unit {0}) Fault) (written gathered written' gathered' : List ℕ) : Type 0 where
  pub text : List ℕ
  pub is : Is text
  pub gathers : Gathers r written gathered text written' gathered'

-- a growth was refused, or the writer failed
abbrev pub IsWriteFault : Fault → Type 0
IsWriteFault fault.Memory = Unit {0}
IsWriteFault fault.Write = Unit {0}
IsWriteFault _ = ⊥
