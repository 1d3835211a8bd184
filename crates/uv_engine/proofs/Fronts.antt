-- A script that no commands follow.
use Rattle.uv_engine.proofs.Names.{◌≡◌, ℕ, List, [], ◌++◌, Bool, Result, Ok, Err, IfErr, true, false, arith, ap, subst, Fault, Program, Parses, ReadsAlone, ParsesAlone, Buffered, pending, left, IsFront, ReadsFront, FrontEnd, Begin, Input, Long, IsStartFault}
use Rattle.uv_engine.proofs.LongLines.{long_alone}
use Rattle.uv_ids.specs.declared.fault.Fault.TheVariants as fault

-- what the text in front says
read : (input text rest : List ℕ) (begun : Bool) (r : Result Program Fault) → IsFront input text begun rest → Parses text r → ReadsAlone input r
read input text rest begun r h k = grind arith

-- from a buffer that holds nothing yet
pub reads_alone : (b : Buffered) (input text rest : List ℕ) (end : FrontEnd) (r : Result Program Fault) → pending b ≡ [] →
    ReadsFront (left b input) text end rest → ParsesAlone text end r → ReadsAlone input r
reads_alone b input text rest end r e h k = grind (arith, read, long_alone)

pub parsed_fault : (text : List ℕ) (end : FrontEnd) (r : Result Program Fault) → ParsesAlone text end r → IfErr r IsStartFault
parsed_fault text each r h = grind arith
