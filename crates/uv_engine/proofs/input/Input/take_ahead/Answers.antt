use Rattle.uv_engine.proofs.Names.{◌∙◌, ap, length, length-append, arith, rules}
use Rattle.uv_engine.proofs.Buffers.{takes_line, long_fed, long_part}
use Rattle.uv_engine.proofs.input.Input.take_ahead.Goals as goal

pub returns-in_ok-extend_from_slice-in-Some-clause-line :
    goal.returns-in_ok-extend_from_slice-in-Some-clause-line
returns-in_ok-extend_from_slice-in-Some-clause-line c = grind (arith, takes_line)

pub returns-then-len-line-gt-LONGEST-clause-line : goal.returns-then-len-line-gt-LONGEST-clause-line
returns-then-len-line-gt-LONGEST-clause-line c = grind (arith, long_fed)

pub invariant_of-self-in-Some : goal.invariant_of-self-in-Some
invariant_of-self-in-Some c = grind (arith, length, length-append)

pub returns-then-len-self-gt-LONGEST-clause-line : goal.returns-then-len-self-gt-LONGEST-clause-line
returns-then-len-self-gt-LONGEST-clause-line c = grind (arith, long_part)
