use Rattle.uv_script.proofs.ProofNames.{length, ap, arith, rules, common_steps}
use Rattle.uv_script.proofs.Cuts.{lines-cut, lines-rest}
use Rattle.uv_script.proofs.lines.LinesIterator.next.Goals as goal

pub returns-in-Some-clause-steps : goal.returns-in-Some-clause-steps
returns-in-Some-clause-steps c = grind (arith, lines-cut)

pub returns-in-Some-clause-goes : goal.returns-in-Some-clause-goes
returns-in-Some-clause-goes c =
    let steps = ap length (returns-in-Some-clause-steps c) in
    search (rules, steps)

pub returns-in-None-clause-steps : goal.returns-in-None-clause-steps
returns-in-None-clause-steps c = grind (arith, common_steps, lines-rest)
