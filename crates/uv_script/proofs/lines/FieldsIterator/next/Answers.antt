use Rattle.uv_script.proofs.ProofNames.{length, ap, sym, ◌∙◌, rules, fields_left}
use Rattle.uv_script.proofs.Cuts.{fields-cut, fields-last}
use Rattle.uv_script.proofs.lines.FieldsIterator.next.Goals as goal

pub returns-in-Some-clause-steps : goal.returns-in-Some-clause-steps
returns-in-Some-clause-steps c =
    sym c.self.view_is ∙ ap fields_left c.in_ok-line.was ∙ fields-cut _ _ _ c.in-Some.ensures.some

pub returns-in-Some-clause-goes : goal.returns-in-Some-clause-goes
returns-in-Some-clause-goes c =
    let steps = ap length (returns-in-Some-clause-steps c) in
    search (rules, steps)

pub returns-in-None-clause-steps : goal.returns-in-None-clause-steps
returns-in-None-clause-steps c =
    sym c.self.view_is ∙ ap fields_left c.in_ok-line.was ∙ fields-last _ c.in-None.ensures.none
