use Rattle.uv_find.proofs.Names.{sym, ◌∙◌}
use Rattle.uv_find.proofs.Results.{found_here, found_none}
use Rattle.uv_find.proofs.finding.find.Goals as goal

pub returns-in-Ok-true-clause-found : goal.returns-in-Ok-true-clause-found
returns-in-Ok-true-clause-found g c =
    let answers = sym (rw c.in-Ok-true.is at c.place_answers.ensures.answers) ∙ c.in-Ok-true.field-0-test in
    rw c.place_answers.ensures.same (found_here c.args.orders.now.rules c.args.orders.now.spot c.args.limit answers)

pub returns-in-Err-clause-found : goal.returns-in-Err-clause-found
returns-in-Err-clause-found g c = found_none c.args.orders.now.rules c.args.orders.now.spot c.args.limit c.place_answers.new.self.spot
