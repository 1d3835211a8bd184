use Rattle.uv_find.proofs.Results.{answers_by, found_way}
use Rattle.uv_find.proofs.finding.find_near.Goals as goal

pub returns-in-Ok-Some-clause-found : goal.returns-in-Ok-Some-clause-found
returns-in-Ok-Some-clause-found g c =
    let r = c.args.orders.now.rules in
    let s = c.args.orders.now.spot in
    let some = rw c.in-Ok-Some.field-0-is at c.in-Ok-Some.ensures.some in
    let f = some.0 in
    let reached = c.in-Ok-Some.reached in
    let t = c.search_near.new.maze.spot in
    found_way r s c.args.limit reached.way.items reached.keys t f.0 f.1 f.2.0 f.2.1 (answers_by r s f.2.0 reached.way.items t f.1 f.2.2)
