use Rattle.uv_find.proofs.Results.{answers_by, found_way, found_never, found_more, found_deep, found_no_memory}
use Rattle.uv_find.proofs.finding.find_any.Goals as goal

pub returns-in-Way-clause-found : goal.returns-in-Way-clause-found
returns-in-Way-clause-found g c =
    let f = rw c.in-Way.is at c.search.ensures.found in
    let r = c.args.orders.now.rules in
    let s = c.args.orders.now.spot in
    let way = c.in-Way.reached.way.items in
    let t = c.search.new.maze.spot in
    found_way r s c.args.limit way c.in-Way.reached.keys t f.0 f.1 f.2.0 f.2.1 (answers_by r s f.2.0 way t f.1 f.2.2)

pub returns-in-OutOfMemory-clause-found : goal.returns-in-OutOfMemory-clause-found
returns-in-OutOfMemory-clause-found g c =
    let f = rw c.in-OutOfMemory.is at c.search.ensures.found in
    found_no_memory c.args.orders.now.rules c.args.orders.now.spot c.args.limit c.in-OutOfMemory.places c.search.new.maze.spot f.0 f.1

pub returns-in-Never-clause-found : goal.returns-in-Never-clause-found
returns-in-Never-clause-found g c =
    let f = rw c.in-Never.is at c.search.ensures.found in
    found_never c.args.orders.now.rules c.args.orders.now.spot c.args.limit c.in-Never.places c.search.new.maze.spot f.0 c.requires.here f.1

pub returns-in-Unsettled-clause-found : goal.returns-in-Unsettled-clause-found
returns-in-Unsettled-clause-found g c =
    let f = rw c.in-Unsettled.is at c.search.ensures.found in
    found_more c.args.orders.now.rules c.args.orders.now.spot c.args.limit c.search.new.maze.spot f

pub returns-in-TooDeep-clause-found : goal.returns-in-TooDeep-clause-found
returns-in-TooDeep-clause-found g c =
    let f = rw c.in-TooDeep.is at c.search.ensures.found in
    found_deep c.args.orders.now.rules c.args.orders.now.spot c.args.limit c.search.new.maze.spot c.search.new.maze.spot f
