use Rattle.uv_find.proofs.Names.{◌∷◌, length, arith, some_left}
use Rattle.uv_find.proofs.Results.{found_never}
use Rattle.uv_find.proofs.latest.look.Goals as goal

pub go_back-requires : goal.go_back-requires
go_back-requires g c =
    let s = c.search.new.maze in
    let back = rw c.in-Way.is at c.search.ensures.made in
    let long = some_left (length c.in-Way.field-0.way.items) c.args.orders.now.spot (s.spot ∷ s.before) c.args.orders.now.before back in
    omega (arith, long, c.len.ensures)

pub returns-in-Way-clause-back : goal.returns-in-Way-clause-back
returns-in-Way-clause-back g c = grind arith

pub returns-in-Never-clause-found : goal.returns-in-Never-clause-found
returns-in-Never-clause-found g c =
    let f = rw c.in-Never.is at c.search.ensures.found in
    found_never c.args.orders.now.rules c.args.orders.now.spot c.args.limit c.in-Never.places c.search.new.maze.spot f.0 c.requires.here f.1

pub returns-in-Never-clause-back : goal.returns-in-Never-clause-back
returns-in-Never-clause-back g c = (rw c.in-Never.is at c.search.ensures.made).0
