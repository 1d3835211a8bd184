use Rattle.uv_find.proofs.Names.{◌≡◌, ◌∷◌, ◌∙◌, length, drop, subst, arith, some_left}
use Rattle.uv_find.proofs.Results.{answers_by, found_way, found_never, found_more, found_deep, found_no_memory, same_back}
use Rattle.uv_find.proofs.finding.find_behind.Goals as goal

pub go_back-requires : goal.go_back-requires
go_back-requires g c =
    let s = c.search.new.maze in
    let back = rw c.in-Way.is at c.search.ensures.made in
    let long = some_left (length c.in-Way.field-0.way.items) c.args.orders.now.spot (s.spot ∷ s.before) c.args.orders.now.before back in
    omega (arith, long, c.len.ensures)

pub returns-in-Ok-Some-clause-found : goal.returns-in-Ok-Some-clause-found
returns-in-Ok-Some-clause-found g c =
    let r = c.args.orders.now.rules in
    let p = c.args.orders.now.spot in
    let f = rw c.in-Way.is at c.search.ensures.found in
    let back = rw c.in-Way.is at c.search.ensures.made in
    let s = c.search.new.maze in
    let u = c.go_back.new.maze in
    let count : c.len.result ≡ length c.in-Way.field-0.way.items = omega (arith, c.len.ensures) in
    let there : drop (length c.in-Way.field-0.way.items) (s.spot ∷ s.before) ≡ u.spot ∷ u.before =
    subst (λ n. drop n (s.spot ∷ s.before) ≡ u.spot ∷ u.before) count c.go_back.ensures.before in
    let here : u.spot ≡ p = same_back p u.spot c.args.orders.now.before u.before
    (drop (length c.in-Way.field-0.way.items) (s.spot ∷ s.before)) back there in
    let rules : u.rules ≡ r = c.go_back.ensures.rules ∙ c.search.ensures.rules in
    let some = rw (c.in-Ok-Some.field-0-is, rules, here) at c.in-Ok-Some.ensures.some in
    let by = answers_by r p f.2.0 c.in-Way.field-0.way.items s.spot f.1 f.2.2 in
    found_way r p c.args.limit c.in-Ok-Some.field-0-0.items c.in-Way.field-0.keys c.shortest.new.maze.spot f.0 some.0 f.2.0 f.2.1 by

pub returns-in-Ok-None-clause-found : goal.returns-in-Ok-None-clause-found
returns-in-Ok-None-clause-found g c =
    let r = c.args.orders.now.rules in
    let p = c.args.orders.now.spot in
    let f = rw c.in-Way.is at c.search.ensures.found in
    let back = rw c.in-Way.is at c.search.ensures.made in
    let s = c.search.new.maze in
    let u = c.go_back.new.maze in
    let count : c.len.result ≡ length c.in-Way.field-0.way.items = omega (arith, c.len.ensures) in
    let there : drop (length c.in-Way.field-0.way.items) (s.spot ∷ s.before) ≡ u.spot ∷ u.before =
    subst (λ n. drop n (s.spot ∷ s.before) ≡ u.spot ∷ u.before) count c.go_back.ensures.before in
    let here : u.spot ≡ p = same_back p u.spot c.args.orders.now.before u.before
    (drop (length c.in-Way.field-0.way.items) (s.spot ∷ s.before)) back there in
    let rules : u.rules ≡ r = c.go_back.ensures.rules ∙ c.search.ensures.rules in
    let sure = rw (c.in-Ok-None.field-0-is, rules, here) at c.in-Ok-None.ensures.sure in
    let deep = sure s.spot f.1 in
    found_deep r p c.args.limit c.shortest.new.maze.spot deep.0 deep.1

-- memory was refused as the steps were made fewer
pub returns-in-Way-clause-found : goal.returns-in-Way-clause-found
returns-in-Way-clause-found g c =
    let f = rw c.in-Way.is at c.search.ensures.found in
    found_no_memory c.args.orders.now.rules c.args.orders.now.spot c.args.limit c.in-Way.field-0.keys c.shortest.new.maze.spot f.0
    (f.2.0, f.2.1)

-- memory was refused in the search
pub returns-clause-found : goal.returns-clause-found
returns-clause-found g c =
    let f = rw c.in-OutOfMemory.is at c.search.ensures.found in
    found_no_memory c.args.orders.now.rules c.args.orders.now.spot c.args.limit c.in-OutOfMemory.places c.search.new.maze.spot f.0 f.1

pub returns-in-Never-clause-found : goal.returns-in-Never-clause-found
returns-in-Never-clause-found g c =
    let f = rw c.in-Never.is at c.search.ensures.found in
    found_never c.args.orders.now.rules c.args.orders.now.spot c.args.limit c.in-Never.places c.search.new.maze.spot f.0 c.requires.here f.1

-- there are more places than may be kept
pub find_near-requires : goal.find_near-requires
find_near-requires g c =
    let f = rw c.in-Unsettled.is at c.search.ensures.found in
    let back = rw c.in-Unsettled.is at c.search.ensures.made in
    rw (c.search.ensures.rules, back.0)
    record { more = found_more c.args.orders.now.rules c.args.orders.now.spot c.args.limit c.search.new.maze.spot f }

pub returns-in-Unsettled-clause-found : goal.returns-in-Unsettled-clause-found
returns-in-Unsettled-clause-found g c = grind arith

pub returns-in-TooDeep-clause-found : goal.returns-in-TooDeep-clause-found
returns-in-TooDeep-clause-found g c =
    let f = rw c.in-TooDeep.is at c.search.ensures.found in
    found_deep c.args.orders.now.rules c.args.orders.now.spot c.args.limit c.search.new.maze.spot c.search.new.maze.spot f
