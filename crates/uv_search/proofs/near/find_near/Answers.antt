use Rattle.uv_search.proofs.Names.{refl, length-take-le}
use Rattle.uv_search.proofs.Nearby.{few_at_first}
use Rattle.uv_search.proofs.near.find_near.Goals as goal

pub returns-in-Some-clause-led : goal.returns-in-Some-clause-led
returns-in-Some-clause-led g c =
    let m = g.M.Maze in
    let r = m.rules c.args.maze.now in
    let keys = c.pass.new.round.seen in
    let looked = rw c.requires at c.in_ok-look_around.ensures.looked in
    let p = rw (c.in-Some.is, c.look_around.ensures.rules, looked.0, looked.1, c.as_slice.ensures.value) at c.in_ok-count.ensures.led in
    let few = p.4 (looked.2 (few_at_first (m.moves r) (m.next r) (m.key r) (m.IsDeep r) (m.place c.args.maze.now) c.args.limit)) in
    rw (c.truncate.ensures.items, length-take-le c.in-Some.count c.look_around.new.way.items p.0) (
      (
        rw c.len.ensures.len few.few,
        p.1,
        (keys, record { count = rw c.len.ensures.len refl; distinct = c.len.ensures.distinct; each = few.each }, p.2),
      ),
      p.3,
    )
