use Rattle.uv_find.proofs.Names.{◌≤◌, ◌∙◌, length, take, take_all, ap, ap₂, arith, option_map, length-map, length-take-le, key_at, keys_run, rank_in}
use Rattle.uv_model.specs.After.{after}
use Rattle.uv_find.proofs.Ranking.{rank_next, rank_most, one_most}
use Rattle.uv_find.proofs.ranks.rank_in.Goals as goal

pub overflow_add-rank : goal.overflow_add-rank
overflow_add-rank g c = grind (arith, length-map, option_map, length, rank_most, take, length-take-le, one_most)

pub workers-preserved : goal.workers-preserved
workers-preserved g c = grind (arith, length-map, option_map, length, ap₂, rank_next)

pub returns : goal.returns
returns g c =
    let m = g.M.Machine in
    let s = after (m.program c.args.machine.now) (m.standing c.args.machine.now) in
    let same = length-map s.running (option_map (key_at s.arena.slots)) in
    let ended : length (keys_run s) ≤ c.workers.worker = omega (arith, same, c.workers-test.false, c.workers-worker-end.ensures) in
    c.workers.invariant ∙ ap (λ xs. rank_in xs c.args.key) (take_all c.workers.worker (keys_run s) ended)
