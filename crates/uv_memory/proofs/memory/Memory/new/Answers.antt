use Rattle.uv_memory.proofs.Names.{ap}
use Rattle.uv_memory.proofs.Rows.{fresh_fit}
use Rattle.uv_memory.proofs.memory.Memory.new.Goals as goal

pub invariant_of-result : goal.invariant_of-result
invariant_of-result g c =
    fresh_fit _ c.args.slots c.args.last_generation c.args.workers (ap (λ a. a.image) c.in_ok-slots.ensures) c.in_ok-requests.ensures
    c.new-3.ensures (c.fresh_requests.ensures c.args.slots c.args.last_generation c.args.workers)

pub returns-clause-fit : goal.returns-clause-fit
returns-clause-fit g c =
    fresh_fit _ c.args.slots c.args.last_generation c.args.workers (ap (λ a. a.image) c.in_ok-slots.ensures) c.in_ok-requests.ensures
    c.new-3.ensures (c.fresh_requests.ensures c.args.slots c.args.last_generation c.args.workers)
