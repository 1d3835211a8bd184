use Rattle.uv_stands.proofs.ProofNames.{◌∙◌, arith, image_of}
use Rattle.uv_stands.proofs.Living.{alive_handles, alive_requests, alive_closing}
use Rattle.uv_stands.proofs.queries.is_alive.Goals as goal

pub returns-then-active_referenced-gt0 : goal.returns-then-active_referenced-gt0
returns-then-active_referenced-gt0 c s h r =
    alive_handles (image_of c.args.memory.now) s c.is_fit.ensures h r (omega (arith, c.if-active_referenced-gt0.true, c.active_referenced.ensures))

pub returns-then-open_requests-gt0 : goal.returns-then-open_requests-gt0
returns-then-open_requests-gt0 c s h r =
    alive_requests (image_of c.args.memory.now) s c.is_fit.ensures h r
    (omega (arith, c.if-open_requests-gt0.true, rw c.requests.ensures at c.open_requests.ensures))

pub returns : goal.returns
returns c s h r =
    alive_closing (image_of c.args.memory.now) s c.is_fit.ensures h r (omega (arith, c.if-active_referenced-gt0.false, c.active_referenced.ensures))
    (omega (arith, c.if-open_requests-gt0.false, rw c.requests.ensures at c.open_requests.ensures))
    ∙ c.has_closing.ensures s h r
