use Rattle.uv_live.proofs.Names.{◌≡◌, ◌+◌, ℕ, ◌∙◌, subst, arith, threads_below}
use Rattle.uv_live.proofs.Own.{own_named}
use Rattle.uv_live.proofs.outside.Outside.start.Goals as goal

pub returns-clause-threads : goal.returns-clause-threads
returns-clause-threads g c =
    let all : c.threads.thread ≡ 64 = omega (arith, c.threads.auto.thread-end, c.threads-test.false) in
    subst (λ (n : ℕ). c.threads.self.seat.knows.splits ≡ c.args.self.now.seat.knows.splits + threads_below n c.args.lines.now) all
    c.threads.invariant.threads

pub start_one-requires-clause-known : goal.start_one-requires-clause-known
start_one-requires-clause-known g c =
    let loop = c.threads in
    let own = c.take-names.ensures.names ∙ loop.invariant.own.names loop.thread (omega arith) c.threads-test.true in
    λ lives live. own_named _ loop.thread c.args.lines.now c.take-names.result.items own (rw loop.invariant.board c.requires)
