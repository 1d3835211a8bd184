use Rattle.uv_run.proofs.Names.{◌≡◌, ◌∙◌, ◌+◌, ◌-◌, ◌++◌, ℕ, ap, ap₂, sym, subst, length, List, Some, arith, Event, PoolEvent, Program, events_in, slice_get, seen_by}
use Rattle.uv_run.proofs.Steps.{events_step, all_events, seen_within}
use Rattle.uv_run.proofs.session.log_of.Goals as goal

pub steps-preserved : goal.steps-preserved
steps-preserved g c =
    let session = c.args.session.now in
    let machine = c.machine-machine.ensures in
    let lines = seen_by session.program session.standing in
    let same : (c.steps.n + 1) - 1 ≡ c.steps.n = omega arith in
    let found = subst (λ (n : ℕ). slice_get (seen_by (g.M.Machine.program c.machine-machine.result.now)
    (g.M.Machine.standing c.machine-machine.result.now)) n ≡ Some c.seen.result) same c.seen.ensures in
    let here : slice_get lines c.steps.n ≡ Some c.seen.result =
    subst (λ (p : Program). slice_get (seen_by p session.standing) c.steps.n ≡ Some c.seen.result) machine.program
    (subst (λ (es : List Event). slice_get (seen_by (g.M.Machine.program c.machine-machine.result.now) es) c.steps.n ≡ Some c.seen.result)
    machine.steps found) in
    let within = seen_within session.program session.standing c.steps.n c.seen.result here in
    let old = c.in_ok-reserve.ensures.events ∙ c.steps.invariant in
    c.push_line.ensures ∙ (ap₂ (λ (xs : List PoolEvent) (p : Program). xs ++ events_in p c.seen.result) old (c.script.ensures ∙ machine.program)
    ∙ sym (events_step session.program lines c.steps.n c.seen.result here within))

pub returns-clause-ok : goal.returns-clause-ok
returns-clause-ok g c =
    let session = c.args.session.now in
    let long = c.len-n-end.ensures ∙ ap (λ (es : List Event). length es) c.machine-machine.ensures.steps in
    c.steps.invariant ∙ all_events session.program session.standing c.steps.n (omega (arith, long, c.steps-test.false))
