use Rattle.uv_state_key.proofs.Names.{◌≡◌, ◌+◌, ◌<◌, suc, length, ap, ◌∙◌, arith, after, holds_in}
use Rattle.uv_state_key.proofs.tale.held_by.Goals as goal

pub loop-number-preserved : goal.loop-number-preserved
loop-number-preserved g c =
    let slots = (after (g.M.Machine.program c.args.machine.now) (g.M.Machine.standing c.args.machine.now)).arena.slots in
    let number = c.loop-number.number in
    let next : suc number ≡ number + 1 = omega arith in
    let below : number < length slots = omega (arith, c.loop-number-test.true, c.used-number-end.ensures) in
    grind arith

pub returns : goal.returns
returns g c =
    let slots = (after (g.M.Machine.program c.args.machine.now) (g.M.Machine.standing c.args.machine.now)).arena.slots in
    let ended : c.loop-number.number ≡ length slots =
    omega (arith, c.loop-number-test.false, c.used-number-end.ensures, c.loop-number.invariant.within) in
    c.loop-number.invariant.holds ∙ ap (λ n. holds_in slots n) ended
