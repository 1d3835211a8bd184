use Rattle.uv_state_key.proofs.Names.{◌≡◌, ◌+◌, ◌<◌, ◌≤◌, ◌++◌, suc, length, ap, ◌∙◌, arith, after, number_code, list_end, piece_turn, holds_in}
use Rattle.uv_state_key.specs.Key.{slot_code}
use Rattle.uv_state_key.proofs.state.push_slots.Goals as goal

pub loop-number-preserved : goal.loop-number-preserved
loop-number-preserved g c =
    let slots = (after (g.M.Machine.program c.args.machine.now) (g.M.Machine.standing c.args.machine.now)).arena.slots in
    let number = c.loop-number.number in
    let next : suc number ≡ number + 1 = omega arith in
    let below : number < length slots = omega (arith, c.loop-number-test.true, c.used-number-end.ensures) in
    grind (arith, piece_turn)

pub returns-clause-items : goal.returns-clause-items
returns-clause-items g c =
    let slots = (after (g.M.Machine.program c.args.machine.now) (g.M.Machine.standing c.args.machine.now)).arena.slots in
    let old = c.args.out.now.items in
    let ended : length slots ≤ c.loop-number.number = omega (arith, c.loop-number-test.false, c.used-number-end.ensures) in
    list_end slot_code slots c.loop-number.number old c.push_number.new.out.items c.loop-number.out.items ended
    (c.in_ok-push_number.ensures ∙ ap (λ n. old ++ number_code n) (c.from.ensures ∙ c.used.ensures)) c.loop-number.invariant.items

pub returns-clause-holds : goal.returns-clause-holds
returns-clause-holds g c =
    let slots = (after (g.M.Machine.program c.args.machine.now) (g.M.Machine.standing c.args.machine.now)).arena.slots in
    let all : c.loop-number.number ≡ length slots =
    omega (arith, c.loop-number-test.false, c.used-number-end.ensures, c.loop-number.invariant.within) in
    c.loop-number.invariant.holds ∙ ap (λ n. holds_in slots n) all
