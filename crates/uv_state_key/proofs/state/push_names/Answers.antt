use Rattle.uv_state_key.proofs.Names.{◌<◌, ◌++◌, length, ap, ◌∙◌, arith, Named, unbound, after, number_code, piece_there, piece_turn, list_end}
use Rattle.uv_state_key.specs.Key.{named_code}
use Rattle.uv_state_key.proofs.Lengths.{counted}
use Rattle.uv_state_key.proofs.state.push_names.Goals as goal

pub loop-number-preserved : goal.loop-number-preserved
loop-number-preserved g c =
    let p = g.M.Machine.program c.args.machine.now in
    let events = g.M.Machine.standing c.args.machine.now in
    let names = (after p events).names in
    let number = c.loop-number.number in
    let out = c.loop-number.out.items in
    let long = counted p c.script.result.now events c.names.result.now c.len-count.result c.script.ensures c.names.ensures.names
    c.names.ensures.whole c.len-count.ensures.len in
    let within : number < length names = omega (arith, c.loop-number-test.true, long) in
    c.in_ok-push_named.ensures
    ∙ ap (λ (n : Named). out ++ named_code n) c.named.ensures
    ∙ ap (λ t. out ++ t) (piece_there named_code names number unbound within)
    ∙ piece_turn named_code names number c.push_number.new.out.items out c.loop-number.invariant

pub returns : goal.returns
returns g c =
    let p = g.M.Machine.program c.args.machine.now in
    let events = g.M.Machine.standing c.args.machine.now in
    let long = counted p c.script.result.now events c.names.result.now c.len-count.result c.script.ensures c.names.ensures.names
    c.names.ensures.whole c.len-count.ensures.len in
    list_end named_code (after p events).names c.loop-number.number c.args.out.now.items c.push_number.new.out.items c.loop-number.out.items
    (omega (arith, c.loop-number-test.false, long))
    (c.in_ok-push_number.ensures ∙ ap (λ n. c.args.out.now.items ++ number_code n) long) c.loop-number.invariant
