use Rattle.uv_state_key.proofs.Names.{◌<◌, ◌++◌, List, ℕ, length, ap, ◌∙◌, arith, Named, unbound, after, told_name, number_code, piece_there, piece_turn, list_end, by_of}
use Rattle.uv_state_key.specs.TaleKey.{told_code}
use Rattle.uv_state_key.proofs.Lengths.{counted}
use Rattle.uv_state_key.proofs.TaleCodes.{list_code_map}
use Rattle.uv_state_key.proofs.tale.push_told_names.Goals as goal

pub loop-number-preserved : goal.loop-number-preserved
loop-number-preserved g c =
    let p = g.M.Machine.program c.args.machine.now in
    let events = g.M.Machine.standing c.args.machine.now in
    let s = after p events in
    let code = λ (n : Named). told_code (told_name (by_of c.args.form) c.args.form.most s.arena.slots n) in
    let number = c.loop-number.number in
    let out = c.loop-number.out.items in
    let long = counted p c.script.result.now events c.names.result.now c.len-count.result c.script.ensures c.names.ensures.names
    c.names.ensures.whole c.len-count.ensures.len in
    let within : number < length s.names = omega (arith, c.loop-number-test.true, long) in
    c.in_ok-push_told.ensures
    ∙ ap (λ (n : Named). out ++ code n) c.named.ensures
    ∙ ap (λ t. out ++ t) (piece_there code s.names number unbound within)
    ∙ piece_turn code s.names number c.push_number.new.out.items out c.loop-number.invariant

pub returns : goal.returns
returns g c =
    let p = g.M.Machine.program c.args.machine.now in
    let events = g.M.Machine.standing c.args.machine.now in
    let s = after p events in
    let told = told_name (by_of c.args.form) c.args.form.most s.arena.slots in
    let code = λ (n : Named). told_code (told n) in
    let long = counted p c.script.result.now events c.names.result.now c.len-count.result c.script.ensures c.names.ensures.names
    c.names.ensures.whole c.len-count.ensures.len in
    list_end code s.names c.loop-number.number c.args.out.now.items c.push_number.new.out.items c.loop-number.out.items
    (omega (arith, c.loop-number-test.false, long))
    (c.in_ok-push_number.ensures ∙ ap (λ n. c.args.out.now.items ++ number_code n) long) c.loop-number.invariant
    ∙ ap (λ (bytes : List ℕ). c.args.out.now.items ++ bytes) (list_code_map told_code told s.names)
