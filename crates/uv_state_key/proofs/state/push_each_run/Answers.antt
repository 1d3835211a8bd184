use Rattle.uv_state_key.proofs.Names.{◌<◌, ◌≤◌, ◌++◌, Option, length, ap, ◌∙◌, arith, Id, after, number_code, option_code, list_end, piece_of_option, piece_turn, id_code}
use Rattle.uv_state_key.proofs.state.push_each_run.Goals as goal

pub loop-worker-preserved : goal.loop-worker-preserved
loop-worker-preserved g c =
    let running = (after (g.M.Machine.program c.args.machine.now) (g.M.Machine.standing c.args.machine.now)).running in
    let worker = c.loop-worker.worker in
    let out = c.loop-worker.out.items in
    let code = λ (run : Option Id). option_code id_code run in
    let within : worker < length running = omega (arith, c.loop-worker-test.true, c.workers-worker-end.ensures) in
    c.in_ok-push_id_option.ensures ∙ ap (λ (run : Option Id). out ++ option_code id_code run) c.run_by.ensures
    ∙ ap (λ t. out ++ t) (piece_of_option code running worker within)
    ∙ piece_turn code running worker c.push_number.new.out.items out c.loop-worker.invariant

pub returns : goal.returns
returns g c =
    let running = (after (g.M.Machine.program c.args.machine.now) (g.M.Machine.standing c.args.machine.now)).running in
    let old = c.args.out.now.items in
    let code = λ (run : Option Id). option_code id_code run in
    let ended : length running ≤ c.loop-worker.worker = omega (arith, c.loop-worker-test.false, c.workers-worker-end.ensures) in
    list_end code running c.loop-worker.worker old c.push_number.new.out.items c.loop-worker.out.items ended
    (c.in_ok-push_number.ensures ∙ ap (λ n. old ++ number_code n) c.workers.ensures) c.loop-worker.invariant
