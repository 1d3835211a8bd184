use Rattle.uv_script.proofs.ProofNames.{err_from_is_err_and, ◌≡◌, ◌<◌, length, ap, refl, arith}
use Rattle.uv_script.proofs.Texts.{callbacks_turn, callbacks_end}
use Rattle.uv_script.proofs.Writing.{none_written, whole_is_cut, callbacks_cut}
use Rattle.uv_script.proofs.script.Script.push_callbacks.Goals as goal

pub loop-number-init : goal.loop-number-init
loop-number-init c = record { all = refl; kept = none_written _ _ _ refl }

pub returns-in_err-push_callbacks_of : goal.returns-in_err-push_callbacks_of
returns-in_err-push_callbacks_of c =
    let loop = c.loop-number in
    let within : loop.number < length c.args.self.now.names = omega (arith, c.len-number-end.ensures.len, ap length c.names.ensures.names) in
    let p = err_from_is_err_and c.from_residual.result c.from_residual.ensures.1 in
    rw (p.1) (callbacks_cut c.args.self.now loop.number _ _ _ within loop.invariant.all loop.invariant.kept c.in_err-push_callbacks_of.ensures)

pub loop-number-preserved : goal.loop-number-preserved
loop-number-preserved c =
    let loop = c.loop-number in
    let within : loop.number < length c.args.self.now.names = omega (arith, c.len-number-end.ensures.len, ap length c.names.ensures.names) in
    record {
      all = grind (arith, callbacks_turn);
      kept = callbacks_cut c.args.self.now loop.number _ _ _ within loop.invariant.all loop.invariant.kept
          (whole_is_cut _ _ _ c.in_ok-push_callbacks_of.ensures);
    }

pub returns : goal.returns
returns c =
    let p = c.args.self.now in
    let count = ap length c.names.ensures.names in
    let all : c.loop-number.number ≡ length p.names = omega (arith, c.loop-number-test.false, c.len-number-end.ensures.len, count) in
    callbacks_end p c.loop-number.number c.args.text.now.items c.loop-number.text.items all c.loop-number.invariant.all
