use Rattle.uv_script.proofs.ProofNames.{◌≡◌, ◌<◌, length, Some, arith, refl, ap, sym, ◌∙◌, subst, slice_get, unwrap_or, slice_get-get_or, InCallback, IsReadScript, Program, no_callbacks, with_line}
use Rattle.uv_script.proofs.Kept.{counted_more}
use Rattle.uv_script.proofs.script.Script.push_callback.Goals as goal

pub invariant_of-self-2 : goal.invariant_of-self-2
invariant_of-self-2 c =
    let v = c.args.name in
    let s = InCallback c.args.kind v c.args.line in
    let is = subst (IsReadScript c.self.inside.lines) c.self.view_is c.self.invariant in
    let all = c.self.inside.callbacks.items in
    let now = c.index_mut-callbacks.result.now in
    let each = is.counted.whole.callbacks in
    let within : v.0 < length all = omega (arith, each, ap (λ (x : Program). length x.callbacks) c.self.view_is, c.requires.sound) in
    let there : slice_get all v.0 ≡ Some now = slice_get-get_or all v.0 now within ∙ ap Some (sym c.index_mut-callbacks.ensures.value) in
    let line : with_line c.args.kind (unwrap_or (slice_get all v.0) no_callbacks) c.args.line ≡ c.push.new.self =
    ap (λ o. with_line c.args.kind (unwrap_or o no_callbacks) c.args.line) there ∙ sym c.in_ok-push.ensures.ok in
    counted_more c.self.inside.lines c.args.self.now _ s refl is c.requires.said c.requires.room
    (grind arith)
