use Rattle.uv_script.proofs.ProofNames.{rules, refl, subst, InMain, IsReadScript}
use Rattle.uv_script.proofs.Kept.{counted_more}
use Rattle.uv_script.proofs.script.Script.push_main.Goals as goal

pub invariant_of-self-2 : goal.invariant_of-self-2
invariant_of-self-2 c =
    let is = subst (IsReadScript c.self.inside.lines) c.self.view_is c.self.invariant in
    counted_more c.self.inside.lines c.args.self.now _ (InMain c.args.op) refl is c.requires.said c.requires.room (search rules)
