use Rattle.uv_script.proofs.ProofNames.{rules, refl, subst, Declares, IsReadScript}
use Rattle.uv_script.proofs.Kept.{counted_more}
use Rattle.uv_script.proofs.script.Script.declare.Goals as goal

pub invariant_of-self-2 : goal.invariant_of-self-2
invariant_of-self-2 c =
    let is = subst (IsReadScript c.self.inside.lines) c.self.view_is c.self.invariant in
    counted_more c.self.inside.lines c.args.self.now _ (Declares c.args.name.now) refl is c.requires.said c.requires.room (search rules)
