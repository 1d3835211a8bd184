use Rattle.uv_script.proofs.ProofNames.{subst, rules, IsReadScript}
use Rattle.uv_script.proofs.Kept.{workers_kept}
use Rattle.uv_script.proofs.script.Script.set_workers.Goals as goal

pub invariant_of-self : goal.invariant_of-self
invariant_of-self c =
    let is = subst (IsReadScript c.self.inside.lines) c.self.view_is c.self.invariant in
    subst (IsReadScript c.self.inside.lines) (search rules)
    (workers_kept c.self.inside.lines c.args.workers c.args.self.now c.requires.within is)
