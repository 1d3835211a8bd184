use Rattle.uv_run.proofs.Binding.{kept_bound}
use Rattle.uv_run.proofs.session.LiveSessionFollower.finish.Goals as goal

pub invariant_of-self : goal.invariant_of-self
invariant_of-self g c = kept_bound _ _ _ _ _ _ _ c.self.invariant c.finish.ensures.program c.finish.ensures.events c.finish.ensures.sends
