use Rattle.uv_run.proofs.Binding.{kept_bound}
use Rattle.uv_run.proofs.session.LiveSessionFollower.take.Goals as goal

pub invariant_of-self : goal.invariant_of-self
invariant_of-self g c = kept_bound _ _ _ _ _ _ _ c.self.invariant c.take.ensures.program c.take.ensures.events c.take.ensures.sends
