use Rattle.uv_loop.proofs.Names.{refl, sym, subst, Place, image_of, MemoryParts, StandsFor, recorded_returns, extended_returns}
use Rattle.uv_loop.proofs.bodies.leave_body.Goals as goal

pub returns-clause-turns : goal.returns-clause-turns
returns-clause-turns c = λ p body. (
  extended_returns (recorded_returns c.pass.ensures.recorded) c.stand_at.ensures.extended,
  λ s h reached. (
    _,
    refl,
    subst (λ q. StandsFor (image_of c.stand_at.new.memory) (record s { place = q })) c.between-place.ensures
        (c.stand_at.ensures.stands _ (subst (λ (m : MemoryParts Place). StandsFor (image_of m) s) (sym c.pass.ensures.passed) h)),
  ),
)
