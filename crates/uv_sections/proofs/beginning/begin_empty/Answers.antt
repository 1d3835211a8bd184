use Rattle.uv_sections.proofs.Names.{refl, sym, subst, Place, image_of, MemoryParts, StandsFor}
use Rattle.uv_sections.proofs.beginning.begin_empty.Goals as goal

pub returns-clause-goes : goal.returns-clause-goes
returns-clause-goes c s h reached = (
  _,
  rw (c.section.ensures) refl,
  c.stand_in.ensures.stands _ (subst (λ (m : MemoryParts Place). StandsFor (image_of m) s)
      (sym c.pass.ensures.passed) h),
)
