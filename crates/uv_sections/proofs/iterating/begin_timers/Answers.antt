use Rattle.uv_sections.proofs.Names.{refl}
use Rattle.uv_sections.proofs.iterating.begin_timers.Goals as goal

pub returns-clause-goes : goal.returns-clause-goes
returns-clause-goes c s h reached = (_, rw (c.section.ensures) refl, c.stand_in.ensures.stands _ (c.set_for_timers.ensures.stands s h))
