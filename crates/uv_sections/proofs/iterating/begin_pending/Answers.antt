use Rattle.uv_sections.proofs.Names.{refl}
use Rattle.uv_sections.proofs.iterating.begin_pending.Goals as goal

pub returns-clause-goes : goal.returns-clause-goes
returns-clause-goes c s h reached = (_, rw (c.section.ensures) refl, c.stand_in.ensures.stands _ (c.note_idle.ensures.stands s h reached))
