use Rattle.uv_sections.proofs.beginning.refresh_in.Goals as goal

pub returns-in-Default-clause-stands : goal.returns-in-Default-clause-stands
returns-in-Default-clause-stands c s h = rw (c.in-V145.is, c.in-Default.is) (c.refresh.ensures.stands s h)
