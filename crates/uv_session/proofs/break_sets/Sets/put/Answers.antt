-- The sets have what the break is of.
use Rattle.uv_session.proofs.Matching.{name_put, code_put, section_put, with_poll}
use Rattle.uv_session.proofs.break_sets.Sets.put.Goals as goal

pub returns-in-Call-clause-ok : goal.returns-in-Call-clause-ok
returns-in-Call-clause-ok c = rw c.in-Call.is (name_put c.put_flag.result c.in-Call.name _ _ _ _ _ c.put_flag.ensures.ok)

pub returns-in-Code-clause-ok : goal.returns-in-Code-clause-ok
returns-in-Code-clause-ok c = rw c.in-Code.is (code_put c.put_code.result c.in-Code.code _ _ _ _ _ c.put_code.ensures.ok)

pub returns-in-Section-clause-ok : goal.returns-in-Section-clause-ok
returns-in-Section-clause-ok c = rw c.in-Section.is (section_put c.put_section.result c.in-Section.section _ _ _ _ _ c.put_section.ensures.ok)

pub returns-in-Poll-clause-ok : goal.returns-in-Poll-clause-ok
returns-in-Poll-clause-ok c = rw c.in-Poll.is (λ breaks h. with_poll breaks _ _ _ _ h)
