use Rattle.uv_sections.proofs.timers.collect.Goals as goal

pub returns-in-Some-clause-goes : goal.returns-in-Some-clause-goes
returns-in-Some-clause-goes c = rw (c.nothing.ensures) (c.in-Some.ensures.goes c.args.script.now)
