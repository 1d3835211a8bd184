use Rattle.uv_engine.proofs.Names.{arith, ◌∙◌, common_steps}
use Rattle.uv_engine.proofs.Text.{wrote_more, beginning}
use Rattle.uv_engine.proofs.sink.write_text.Goals as goal

pub loop-at-preserved : goal.loop-at-preserved
loop-at-preserved g c = grind (arith, common_steps, wrote_more)

pub returns-in-Err-clause-text : goal.returns-in-Err-clause-text
returns-in-Err-clause-text g c = λ t. beginning c.loop-at.at (c.in-Err.ensures.kept t ∙ c.loop-at.invariant.so_far t)

pub returns-in-Ok-eq0-clause-text : goal.returns-in-Ok-eq0-clause-text
returns-in-Ok-eq0-clause-text g c = λ t. beginning _
    (wrote_more _ c.args.text.now _ _ (c.loop-at.invariant.so_far t) (c.in-Ok-eq0.ensures.written t))

pub returns-in-Err-clause-writer : goal.returns-in-Err-clause-writer
returns-in-Err-clause-writer g c = grind arith

pub returns-in-Ok-eq0-clause-writer : goal.returns-in-Ok-eq0-clause-writer
returns-in-Ok-eq0-clause-writer g c = grind arith
