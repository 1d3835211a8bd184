use Rattle.uv_inquiry.proofs.Names.{ℕ, sym, ◌∙◌, arith, NoneAt}
use Rattle.uv_ids.specs.declared.seen.Site.TheVariants as site
use Rattle.uv_inquiry.proofs.Ops.{main_wanted, ends_at, none_in_main}
use Rattle.uv_inquiry.proofs.repeats.in_main.Goals as goal

pub returns-then-is_main-clause-yes : goal.returns-then-is_main-clause-yes
returns-then-is_main-clause-yes c = λ _.
    main_wanted c.args.script.now c.args.wanted c.loop-line.line c.in-Some.op (sym c.main_op.ensures ∙ c.in-Some.is)
    (sym c.is_main.ensures ∙ c.if-is_main.true)

pub returns-in_default-clause-no : goal.returns-in_default-clause-no
returns-in_default-clause-no c = λ _.
    none_in_main c.args.script.now c.args.wanted c.loop-line.line
    (ends_at c.args.script.now.main c.loop-line.line (sym c.main_op.ensures ∙ c.in_default.is)) c.loop-line.invariant

pub loop-line-preserved : goal.loop-line-preserved
loop-line-preserved c = grind arith

pub returns-clause-no : goal.returns-clause-no
returns-clause-no c = λ _.
    none_in_main c.args.script.now c.args.wanted c.loop-line.line (omega (arith, c.requires.whole.few, c.loop-line-test.false)) c.loop-line.invariant
