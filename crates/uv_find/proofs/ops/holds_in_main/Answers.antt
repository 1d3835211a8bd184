use Rattle.uv_find.proofs.Names.{sym, ◌∙◌, list_all, test_of, of_main}
use Rattle.uv_find.proofs.Scans.{all_goes}
use Rattle.uv_find.proofs.ops.holds_in_main.Goals as goal

pub lines-preserved : goal.lines-preserved
lines-preserved c = all_goes (of_main (test_of c.args.test)) c.args.script.now.main c.lines.line c.in-Some.op
    (list_all (of_main (test_of c.args.test)) c.args.script.now.main) (sym c.main_op.ensures ∙ c.in-Some.is)
    (sym c.of_main.ensures ∙ c.if-not-of_main.false) c.lines.invariant
