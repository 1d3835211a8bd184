use Rattle.uv_inquiry.proofs.Names.{sym, ◌∙◌}
use Rattle.uv_inquiry.proofs.Ops.{line_wanted, none_wanted}
use Rattle.uv_inquiry.proofs.repeats.in_callback.Goals as goal

pub returns-clause-yes : goal.returns-clause-yes
returns-clause-yes c = λ e.
    line_wanted c.args.script.now c.args.wanted c.args.kind c.args.name c.lines_in.result.now c.lines_in.ensures (sym c.in_lines.ensures ∙ e)

pub returns-clause-no : goal.returns-clause-no
returns-clause-no c = λ e.
    none_wanted c.args.script.now c.args.wanted c.args.kind c.args.name c.lines_in.result.now c.lines_in.ensures (sym c.in_lines.ensures ∙ e)
