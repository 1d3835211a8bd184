use Rattle.uv_asking.proofs.Names.{sym, fields_of, offers, bounds, questions, calls}
use Rattle.uv_asking.proofs.Agreement.{grouped}
use Rattle.uv_asking.proofs.line.part.Goals as goal

pub returns : goal.returns
returns c =
    rw (c.or-3.ensures, c.or-2.ensures, c.or.ensures, c.offers.ensures, c.bounds.ensures, c.questions.ensures, c.calls.ensures)
    (sym (grouped c.args.names.now offers bounds questions calls (fields_of c.args.line.now)))
