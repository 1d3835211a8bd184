use Rattle.uv_asking.specs.Asked.{asked_in}
use Rattle.uvt_find.proofs.Ending.{never_late}
use Rattle.uvt_find.proofs.running.called_never.Goals as goal

pub returns-in_ok-text-in-Some-clause-told : goal.returns-in_ok-text-in-Some-clause-told
returns-in_ok-text-in-Some-clause-told c =
    let i = c.args.inquiry.now in
    rw c.in_ok-text-in-Some.ensures.text
    (never_late i.script (asked_in i.asking) c.args.name c.args.ms c.requires.greatest c.requires.question
    c.work_makes_no_difference.ensures.never c.in-Some.kept
    (rw (c.requires.none, c.in-Some.is) at c.requires.risen))
