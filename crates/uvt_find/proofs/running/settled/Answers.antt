use Rattle.uv_asking.specs.Asked.{asked_in}
use Rattle.uvt_find.proofs.Ending.{tells_latest}
use Rattle.uvt_find.proofs.running.settled.Goals as goal

pub returns-in_ok-latest_text-in-Found-clause-told : goal.returns-in_ok-latest_text-in-Found-clause-told
returns-in_ok-latest_text-in-Found-clause-told g c =
    let i = c.args.inquiry.now in
    let finds = rw c.in-Found.is at c.find.ensures.found in
    rw (c.in_ok-latest_text-in-Found.ensures.text, c.steps.ensures)
    (tells_latest i.script (asked_in i.asking) c.args.name c.args.ms c.requires.greatest c.requires.question c.args.late c.args.orders.now.rules
    c.args.orders.now.spot c.find.new.orders.spot c.requires.rules c.requires.spot
    c.work_makes_no_difference.ensures.answers c.work_makes_no_difference.ensures.never c.in-Found.field-0 c.args.kept finds c.requires.risen)
