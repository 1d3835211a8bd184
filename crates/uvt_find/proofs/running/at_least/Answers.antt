use Rattle.std.proofs.Common.{ap}
use Rattle.uv_asking.specs.Asked.{asked_in}
use Rattle.uv_find.specs.Orders.{Rules}
use Rattle.uv_find.specs.Questions.{place_answers}
use Rattle.uvt_find.proofs.Ending.{tells_at_least}
use Rattle.uvt_find.proofs.running.at_least.Goals as goal

pub find_any-requires : goal.find_any-requires
find_any-requires g c = record {
  here = ap (λ (r : Rules). place_answers r c.args.orders.now.spot.place r.question) c.requires.rules;
}

pub returns-in_ok-at_least_text-in-Found-clause-told : goal.returns-in_ok-at_least_text-in-Found-clause-told
returns-in_ok-at_least_text-in-Found-clause-told g c =
    let i = c.args.inquiry.now in
    let finds = rw c.in-Found.is at c.find_any.ensures.found in
    rw (c.in_ok-at_least_text-in-Found.ensures.text, c.steps.ensures, c.from.ensures)
    (tells_at_least i.script (asked_in i.asking) c.args.name c.args.ms c.requires.greatest c.requires.question c.args.late c.args.orders.now.rules
    c.args.orders.now.spot c.find_any.new.orders.spot c.requires.rules c.requires.spot
    c.work_makes_no_difference.ensures.answers c.in-Found.field-0 finds)
