use Rattle.uv_asking.specs.Asked.{asked_in}
use Rattle.uvt_find.proofs.Ending.{tells_found, tells_never, tells_unsettled, tells_deep, tells_no_memory}
use Rattle.uvt_find.proofs.running.search.Goals as goal

pub returns-in_ok-found_text-in-Found-clause-told : goal.returns-in_ok-found_text-in-Found-clause-told
returns-in_ok-found_text-in-Found-clause-told g c =
    let i = c.args.inquiry.now in
    let finds = rw c.in-Found.is at c.find.ensures.found in
    rw (c.in_ok-found_text-in-Found.ensures.text, c.steps.ensures)
    (tells_found i.script (asked_in i.asking) c.args.orders.now.rules c.args.orders.now.spot c.find.new.orders.spot c.requires.rules c.requires.spot
    c.work_makes_no_difference.ensures.answers c.in-Found.states finds)

pub returns-in_ok-never_text-in-Never-clause-told : goal.returns-in_ok-never_text-in-Never-clause-told
returns-in_ok-never_text-in-Never-clause-told g c =
    let i = c.args.inquiry.now in
    let finds = rw c.in-Never.is at c.find.ensures.found in
    rw c.in_ok-never_text-in-Never.ensures.text
    (tells_never i.script (asked_in i.asking) c.args.orders.now.rules c.args.orders.now.spot c.find.new.orders.spot c.requires.rules c.requires.spot
    c.work_makes_no_difference.ensures.never c.in-Never.states finds)

pub returns-in_ok-unsettled_text-in-Unsettled-clause-told : goal.returns-in_ok-unsettled_text-in-Unsettled-clause-told
returns-in_ok-unsettled_text-in-Unsettled-clause-told g c =
    let i = c.args.inquiry.now in
    let finds = rw c.in-Unsettled.is at c.find.ensures.found in
    rw (c.in_ok-unsettled_text-in-Unsettled.ensures.text, c.from.ensures)
    (tells_unsettled i.script (asked_in i.asking) c.args.orders.now.rules c.args.orders.now.spot c.find.new.orders.spot c.requires.rules
    c.requires.spot
    finds)

pub returns-in_ok-too_deep_text-in-TooDeep-clause-told : goal.returns-in_ok-too_deep_text-in-TooDeep-clause-told
returns-in_ok-too_deep_text-in-TooDeep-clause-told g c =
    let i = c.args.inquiry.now in
    let finds = rw c.in-TooDeep.is at c.find.ensures.found in
    rw c.in_ok-too_deep_text-in-TooDeep.ensures.text
    (tells_deep i.script (asked_in i.asking) c.args.orders.now.rules c.args.orders.now.spot c.find.new.orders.spot c.requires.rules c.requires.spot
    c.work_makes_no_difference.ensures.depth finds)

pub returns-in_ok-out_of_memory_text-in-OutOfMemory-clause-told : goal.returns-in_ok-out_of_memory_text-in-OutOfMemory-clause-told
returns-in_ok-out_of_memory_text-in-OutOfMemory-clause-told g c =
    let i = c.args.inquiry.now in
    let finds = rw c.in-OutOfMemory.is at c.find.ensures.found in
    rw c.in_ok-out_of_memory_text-in-OutOfMemory.ensures.text
    (tells_no_memory i.script (asked_in i.asking) c.args.orders.now.rules c.args.orders.now.spot c.find.new.orders.spot c.requires.rules
    c.requires.spot c.in-OutOfMemory.states finds)
