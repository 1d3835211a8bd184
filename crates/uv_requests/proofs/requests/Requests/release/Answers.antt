use Rattle.uv_requests.proofs.Names.{◌≡◌, ap, ◌∙◌, option_and_then, content_is}
use Rattle.uv_requests.proofs.Collected.{collect_done}
use Rattle.uv_requests.proofs.requests.Requests.release.Goals as goal

pub returns-clause-collected : goal.returns-clause-collected
returns-clause-collected g c =
    let H = g.T.HoldsWork in let un = c.unlink-unlinked.ensures.unlinked in
    let is = content_is H.held_request H.of_request g.met.T.HoldsWork.only_that c.unlink-unlinked.new.self.image c.args.id c.args.request
    (ap (option_and_then H.held_request) (un.slots.contents c.args.id) ∙ c.requires.found) in
    let same : c.in-Some.field-0-0 ≡ H.of_request c.args.request = cc (c.in-Some.ensures.some.was, is) in
    rw (c.set_count.ensures, c.open_requests-count.ensures)
    (collect_done c.requires.work c.requires.found c.requires.first un (rw same at c.in-Some.ensures.some))
