use Rattle.uv_requests.proofs.Names.{refl, ap, ◌∙◌, option_and_then, set_done}
use Rattle.uv_requests.proofs.Ending.{cancel_done}
use Rattle.uv_requests.proofs.requests.Requests.withdraw.Goals as goal

pub returns-clause-cancelled : goal.returns-clause-cancelled
returns-clause-cancelled g c =
    let H = g.T.HoldsWork in let K = g.met.T.HoldsWork in let un = c.unlink-unlinked.ensures.unlinked in
    let there = ap (option_and_then H.held_request) (un.slots.contents c.args.id) ∙ c.requires.found in
    let done = set_done H.held_request H.of_request K.only_that c.unlink-unlinked.new.self.image c.args.id c.args.request there _
    c.set.new.self.image c.of.result c.set.result c.set.ensures.none c.set.ensures.some in
    cancel_done c.is_sound.ensures c.requires.work c.requires.found c.requires.listed un (record {
      gives_back = K.gives_back;
      opened = c.requires.opened;
      closed = refl;
      told = tt;
      set = rw (c.of.ensures, c.cancelled.ensures) at done;
      pushed = c.push_back.ensures.pushed;
    })
