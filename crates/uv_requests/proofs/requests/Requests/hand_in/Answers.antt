use Rattle.uv_requests.proofs.Names.{sym, ap, ◌∙◌, Job, text_of, set_done, slice_get_within}
use Rattle.uv_work.specs.Digests.{digest_of}
use Rattle.uv_requests.proofs.Ending.{finish_done}
use Rattle.uv_requests.proofs.requests.Requests.hand_in.Goals as goal

pub returns-clause-finished : goal.returns-clause-finished
returns-clause-finished g c =
    let H = g.T.HoldsWork in let K = g.met.T.HoldsWork in
    let done = set_done H.held_request H.of_request K.only_that c.args.slots.now.image c.args.id c.args.request c.requires.found _
    c.set.new.self.image c.of.result c.set.result c.set.ensures.none c.set.ensures.some in
    rw c.set_running.ensures
    (finish_done K.gives_back c.is_sound.ensures c.requires.work c.requires.runs c.requires.found (rw (c.of.ensures, c.finished.ensures) at done)
    c.push_back.ensures.pushed c.requires.job
    (c.args.work.is_digest ∙ ap (λ (job : Job). digest_of job.task.rounds (text_of job.task)) (sym c.requires.job)))

pub set_running-requires : goal.set_running-requires
set_running-requires g c = slice_get_within _ _ _ c.requires.runs
