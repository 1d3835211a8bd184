use Rattle.uv_requests.proofs.Names.{refl, arith}
use Rattle.uv_requests.proofs.Opened.{queue_done}
use Rattle.uv_requests.proofs.requests.Requests.queue.Goals as goal

pub overflow_add-count : goal.overflow_add-count
overflow_add-count g c =
    let put = rw (c.of.ensures, c.reopened.ensures) at c.in_ok-id.ensures.ok in
    let done = queue_done g.met.T.HoldsWork.gives_back c.requires refl put c.push_back.ensures.pushed in
    let fits = done.1 c.is_sound.ensures in omega (arith, fits, c.open_requests-count.ensures)

pub returns-clause-ok : goal.returns-clause-ok
returns-clause-ok g c =
    let put = rw (c.of.ensures, c.reopened.ensures) at c.in_ok-id.ensures.ok in
    let done = queue_done g.met.T.HoldsWork.gives_back c.requires refl put c.push_back.ensures.pushed in
    rw (c.set_count.ensures, c.open_requests-count.ensures) done.0
