use Rattle.uv_requests.proofs.Names.{slice_get_within}
use Rattle.uv_requests.proofs.Opened.{take_done}
use Rattle.uv_requests.proofs.requests.Requests.start_work.Goals as goal

pub returns-clause-taken : goal.returns-clause-taken
returns-clause-taken g c =
    rw c.set_running.ensures (take_done c.requires.work c.requires.idle c.requires.first c.unlink-unlinked.ensures.unlinked)

pub set_running-requires : goal.set_running-requires
set_running-requires g c = slice_get_within _ _ _ c.requires.idle
