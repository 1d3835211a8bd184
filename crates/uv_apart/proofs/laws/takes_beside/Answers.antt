use Rattle.uv_apart.proofs.Beside as beside
use Rattle.uv_apart.proofs.laws.takes_beside.Goals as goal

pub returns-clause-tick : goal.returns-clause-tick
returns-clause-tick c = beside.takes_tick

pub returns-clause-finish : goal.returns-clause-finish
returns-clause-finish c = beside.takes_finish

pub returns-clause-send : goal.returns-clause-send
returns-clause-send c = beside.takes_send

pub returns-clause-io : goal.returns-clause-io
returns-clause-io c = beside.takes_io
