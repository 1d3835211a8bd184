use Rattle.uv_slots.proofs.Keeping as keeping
use Rattle.uv_slots.proofs.buried.burying_stays.Goals as goal

pub returns-clause-reached : goal.returns-clause-reached
returns-clause-reached c = keeping.after_can

pub returns-clause-goes_on : goal.returns-clause-goes_on
returns-clause-goes_on c = keeping.next_can

pub returns-clause-buries : goal.returns-clause-buries
returns-clause-buries c = keeping.buried_can
