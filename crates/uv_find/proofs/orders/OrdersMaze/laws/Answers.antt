use Rattle.uv_find.proofs.Led.{spots_lead}
use Rattle.uv_find.proofs.Covering.{spots_alike, few_standing}
use Rattle.uv_find.proofs.Meeting.{room_standing, room_fewer, room_follows, room_same}
use Rattle.uv_find.proofs.AtOnce.{apart_meets}
use Rattle.uv_find.proofs.Covered.{covers_moves}
use Rattle.uv_find.proofs.orders.OrdersMaze.laws.Goals as goal

pub returns-clause-alike : goal.returns-clause-alike
returns-clause-alike g c = λ r s t is js e. spots_alike r s t is js.spot (few_standing r t js) e

pub returns-clause-leads : goal.returns-clause-leads
returns-clause-leads g c = spots_lead

pub returns-clause-room : goal.returns-clause-room
returns-clause-room g c = room_standing

pub returns-clause-fewer : goal.returns-clause-fewer
returns-clause-fewer g c = room_fewer

pub returns-clause-follows : goal.returns-clause-follows
returns-clause-follows g c = room_follows

pub returns-clause-same : goal.returns-clause-same
returns-clause-same g c = room_same

pub returns-clause-meet : goal.returns-clause-meet
returns-clause-meet g c = apart_meets

pub returns-clause-covers : goal.returns-clause-covers
returns-clause-covers g c = covers_moves c.names_change_places.ensures
