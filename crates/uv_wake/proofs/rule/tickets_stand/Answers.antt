use Rattle.uv_wake.proofs.Names.{each_stands}
use Rattle.uv_wake.proofs.rule.tickets_stand.Goals as goal

pub returns : goal.returns
returns c = each_stands
