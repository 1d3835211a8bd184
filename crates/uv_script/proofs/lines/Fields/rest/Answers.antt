use Rattle.uv_script.proofs.Cuts.{rest_left}
use Rattle.uv_script.proofs.lines.Fields.rest.Goals as goal

pub returns : goal.returns
returns c = rest_left c.self.inside.rest c.args.self c.self.view_is
