use Rattle.uv_live.proofs.Names.{ap, ◌∙◌, set, map-set}
use Rattle.uv_live.proofs.outside.OwnNames.take.Goals as goal

pub returns-clause-rest : goal.returns-clause-rest
returns-clause-rest c =
    map-set (λ v. v.items) c.self.inside.lists.items c.args.thread c.replace.new.dest
    ∙ (λ j. set (c.self.view_is j) c.args.thread ((ap (λ v. v.items) c.replace.ensures.after ∙ c.new-none.ensures.items) j))
