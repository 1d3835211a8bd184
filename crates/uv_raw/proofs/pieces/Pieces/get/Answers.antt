use Rattle.uv_raw.proofs.Names.{◌∙◌}
use Rattle.uv_raw.proofs.Found.{within_table, there, within_piece}
use Rattle.uv_raw.proofs.pieces.Pieces.get.Goals as goal

pub index-requires : goal.index-requires
index-requires g c = within_table c.self.inside c.args.self.now c.self.view_is c.self.invariant c.args.index c.requires

pub get-requires : goal.get-requires
get-requires g c =
    within_piece c.self.inside c.args.self.now c.self.view_is c.self.invariant c.args.index c.requires c.index.result.now c.index.ensures

pub returns : goal.returns
returns g c =
    there c.self.inside c.args.self.now c.self.view_is c.self.invariant c.args.index c.requires c.index.result.now c.index.ensures
    ∙ c.get.ensures
