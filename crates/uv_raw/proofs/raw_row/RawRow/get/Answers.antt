use Rattle.uv_raw.proofs.Rows.{read_block}
use Rattle.uv_raw.proofs.raw_row.RawRow.get.Goals as goal

pub get-requires : goal.get-requires
get-requires g c = let r = read_block c.self.inside c.args.self.now c.self.view_is c.self.invariant c.args.index c.requires in (r.0, r.1)

pub returns : goal.returns
returns g c = let r = read_block c.self.inside c.args.self.now c.self.view_is c.self.invariant c.args.index c.requires in let at = r.1 in
    let is = r.2 in let got = c.get.ensures in cc
