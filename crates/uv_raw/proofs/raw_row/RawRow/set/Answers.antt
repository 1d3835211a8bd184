use Rattle.uv_raw.proofs.Names.{refl}
use Rattle.uv_raw.proofs.Rows.{read_block, set_block}
use Rattle.uv_raw.proofs.raw_row.RawRow.set.Goals as goal

pub get-old-requires : goal.get-old-requires
get-old-requires g c = let r = read_block c.self.inside c.args.self.now c.self.view_is c.self.invariant c.args.index c.requires in (r.0, r.1)

pub invariant_of-self : goal.invariant_of-self
invariant_of-self g c = (set_block c.self.inside c.args.self.now c.self.view_is c.self.invariant c.args.index c.args.item _ c.requires
    (c.put.ensures, refl, refl)).0

pub returns-clause-old : goal.returns-clause-old
returns-clause-old g c = let r = read_block c.self.inside c.args.self.now c.self.view_is c.self.invariant c.args.index c.requires in
    let at = r.1 in let is = r.2 in let got = c.get-old.ensures in cc

pub returns-clause-new : goal.returns-clause-new
returns-clause-new g c = (set_block c.self.inside c.args.self.now c.self.view_is c.self.invariant c.args.index c.args.item (record {
  room =
      c.put.new.self;
  capacity = c.self.inside.capacity;
  len = c.self.inside.len;
  alloc = c.self.inside.alloc;
}) c.requires (
  c.put.ensures,
  refl,
  refl,
)).1
