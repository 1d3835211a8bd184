use Rattle.uv_raw.proofs.Names.{refl, ◌+◌}
use Rattle.uv_raw.proofs.Rows.{push_block}
use Rattle.uv_raw.proofs.raw_row.RawRow.push.Goals as goal

pub invariant_of-self : goal.invariant_of-self
invariant_of-self g c = (push_block c.self.inside c.args.self.now c.self.view_is c.self.invariant c.args.item _ c.requires (
  c.put.ensures,
  refl,
  refl,
)).0

pub returns : goal.returns
returns g c = (push_block c.self.inside c.args.self.now c.self.view_is c.self.invariant c.args.item (record {
  room = c.put.new.self;
  capacity =
      c.self.inside.capacity;
  len = c.self.inside.len + 1;
  alloc = c.self.inside.alloc;
}) c.requires (c.put.ensures, refl, refl)).1
