use Rattle.uv_raw.proofs.Names.{refl, ◌-◌}
use Rattle.uv_raw.proofs.Rows.{last_block, pop_block}
use Rattle.uv_raw.proofs.raw_row.RawRow.pop.Goals as goal

pub get-requires : goal.get-requires
get-requires g c = last_block c.self.inside c.args.self.now c.self.view_is c.self.invariant c.requires

pub invariant_of-self : goal.invariant_of-self
invariant_of-self g c = (pop_block c.self.inside c.args.self.now c.self.view_is c.self.invariant c.get.result.now _ c.requires c.get.ensures
    (refl, refl, refl)).0

pub returns-clause-items : goal.returns-clause-items
returns-clause-items g c = (pop_block c.self.inside c.args.self.now c.self.view_is c.self.invariant c.get.result.now (record {
  room =
      c.self.inside.room;
  capacity = c.self.inside.capacity;
  len = c.self.inside.len - 1;
  alloc =
      c.self.inside.alloc;
}) c.requires c.get.ensures (refl, refl, refl)).1
