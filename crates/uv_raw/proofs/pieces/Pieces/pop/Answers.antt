use Rattle.uv_raw.proofs.Names.{arith}
use Rattle.uv_raw.proofs.Found.{last_within_table, some_there, after_pop, size_popped, items_popped}
use Rattle.uv_raw.proofs.pieces.Pieces.pop.Goals as goal

pub index_mut-requires : goal.index_mut-requires
index_mut-requires g c = last_within_table c.self.inside c.args.self.now c.self.view_is c.self.invariant c.requires

pub pop-requires : goal.pop-requires
pop-requires g c =
    some_there c.self.inside c.args.self.now c.self.view_is c.self.invariant c.requires c.index_mut.result.now c.index_mut.ensures.value

pub invariant_of-self : goal.invariant_of-self
invariant_of-self g c =
    let p = c.self.inside in let v = c.args.self.now in let is = c.self.view_is in let h = c.self.invariant in
    let r = c.index_mut.result.now in let e = c.index_mut.ensures.value in let x = c.pop.result in let s = c.pop.new.self in
    record {
      laid = after_pop p v is h c.requires r e x s c.pop.ensures.items c.pop.ensures.capacity;
      size = size_popped p v is h c.requires r e x s c.pop.ensures.items c.pop.ensures.capacity;
      within = let within = h.within in omega (arith, within);
      table = h.table;
    }

pub returns-clause-items : goal.returns-clause-items
returns-clause-items g c =
    items_popped c.self.inside c.args.self.now c.self.view_is c.self.invariant c.requires c.index_mut.result.now c.index_mut.ensures.value
    c.pop.result c.pop.new.self c.pop.ensures.items c.pop.ensures.capacity
