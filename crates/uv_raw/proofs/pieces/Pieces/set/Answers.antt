use Rattle.uv_raw.proofs.Names.{◌∙◌}
use Rattle.uv_raw.proofs.Found.{within_table, within_piece, there, after_set, size_set, row_set}
use Rattle.uv_raw.proofs.pieces.Pieces.set.Goals as goal

pub index_mut-requires : goal.index_mut-requires
index_mut-requires g c = within_table c.self.inside c.args.self.now c.self.view_is c.self.invariant c.args.index c.requires

pub set-requires : goal.set-requires
set-requires g c =
    within_piece c.self.inside c.args.self.now c.self.view_is c.self.invariant c.args.index c.requires c.index_mut.result.now
    c.index_mut.ensures.value

pub invariant_of-self : goal.invariant_of-self
invariant_of-self g c =
    let p = c.self.inside in let v = c.args.self.now in let is = c.self.view_is in let h = c.self.invariant in
    let i = c.args.index in let x = c.args.item in let r = c.index_mut.result.now in let e = c.index_mut.ensures.value in
    record {
      laid = after_set p v is h i c.requires r e x c.set.new.self c.set.ensures.new;
      size = size_set p v is h i c.requires r e x c.set.new.self c.set.ensures.new;
      within = h.within;
      table = h.table;
    }

pub returns-clause-old : goal.returns-clause-old
returns-clause-old g c =
    there c.self.inside c.args.self.now c.self.view_is c.self.invariant c.args.index c.requires c.index_mut.result.now
    c.index_mut.ensures.value
    ∙ c.set.ensures.old

pub returns-clause-new : goal.returns-clause-new
returns-clause-new g c =
    row_set c.self.inside c.args.self.now c.self.view_is c.self.invariant c.args.index c.requires c.index_mut.result.now
    c.index_mut.ensures.value c.args.item c.set.new.self c.set.ensures.new
