use Rattle.uv_raw.proofs.Found.{next_within_table, has_place, after_push, size_pushed, row_pushed, fits_more}
use Rattle.uv_raw.proofs.pieces.Pieces.push.Goals as goal

pub index_mut-requires : goal.index_mut-requires
index_mut-requires g c = next_within_table c.self.inside c.args.self.now c.self.view_is c.self.invariant c.requires.room

pub push-requires : goal.push-requires
push-requires g c =
    has_place c.self.inside c.args.self.now c.self.view_is c.self.invariant c.requires.room c.index_mut.result.now c.index_mut.ensures.value

pub invariant_of-self : goal.invariant_of-self
invariant_of-self g c =
    let p = c.self.inside in let v = c.args.self.now in let is = c.self.view_is in let h = c.self.invariant in
    let x = c.args.item in let r = c.index_mut.result.now in let e = c.index_mut.ensures.value in
    record {
      laid = after_push p v is h c.requires.room r e x c.push.new.self c.push.ensures;
      size = size_pushed p v is h c.requires.room r e x c.push.new.self c.push.ensures;
      within = fits_more p v is h c.requires.within;
      table = h.table;
    }

pub returns-clause-row : goal.returns-clause-row
returns-clause-row g c =
    row_pushed c.self.inside c.args.self.now c.self.view_is c.self.invariant c.requires.room c.index_mut.result.now c.index_mut.ensures.value
    c.args.item c.push.new.self c.push.ensures
