use Rattle.uv_raw.proofs.Names.{◌++◌, [], ◌∷◌, ap, ◌∙◌}
use Rattle.uv_raw.proofs.Found.{after_add, size_added, row_added, there_added}
use Rattle.uv_raw.proofs.pieces.Pieces.add_piece.Goals as goal

pub invariant_of-self : goal.invariant_of-self
invariant_of-self g c =
    let p = c.self.inside in let v = c.args.self.now in let is = c.self.view_is in let h = c.self.invariant in
    let rs = c.push_reserved.new.self.items in
    let e = c.push_reserved.ensures.items ∙ ap (λ z. p.pieces.items ++ z ∷ []) c.in_ok-piece.ensures in
    record {
      laid = after_add p v is h rs e;
      size = size_added p v is h rs e;
      within = h.within;
      table = c.push_reserved.ensures.capacity ∙ h.table;
    }

pub returns-clause-row : goal.returns-clause-row
returns-clause-row g c =
    let p = c.self.inside in
    row_added p c.args.self.now c.self.view_is c.self.invariant c.push_reserved.new.self.items
    (c.push_reserved.ensures.items ∙ ap (λ z. p.pieces.items ++ z ∷ []) c.in_ok-piece.ensures)

pub returns-clause-there : goal.returns-clause-there
returns-clause-there g c =
    let p = c.self.inside in
    there_added p c.args.self.now c.self.view_is c.self.invariant c.push_reserved.new.self.items
    (c.push_reserved.ensures.items ∙ ap (λ z. p.pieces.items ++ z ∷ []) c.in_ok-piece.ensures)
