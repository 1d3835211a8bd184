use Rattle.uv_arena.proofs.ProofNames.{Bool, cond, refl, ap, ◌∙◌, row, Cell}
use Rattle.uv_arena.specs.declared.memory.Memory.{Memory}
use Rattle.uv_arena.proofs.Puts.{put_at}
use Rattle.uv_arena.proofs.memory.Memory.edit.Goals as goal

pub returns-clause-memory : goal.returns-clause-memory
returns-clause-memory g c =
    let m : Memory g.row.T.Denot = c.args.self.now in
    let f : Bool → Cell g.row.T.Denot → Cell g.row.T.Denot = λ u z. cond u (record { slot = c.args.slot; links = z.links }) z in
    λ i. record {
      row = (c.put.ensures.new
          ∙ ap (λ l. row l m.row.row.capacity) (put_at m.row.row.items c.args.at c.get-cell.result c.get-cell.ensures f (λ y. refl))) i;
      ends = m.ends;
    }
