use Rattle.uv_arena.proofs.ProofNames.{Bool, cond, refl, ap, ◌∙◌, row, Cell, with_links}
use Rattle.uv_arena.specs.declared.memory.Memory.{Memory}
use Rattle.uv_arena.proofs.Puts.{put_at}
use Rattle.uv_arena.proofs.memory.Memory.set_prev.Goals as goal

pub returns-clause-memory : goal.returns-clause-memory
returns-clause-memory g c =
    let m : Memory g.row.T.Denot = c.args.self.now in
    let f : Bool → Cell g.row.T.Denot → Cell g.row.T.Denot = λ u z. with_links (record {
      list = z.links.list;
      prev =
          cond u c.args.prev z.links.prev;
      next = z.links.next;
    }) z in
    λ i. record {
      row = (c.set.ensures.new
          ∙ ap (λ l. row l m.row.row.capacity) (put_at m.row.row.items c.args.at c.get-cell.result c.get-cell.ensures f (λ y. refl))) i;
      ends = m.ends;
    }
