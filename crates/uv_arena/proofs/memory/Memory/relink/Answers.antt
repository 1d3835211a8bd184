use Rattle.uv_arena.proofs.ProofNames.{◌<◌, cond, eqb, length, sym, ap, ◌∙◌, subst, row, is_at, none_or, Memory, IsBelow, memory_of, with_links, with_cells, with_ends}
use Rattle.uv_arena.proofs.Each.{length-each}
use Rattle.uv_arena.proofs.Puts.{cells_joined, ends_joined}
use Rattle.uv_arena.proofs.memory.Memory.relink.Goals as goal

pub relink_after-requires-clause-all : goal.relink_after-requires-clause-all
relink_after-requires-clause-all g c =
    ap (λ (m : Memory g.row.T.Denot). length m.ends) c.relink_before.ensures.memory ∙ length-each _ c.args.self.now.ends ∙ c.requires.all

pub relink_after-requires-clause-after : goal.relink_after-requires-clause-after
relink_after-requires-clause-after g c =
    subst (IsBelow c.args.place.after) (sym (ap (λ (m : Memory g.row.T.Denot). length m.row.items) c.relink_before.ensures.memory
    ∙ length-each _ c.args.self.now.row.row.items)) c.requires.within.3

pub set_links-requires : goal.set_links-requires
set_links-requires g c =
    subst (λ n. c.args.place.slot < n)
    (sym (ap (λ (m : Memory g.row.T.Denot). length m.row.items) c.relink_after.ensures.memory
    ∙ length-each _ c.relink_before.new.self.row.row.items
    ∙ ap (λ (m : Memory g.row.T.Denot). length m.row.items) c.relink_before.ensures.memory ∙ length-each _ c.args.self.now.row.row.items))
    c.requires.within.2

pub returns-clause-memory : goal.returns-clause-memory
returns-clause-memory g c =
    let X = g.row.T.Denot in let m : Memory X = memory_of c.args.self.now in let t = c.args.place in
    let own : Memory X → Memory X = λ n. with_cells (λ j z. with_links (cond (eqb t.slot j) c.args.own z.links) z) n in
    let after : Memory X → Memory X = λ n. with_ends (λ j e. cond (eqb t.list j) (record {
      head = e.head;
      tail = none_or t.after c.args.prev e.tail;
    }) e) (with_cells (λ j z. with_links (record {
      list = z.links.list;
      prev = cond (is_at t.after j) c.args.prev z.links.prev;
      next = z.links.next;
    }) z) n) in
    c.set_links.ensures.memory ∙ ap own (c.relink_after.ensures.memory ∙ ap after c.relink_before.ensures.memory)
    ∙ (λ i. record {
      row = row (cells_joined t c.args.next c.args.prev c.args.own m.row.items i) m.row.capacity;
      ends =
          ends_joined t c.args.next c.args.prev m.ends i;
    })
