use Rattle.uv_arena.proofs.ProofNames.{◌≡◌, ◌<◌, cond, eqb, length, sym, ap, ◌∙◌, subst, row, is_at, none_or, link, loose, Memory, IsBelow, IsWithin, memory_of, with_links, with_cells, with_ends, put_in, taken_out}
use Rattle.uv_arena.proofs.Each.{length-each}
use Rattle.uv_arena.proofs.Puts.{cells_joined, ends_joined}
use Rattle.uv_arena.proofs.Memories.{written_once}
use Rattle.uv_arena.proofs.memory.Memory.shift.Goals as goal

pub relink_after-requires-clause-all : goal.relink_after-requires-clause-all
relink_after-requires-clause-all g c =
    ap (λ (m : Memory g.row.T.Denot). length m.ends) c.relink_before.ensures.memory ∙ length-each _ c.args.self.now.ends ∙ c.requires.all

pub relink_after-requires-clause-after : goal.relink_after-requires-clause-after
relink_after-requires-clause-after g c =
    subst (IsBelow c.args.from.after) (sym (ap (λ (m : Memory g.row.T.Denot). length m.row.items) c.relink_before.ensures.memory
    ∙ length-each _ c.args.self.now.row.row.items)) c.requires.from.3

pub put-requires-clause-all : goal.put-requires-clause-all
put-requires-clause-all g c =
    ap (λ (m : Memory g.row.T.Denot). length m.ends) c.relink_after.ensures.memory ∙ length-each _ c.relink_before.new.self.ends
    ∙ ap (λ (m : Memory g.row.T.Denot). length m.ends) c.relink_before.ensures.memory ∙ length-each _ c.args.self.now.ends ∙ c.requires.all

pub put-requires-clause-within : goal.put-requires-clause-within
put-requires-clause-within g c =
    subst (IsWithin c.args.to)
    (sym (ap (λ (m : Memory g.row.T.Denot). length m.row.items) c.relink_after.ensures.memory
    ∙ length-each _ c.relink_before.new.self.row.row.items
    ∙ ap (λ (m : Memory g.row.T.Denot). length m.row.items) c.relink_before.ensures.memory ∙ length-each _ c.args.self.now.row.row.items))
    c.requires.to

pub returns-clause-memory : goal.returns-clause-memory
returns-clause-memory g c =
    let X = g.row.T.Denot in let m : Memory X = memory_of c.args.self.now in let t = c.args.from in let u = c.args.to in
    let own : Memory X → Memory X = λ n. with_cells (λ j z. with_links (cond (eqb t.slot j) loose z.links) z) n in
    let after : Memory X → Memory X = λ n. with_ends (λ j e. cond (eqb t.list j) (record {
      head = e.head;
      tail = none_or t.after t.before e.tail;
    }) e) (with_cells (λ j z. with_links (record {
      list = z.links.list;
      prev = cond (is_at t.after j) t.before z.links.prev;
      next = z.links.next;
    }) z) n) in
    let between : Memory X = memory_of c.relink_after.new.self in
    let taken : own between ≡ taken_out t m = ap own (c.relink_after.ensures.memory ∙ ap after c.relink_before.ensures.memory)
    ∙ (λ i. record {
      row = row (cells_joined t t.after t.before loose m.row.items i) m.row.capacity;
      ends = ends_joined t t.after t.before m.ends i;
    }) in
    c.put.ensures.memory ∙ sym (written_once u t.slot c.requires.slot between) ∙ ap (put_in u) taken
