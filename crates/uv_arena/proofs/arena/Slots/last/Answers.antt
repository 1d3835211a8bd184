use Rattle.uv_arena.proofs.ProofNames.{sym, ap, ◌∙◌, subst, tail_at, IsLast}
use Rattle.uv_arena.proofs.Readings.{last_listed, last_missing}
use Rattle.uv_arena.proofs.arena.Slots.last.Goals as goal

pub id_at-requires : goal.id_at-requires
id_at-requires g c =
    let v = c.args.self.now.image in
    (last_listed v c.is_sound.ensures c.args.list c.in-Some.slot (ap (tail_at v.memory) (sym c.chain.ensures.name) ∙ sym c.tail.ensures
    ∙ c.in-Some.is)).slot

pub returns-in-Some-clause-some : goal.returns-in-Some-clause-some
returns-in-Some-clause-some g c =
    let v = c.args.self.now.image in
    subst (IsLast v c.args.list) (sym c.id_at.ensures)
    (last_listed v c.is_sound.ensures c.args.list c.in-Some.slot (cc)).last

pub returns-in-None-clause-none : goal.returns-in-None-clause-none
returns-in-None-clause-none g c =
    let v = c.args.self.now.image in
    last_missing v c.is_sound.ensures c.args.list (ap (tail_at v.memory) (sym c.chain.ensures.name) ∙ sym c.tail.ensures ∙ c.in-None.is)
