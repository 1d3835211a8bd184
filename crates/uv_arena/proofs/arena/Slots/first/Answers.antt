use Rattle.uv_arena.proofs.ProofNames.{sym, ap, ◌∙◌, subst, head_at, IsFirst}
use Rattle.uv_arena.proofs.Readings.{first_listed}
use Rattle.uv_arena.proofs.arena.Slots.first.Goals as goal

pub id_at-requires : goal.id_at-requires
id_at-requires g c =
    let v = c.args.self.now.image in
    (first_listed v c.is_sound.ensures c.args.list c.in-Some.slot (ap (head_at v.memory) (sym c.chain.ensures.name) ∙ sym c.head.ensures
    ∙ c.in-Some.is)).slot

pub returns-in-Some-clause-some : goal.returns-in-Some-clause-some
returns-in-Some-clause-some g c =
    let v = c.args.self.now.image in
    subst (IsFirst v c.args.list) (sym c.id_at.ensures)
    (first_listed v c.is_sound.ensures c.args.list c.in-Some.slot (cc)).first
