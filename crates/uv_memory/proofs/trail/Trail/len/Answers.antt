use Rattle.uv_memory.proofs.Names.{rules, ◌≡◌, sym, ap, ◌∙◌, length}
use Rattle.uv_memory.proofs.Longer.{as_many}
use Rattle.uv_memory.proofs.trail.Trail.len.Goals as goal

pub returns : goal.returns
returns g c =
    let count : c.len.result ≡ length c.self.inside.rows.items = search rules in
    count ∙ sym (as_many c.self.inside.rows.items c.self.inside.smalls.items c.self.inside.mediums.items c.self.inside.larges.items
    c.self.invariant.small c.self.invariant.medium c.self.invariant.large)
    ∙ ap (λ t. length t.records) c.self.view_is
