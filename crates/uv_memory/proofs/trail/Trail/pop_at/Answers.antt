use Rattle.uv_memory.proofs.Names.{rules, ◌≡◌, length, sym, ap, ◌∙◌}
use Rattle.uv_memory.proofs.Longer.{small_popped, small_there, small_records, small_taken, medium_popped, medium_there, medium_records, medium_taken, large_popped, large_there, large_records, large_taken}
use Rattle.uv_memory.proofs.Spare.{freed, stays, least_more}
use Rattle.uv_memory.proofs.trail.Trail.pop_at.Goals as goal

pub invariant_of-self-in-Smalls : goal.invariant_of-self-in-Smalls
invariant_of-self-in-Smalls g c = small_popped c.pop.new.self.items c.self.inside.rows.items c.pop-in-Smalls.new.self.items
    c.self.inside.mediums.items
    c.self.inside.larges.items c.self.inside.smalls.items c.in-Some.step c.in_ok-pop.field-0 c.in_ok-pop.ensures.items
    c.in-Smalls.is c.in-Some.ensures.items c.self.invariant

pub unreachable-requires : goal.unreachable-requires
unreachable-requires g c =
    let none : length c.self.inside.smalls.items ≡ 0 = search rules in
    small_there c.pop.new.self.items c.self.inside.rows.items c.self.inside.smalls.items c.self.inside.mediums.items c.self.inside.larges.items
    c.in_ok-pop.field-0 c.in_ok-pop.ensures.items c.in-Smalls.is none c.self.invariant

pub returns-in-Some-clause-some : goal.returns-in-Some-clause-some
returns-in-Some-clause-some g c = ap (λ t. t.records) (sym c.self.view_is) ∙ small_records c.pop.new.self.items c.self.inside.rows.items
    c.pop-in-Smalls.new.self.items c.self.inside.mediums.items c.self.inside.larges.items c.self.inside.smalls.items
    c.in-Some.step c.in_ok-pop.field-0 _ c.in_ok-pop.ensures.items c.in-Smalls.is c.in-Some.ensures.items
    (small_taken c.in-Some.step c.args.last.now c.rename.new.self c.set_small.new.self c.rename.ensures c.set_small.ensures)
    (small_popped c.pop.new.self.items c.self.inside.rows.items c.pop-in-Smalls.new.self.items c.self.inside.mediums.items
    c.self.inside.larges.items c.self.inside.smalls.items c.in-Some.step c.in_ok-pop.field-0 c.in_ok-pop.ensures.items
    c.in-Smalls.is c.in-Some.ensures.items c.self.invariant)

pub invariant_of-self-in-Mediums : goal.invariant_of-self-in-Mediums
invariant_of-self-in-Mediums g c = medium_popped c.pop.new.self.items c.self.inside.rows.items c.self.inside.smalls.items
    c.pop-in-Mediums.new.self.items
    c.self.inside.larges.items c.self.inside.mediums.items c.in-Some-pop.step c.in_ok-pop.field-0 c.in_ok-pop.ensures.items
    c.in-Mediums.is c.in-Some-pop.ensures.items c.self.invariant

pub unreachable-requires-in-None-pop : goal.unreachable-requires-in-None-pop
unreachable-requires-in-None-pop g c =
    let none : length c.self.inside.mediums.items ≡ 0 = search rules in
    medium_there c.pop.new.self.items c.self.inside.rows.items c.self.inside.smalls.items c.self.inside.mediums.items c.self.inside.larges.items
    c.in_ok-pop.field-0 c.in_ok-pop.ensures.items c.in-Mediums.is none c.self.invariant

pub returns-in-Some-pop-clause-some : goal.returns-in-Some-pop-clause-some
returns-in-Some-pop-clause-some g c = ap (λ t. t.records) (sym c.self.view_is) ∙ medium_records c.pop.new.self.items c.self.inside.rows.items
    c.self.inside.smalls.items c.pop-in-Mediums.new.self.items c.self.inside.larges.items c.self.inside.mediums.items
    c.in-Some-pop.step c.in_ok-pop.field-0 _ c.in_ok-pop.ensures.items c.in-Mediums.is c.in-Some-pop.ensures.items
    (medium_taken c.in-Some-pop.step c.args.last.now c.rename-in-Some-pop.new.self c.set_medium.new.self c.rename-in-Some-pop.ensures
    c.set_medium.ensures)
    (medium_popped c.pop.new.self.items c.self.inside.rows.items c.self.inside.smalls.items c.pop-in-Mediums.new.self.items
    c.self.inside.larges.items c.self.inside.mediums.items c.in-Some-pop.step c.in_ok-pop.field-0 c.in_ok-pop.ensures.items
    c.in-Mediums.is c.in-Some-pop.ensures.items c.self.invariant)

pub invariant_of-self-in-Larges : goal.invariant_of-self-in-Larges
invariant_of-self-in-Larges g c = large_popped c.pop.new.self.items c.self.inside.rows.items c.self.inside.smalls.items c.self.inside.mediums.items
    c.pop-in-Larges.new.self.items c.self.inside.larges.items c.in-Some-pop-2.step c.in_ok-pop.field-0 c.in_ok-pop.ensures.items
    c.in-Larges.is c.in-Some-pop-2.ensures.items c.self.invariant

pub unreachable-requires-in-None-pop-2 : goal.unreachable-requires-in-None-pop-2
unreachable-requires-in-None-pop-2 g c =
    let none : length c.self.inside.larges.items ≡ 0 = search rules in
    large_there c.pop.new.self.items c.self.inside.rows.items c.self.inside.smalls.items c.self.inside.mediums.items c.self.inside.larges.items
    c.in_ok-pop.field-0 c.in_ok-pop.ensures.items c.in-Larges.is none c.self.invariant

pub returns-in-Some-pop-2-clause-some : goal.returns-in-Some-pop-2-clause-some
returns-in-Some-pop-2-clause-some g c = ap (λ t. t.records) (sym c.self.view_is) ∙ large_records c.pop.new.self.items c.self.inside.rows.items
    c.self.inside.smalls.items c.self.inside.mediums.items c.pop-in-Larges.new.self.items c.self.inside.larges.items
    c.in-Some-pop-2.step c.in_ok-pop.field-0 _ c.in_ok-pop.ensures.items c.in-Larges.is c.in-Some-pop-2.ensures.items
    (large_taken c.in-Some-pop-2.step c.args.last.now c.rename-in-Some-pop-2.new.self c.set_large.new.self c.rename-in-Some-pop-2.ensures
    c.set_large.ensures)
    (large_popped c.pop.new.self.items c.self.inside.rows.items c.self.inside.smalls.items c.self.inside.mediums.items
    c.pop-in-Larges.new.self.items c.self.inside.larges.items c.in-Some-pop-2.step c.in_ok-pop.field-0 c.in_ok-pop.ensures.items
    c.in-Larges.is c.in-Some-pop-2.ensures.items c.self.invariant)

pub returns-in-Some-clause-room : goal.returns-in-Some-clause-room
returns-in-Some-clause-room g c =
    rw (← c.self.view_is) (least_more _ _ _ _ _ _ _ _
    (freed _ _ _ _ c.in_ok-pop.ensures.capacity c.in_ok-pop.ensures.cases)
    (freed _ _ _ _ c.in-Some.ensures.capacity c.in-Some.ensures.cases) (stays _) (stays _))

pub returns-in-Some-pop-clause-room : goal.returns-in-Some-pop-clause-room
returns-in-Some-pop-clause-room g c =
    rw (← c.self.view_is) (least_more _ _ _ _ _ _ _ _
    (freed _ _ _ _ c.in_ok-pop.ensures.capacity c.in_ok-pop.ensures.cases) (stays _)
    (freed _ _ _ _ c.in-Some-pop.ensures.capacity c.in-Some-pop.ensures.cases) (stays _))

pub returns-in-Some-pop-2-clause-room : goal.returns-in-Some-pop-2-clause-room
returns-in-Some-pop-2-clause-room g c =
    rw (← c.self.view_is) (least_more _ _ _ _ _ _ _ _
    (freed _ _ _ _ c.in_ok-pop.ensures.capacity c.in_ok-pop.ensures.cases) (stays _) (stays _)
    (freed _ _ _ _ c.in-Some-pop-2.ensures.capacity c.in-Some-pop-2.ensures.cases))
