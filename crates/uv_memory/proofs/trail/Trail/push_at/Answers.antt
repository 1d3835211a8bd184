use Rattle.uv_memory.proofs.Names.{[], ◌∷◌, ◌++◌, refl, ap, ◌∙◌, at_place}
use Rattle.uv_memory.proofs.Longer.{small_pushed, small_records, small_kept, medium_pushed, medium_records, medium_kept, large_pushed, large_records, large_kept}
use Rattle.uv_memory.proofs.Spare.{in_first, in_second, in_third, in_fourth, taken, as_was, least_less}
use Rattle.uv_memory.specs.declared.row.Row.TheVariants as row
use Rattle.uv_memory.proofs.trail.Trail.push_at.Goals as goal

pub invariant_of-self : goal.invariant_of-self
invariant_of-self g c = small_pushed c.self.inside.rows.items c.push_reserved.new.self.items c.self.inside.smalls.items
    c.self.inside.mediums.items c.self.inside.larges.items
    c.push_reserved-in-Small.new.self.items c.new.result c.push_reserved.ensures.items c.push_reserved-in-Small.ensures.items c.self.invariant

pub returns-in-Small-clause-records : goal.returns-in-Small-clause-records
returns-in-Small-clause-records g c =
    small_records c.self.inside.rows.items c.push_reserved.new.self.items c.self.inside.smalls.items c.self.inside.mediums.items
    c.self.inside.larges.items c.push_reserved-in-Small.new.self.items c.new.result row.Smalls (at_place c.args.place c.args.last.now)
    c.push_reserved.ensures.items refl c.push_reserved-in-Small.ensures.items
    (small_kept c.args.place c.naming-naming.result c.in-Small.change.now c.new.result c.args.last.now c.new.ensures c.naming-naming.ensures
    c.in-Small.ensures)
    c.self.invariant ∙ ap (λ t. t.records ++ at_place c.args.place c.args.last.now ∷ []) c.self.view_is

pub invariant_of-self-in-Medium : goal.invariant_of-self-in-Medium
invariant_of-self-in-Medium g c = medium_pushed c.self.inside.rows.items c.push_reserved-in-Medium.new.self.items c.self.inside.smalls.items
    c.self.inside.mediums.items c.self.inside.larges.items
    c.push_reserved-in-Medium-2.new.self.items c.new-in-Medium.result c.push_reserved-in-Medium.ensures.items
    c.push_reserved-in-Medium-2.ensures.items c.self.invariant

pub returns-in-Medium-clause-records : goal.returns-in-Medium-clause-records
returns-in-Medium-clause-records g c =
    medium_records c.self.inside.rows.items c.push_reserved-in-Medium.new.self.items c.self.inside.smalls.items c.self.inside.mediums.items
    c.self.inside.larges.items c.push_reserved-in-Medium-2.new.self.items c.new-in-Medium.result row.Mediums (at_place c.args.place c.args.last.now)
    c.push_reserved-in-Medium.ensures.items refl c.push_reserved-in-Medium-2.ensures.items
    (medium_kept c.args.place c.naming-naming.result c.in-Medium.change.now c.new-in-Medium.result c.args.last.now c.new-in-Medium.ensures
    c.naming-naming.ensures
    c.in-Medium.ensures)
    c.self.invariant ∙ ap (λ t. t.records ++ at_place c.args.place c.args.last.now ∷ []) c.self.view_is

pub invariant_of-self-in-Large : goal.invariant_of-self-in-Large
invariant_of-self-in-Large g c = large_pushed c.self.inside.rows.items c.push_reserved-in-Large.new.self.items c.self.inside.smalls.items
    c.self.inside.mediums.items c.self.inside.larges.items
    c.push_reserved-in-Large-2.new.self.items c.new-in-Large.result c.push_reserved-in-Large.ensures.items
    c.push_reserved-in-Large-2.ensures.items c.self.invariant

pub returns-in-Large-clause-records : goal.returns-in-Large-clause-records
returns-in-Large-clause-records g c =
    large_records c.self.inside.rows.items c.push_reserved-in-Large.new.self.items c.self.inside.smalls.items c.self.inside.mediums.items
    c.self.inside.larges.items c.push_reserved-in-Large-2.new.self.items c.new-in-Large.result row.Larges (at_place c.args.place c.args.last.now)
    c.push_reserved-in-Large.ensures.items refl c.push_reserved-in-Large-2.ensures.items
    (large_kept c.args.place c.naming-naming.result c.in-Large.change.now c.new-in-Large.result c.args.last.now c.new-in-Large.ensures
    c.naming-naming.ensures
    c.in-Large.ensures)
    c.self.invariant ∙ ap (λ t. t.records ++ at_place c.args.place c.args.last.now ∷ []) c.self.view_is

pub push_reserved-requires : goal.push_reserved-requires
push_reserved-requires g c = in_first _ _ _ _ _ (rw (← c.self.view_is) at c.requires)

pub push_reserved-requires-in-Small : goal.push_reserved-requires-in-Small
push_reserved-requires-in-Small g c = in_second _ _ _ _ _ (rw (← c.self.view_is) at c.requires)

pub returns-in-Small-clause-room : goal.returns-in-Small-clause-room
returns-in-Small-clause-room g c =
    rw (← c.self.view_is) (least_less _ _ _ _ _ _ _ _
    (taken _ _ _ _ c.push_reserved.ensures.capacity c.push_reserved.ensures.len)
    (taken _ _ _ _ c.push_reserved-in-Small.ensures.capacity c.push_reserved-in-Small.ensures.len) (as_was _)
    (as_was _))

pub push_reserved-requires-in-Medium : goal.push_reserved-requires-in-Medium
push_reserved-requires-in-Medium g c = in_first _ _ _ _ _ (rw (← c.self.view_is) at c.requires)

pub push_reserved-requires-in-Medium-2 : goal.push_reserved-requires-in-Medium-2
push_reserved-requires-in-Medium-2 g c = in_third _ _ _ _ _ (rw (← c.self.view_is) at c.requires)

pub returns-in-Medium-clause-room : goal.returns-in-Medium-clause-room
returns-in-Medium-clause-room g c =
    rw (← c.self.view_is) (least_less _ _ _ _ _ _ _ _
    (taken _ _ _ _ c.push_reserved-in-Medium.ensures.capacity c.push_reserved-in-Medium.ensures.len) (as_was _)
    (taken _ _ _ _ c.push_reserved-in-Medium-2.ensures.capacity c.push_reserved-in-Medium-2.ensures.len)
    (as_was _))

pub push_reserved-requires-in-Large : goal.push_reserved-requires-in-Large
push_reserved-requires-in-Large g c = in_first _ _ _ _ _ (rw (← c.self.view_is) at c.requires)

pub push_reserved-requires-in-Large-2 : goal.push_reserved-requires-in-Large-2
push_reserved-requires-in-Large-2 g c = in_fourth _ _ _ _ _ (rw (← c.self.view_is) at c.requires)

pub returns-in-Large-clause-room : goal.returns-in-Large-clause-room
returns-in-Large-clause-room g c =
    rw (← c.self.view_is) (least_less _ _ _ _ _ _ _ _
    (taken _ _ _ _ c.push_reserved-in-Large.ensures.capacity c.push_reserved-in-Large.ensures.len) (as_was _)
    (as_was _) (taken _ _ _ _ c.push_reserved-in-Large-2.ensures.capacity c.push_reserved-in-Large-2.ensures.len))
