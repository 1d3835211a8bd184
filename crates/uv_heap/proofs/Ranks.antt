-- Entries are ranked by when they are due.
use Rattle.uv_heap.proofs.Names.{◌≡◌, Bool, true, false, refl, ◌&&◌, eqb, IsTotalOrder, IsStrictWeakOrder, on_total, then_total, nat_cmp_total, ranks_by, and_parts, and_from, eqb-true, eq-eqb, due_cmp, Due, Entry, is_before, is_same}

due_total : IsTotalOrder due_cmp
due_total = then_total (on_total (λ (d : Due). d.at) nat_cmp_total) (on_total (λ (d : Due). d.start) nat_cmp_total)

pub ranks : IsStrictWeakOrder is_before
ranks = ranks_by due_total (λ (e : Entry). e.due)

itself_by : (e : Entry) (b : Bool) → is_before e e ≡ b → is_before e e ≡ false
itself_by e true h = ranks.one_way e e h
itself_by e false h = h

-- an entry does not come before itself
pub itself : (e : Entry) → is_before e e ≡ false
itself e = itself_by e (is_before e e) refl

pub same_is : (a b : Entry) → is_same a b ≡ true → a ≡ b
same_is a b h =
    let parts = and_parts (eqb a.slot b.slot) (eqb a.due.at b.due.at && eqb a.due.start b.due.start) h in
    let due = and_parts (eqb a.due.at b.due.at) (eqb a.due.start b.due.start) parts.1 in
    let slot = eqb-true a.slot b.slot parts.0 in
    let at = eqb-true a.due.at b.due.at due.0 in
    let start = eqb-true a.due.start b.due.start due.1 in
    λ i. record { due = record { at = at i; start = start i }; slot = slot i }

pub same_itself : (a : Entry) → is_same a a ≡ true
same_itself a = and_from _ _ (eq-eqb a.slot a.slot refl) (and_from _ _ (eq-eqb a.due.at a.due.at refl) (eq-eqb a.due.start a.due.start refl))
