-- The order of timers, where one is put in and another taken out.
use Rattle.uv_model.proofs.Names.{◌≡◌, ℕ, ◌<◌, List, [], ◌∷◌, Bool, true, false, cond, refl, ap, sym, ◌∙◌, arith, nat_tests, nat_cmp_total, then_total, on_total, IsTotalOrder, ordering_then, nat_cmp, match_ordering, is_eq, ordering_reverse, Ordering, Less, Equal, Greater, AllByRecursion, keys_of, due_cmp, Id, Due, with_timer, without_timer}
use Rattle.std.specs.List.Sorted.{IsStrictlySortedBy}

pub due_cmp_total : IsTotalOrder due_cmp
due_cmp_total = then_total (on_total (λ (d : Due). d.at) nat_cmp_total) (on_total (λ (d : Due). d.start) nat_cmp_total)

-- a timer that is due before all others stands in front
in_front : (ts : List (Due × Id)) (due : Due) (id : Id) → AllByRecursion (λ d. due_cmp due d ≡ Less) (keys_of ts) →
    with_timer ts due id ≡ (due, id) ∷ ts
in_front [] due id h = refl
in_front (t ∷ ts) due id h = rw h.0 refl

before_all : (a b : Due) (ds : List Due) → due_cmp a b ≡ Less → AllByRecursion (λ d. due_cmp b d ≡ Less) ds →
    AllByRecursion (λ d. due_cmp a d ≡ Less) ds
before_all a b [] l h = tt
before_all a b (d ∷ ds) l h = (due_cmp_total.trans a b d l h.0, before_all a b ds l h.1)

same_other : (old new d : Due) → due_cmp new d ≡ Equal → due_cmp old d ≡ due_cmp old new
same_other old new d e = due_cmp_total.antisymm old d ∙ ap ordering_reverse (sym (due_cmp_total.congr new d old e))
    ∙ sym (due_cmp_total.antisymm old new)

-- one timer put in and another taken out, in either order
pub without-with_timer : (ts : List (Due × Id)) (old new : Due) (id : Id) → IsStrictlySortedBy due_cmp (keys_of ts) →
    is_eq (due_cmp old new) ≡ false → without_timer (with_timer ts new id) old ≡ with_timer (without_timer ts old) new id
unfolding IsStrictlySortedBy
without-with_timer [] old new id s d = rw d refl
without-with_timer (t ∷ ts) old new id s d = grind (arith, in_front, before_all, same_other, (without-with_timer ts old new id s.1 d))

differs : (a b c d : ℕ) → b < d → is_eq (ordering_then (nat_cmp a c) (nat_cmp b d)) ≡ false
differs a b c d l = grind (arith, nat_tests)

-- a start number that was drawn before makes another key
pub another : (old new : Due) → old.start < new.start → is_eq (due_cmp old new) ≡ false
another old new l = differs old.at old.start new.at new.start l
