-- A timer that is started again.
use Rattle.uv_plain.proofs.Names.{◌≡◌, ℕ, ◌+◌, ◌<◌, ◌&&◌, List, Bool, true, false, if◌then◌else◌, refl, sym, ap₂, set-set, IsStrictlySortedBy, keys_of, due_cmp, Id, Due, HandleRecord, Slot, is_timer, begun_at, Content, State, with_handle, with_timer, without_timer, due_after, taken_off, stopped, started, StartsBefore}
use Rattle.uv_model.proofs.Order.{without-with_timer, another}

-- the new key may be put in before the old one is taken out
swapped : (ts : List (Due × Id)) (active : Bool) (old new : Due) (id : Id) → IsStrictlySortedBy due_cmp (keys_of ts) →
    (active ≡ true → old.start < new.start) →
    (if active then without_timer (with_timer ts new id) old else with_timer ts new id) ≡ with_timer
    (if active then without_timer ts old else ts) new id
swapped ts true old new id s l = without-with_timer ts old new id s (another old new (l refl))
swapped ts false old new id s l = refl

both_true : (a b : Bool) → (a && b) ≡ true → (a ≡ true) × (b ≡ true)
both_true true b e = (refl, e)
both_true false b e = cc e

-- a state whose next start number is drawn
abbrev pub drawn_one : State → State
drawn_one s = record s { next_start = s.next_start + 1 }

pub started_again : (s : State) (id : Id) (h : HandleRecord) (timeout repeat : ℕ) → IsStrictlySortedBy due_cmp (keys_of s.timers)
    → StartsBefore s.next_start h →
    with_handle
    (drawn_one (taken_off (record s { timers = with_timer s.timers (due_after s timeout) id }) id h))
    id
    (begun_at (due_after s timeout) repeat h)
    ≡ started (stopped s id h) id h timeout repeat
started_again s id h timeout repeat sorted before =
    let u = taken_off s id h in
    let old : (is_timer h.kind && h.active) ≡ true → h.due.start < s.next_start =
    λ e. let both = both_true (is_timer h.kind) h.active e in before both.0 both.1 in
    simp (swapped, set-set)
