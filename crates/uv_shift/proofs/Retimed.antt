-- What becomes of a state whose times become others twice, and where none of them does.
use Rattle.uv_shift.proofs.Names.{◌≡◌, ℕ, zero, suc, List, [], ◌∷◌, ◌&&◌, true, Option, Some, slice_get, refl, ap, ap₂, arith, Id, Due, HandleRecord, Slot, Content, State, Place, is_timer, map, option_map, Retiming, retimed_due, retimed_handle, retimed_content, retimed_slot, retimed_entry, retimed_place, retimed}

-- ---- twice

abbrev pub both : Retiming → Retiming → Retiming
both f g = record { time = λ at. f.time (g.time at); start = λ n. f.start (g.start n) }

content_twice : (f g : Retiming) (o : Option Content) →
    option_map (retimed_content f) (option_map (retimed_content g) o) ≡ option_map (retimed_content (both f g)) o
content_twice f g each = grind arith

slots_twice : (f g : Retiming) (slots : List (Slot Content)) →
    map (retimed_slot f) (map (retimed_slot g) slots) ≡ map (retimed_slot (both f g)) slots
slots_twice f g [] = refl
slots_twice f g (slot ∷ slots) = simp (content_twice, (slots_twice f g slots))

timers_twice : (f g : Retiming) (ts : List (Due × Id)) →
    map (retimed_entry f) (map (retimed_entry g) ts) ≡ map (retimed_entry (both f g)) ts
timers_twice f g [] = refl
timers_twice f g (t ∷ ts) = ap (λ (us : List (Due × Id)). retimed_entry (both f g) t ∷ us) (timers_twice f g ts)

place_twice : (f g : Retiming) (place : Place) → retimed_place f (retimed_place g place) ≡ retimed_place (both f g) place
place_twice f g place = grind arith

pub twice : (f g : Retiming) (s : State) → retimed f (retimed g s) ≡ retimed (both f g) s
twice f g s = simp (place_twice, slots_twice, timers_twice)

-- ---- where no time becomes another

pub handle_same : (f : Retiming) (h : HandleRecord) → (h.active && is_timer h.kind ≡ true → retimed_due f h.due ≡ h.due) → retimed_handle f h ≡ h
handle_same f h k = ap (λ (due : Due). record h { due = due }) (grind arith)

pub slots_same : (f : Retiming) (slots : List (Slot Content)) →
    ((n : ℕ) (slot : Slot Content) → slice_get slots n ≡ Some slot → option_map (retimed_content f) slot.content ≡ slot.content) →
    map (retimed_slot f) slots ≡ slots
slots_same f [] h = refl
slots_same f (slot ∷ slots) h =
    ap₂ (λ (x : Option Content) (xs : List (Slot Content)). record slot { content = x } ∷ xs) (h zero slot refl)
    (slots_same f slots (λ n x e. h (suc n) x e))
