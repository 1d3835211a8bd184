-- What the memory shows is what the state has.
use Rattle.uv_loop.proofs.Names.{◌≡◌, ◌<◌, ◌≤◌, ℕ, zero, suc, List, [], ◌∷◌, map, length, slice_get, Some, None, sym, ap, ◌∙◌, arith, length-map, slice_get_past, Slot, Content, Cell, slot_at, slot_in, Place, State, Image, StandsFor}
use Rattle.uv_records.specs.Slots as plain

slot_in_row : (cs : List (Cell Content)) (n : ℕ) (t : Slot Content) → n < length cs → t ≡ slot_in (slice_get cs n)
    → Some t ≡ slice_get (map (λ (c : Cell Content). c.slot) cs) n
slot_in_row [] n t l e = absurd (omega (arith, l))
slot_in_row (c ∷ cs) zero t l e = ap (λ z. Some z) e
slot_in_row (c ∷ cs) (suc n) t l e = slot_in_row cs n t (omega (arith, l)) e

module _ (i : Image Place) (s : State) (h : StandsFor i s) where
  slots_as : map (λ (c : Cell Content). c.slot) i.arena.memory.row.items ≡ s.arena.slots
  slots_as = ap (λ (q : plain.Slots Content). q.slots) h.slots

  pub slots_long : length i.arena.memory.row.items ≡ length s.arena.slots
  slots_long =
      sym (length-map i.arena.memory.row.items (λ (c : Cell Content). c.slot)) ∙ ap (λ (ss : List (Slot Content)). length ss) slots_as

  -- a slot that was used
  pub slot_shown : (n : ℕ) (t : Slot Content) → n < length i.arena.memory.row.items → t ≡ slot_at i.arena.memory n
      → slice_get s.arena.slots n ≡ Some t
  slot_shown n t within is =
      sym (slot_in_row i.arena.memory.row.items n t within is ∙ ap (λ (ss : List (Slot Content)). slice_get ss n) slots_as)
