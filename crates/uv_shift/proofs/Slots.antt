-- What the slots of a state hold whose times are later, and who is found.
use Rattle.uv_shift.proofs.Names.{◌≡◌, List, Option, Some, ap, ◌∙◌, arith, Id, Due, HandleRecord, Slot, Content, State, handle, handle_in, held, first_due, slice_get-map, map, option_map, By, shift}
use Rattle.uv_shift.proofs.Later.{shift_handle, shift_content, shift_slot}

-- ---- what a slot holds

pub held_shift : (d : By) (slots : List (Slot Content)) (id : Id) → held (map (shift_slot d) slots) id ≡ option_map (shift_content d) (held slots id)
held_shift d slots id = rw (slice_get-map (shift_slot d) slots id.slot) (grind arith)

handle_of_shift : (d : By) (o : Option Content) → handle_in (option_map (shift_content d) o) ≡ option_map (shift_handle d) (handle_in o)
handle_of_shift d o = grind arith

pub handle_shift : (d : By) (s : State) (id : Id) → handle (shift d s) id ≡ option_map (shift_handle d) (handle s id)
handle_shift d s id = ap handle_in (held_shift d s.arena.slots id) ∙ handle_of_shift d (held s.arena.slots id)

-- ---- who is found

abbrev pub shift_pair : By → Id × HandleRecord → Id × HandleRecord
shift_pair d t = (t.0, shift_handle d t.1)

pub first_due_held : (s : State) (ts : List (Due × Id)) (t : Id × HandleRecord) → first_due s ts ≡ Some t → handle s t.0 ≡ Some t.1
first_due_held s ts t e = grind arith
