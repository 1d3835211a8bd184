-- The parts of a state whose times are later.
use Rattle.uv_shift.proofs.Names.{◌≡◌, ◌+◌, ◌<◌, true, Bool, Some, Id, Due, Op, HandleRecord, Slot, Content, Place, Program, State, handle, front, ◌^◌, first_due, is_timer, retimed_due, retimed_if, retimed_handle, retimed_content, retimed_slot, retimed_entry, retimed_place, op_at, By, later, FitsOp, Site}

abbrev pub shift_due : By → Due → Due
shift_due d due = retimed_due (later d) due

abbrev pub shift_if : Bool → By → Due → Due
shift_if b d due = retimed_if b (later d) due

abbrev pub shift_handle : By → HandleRecord → HandleRecord
shift_handle d h = retimed_handle (later d) h

abbrev pub shift_content : By → Content → Content
shift_content d x = retimed_content (later d) x

abbrev pub shift_slot : By → Slot Content → Slot Content
shift_slot d slot = retimed_slot (later d) slot

abbrev pub shift_entry : By → Due × Id → Due × Id
shift_entry d t = retimed_entry (later d) t

abbrev pub shift_place : By → Place → Place
shift_place d place = retimed_place (later d) place

-- what the later state keeps, of the state itself
pub record CanShift (p : Program) (d : By) (s : State) : Type 0 where
  pub starts : (site : Site) (o : Op) → op_at p site ≡ Some o → FitsOp (s.time + d.ms) o
  pub repeats : (id : Id) (h : HandleRecord) → handle s id ≡ Some h → s.time + d.ms + h.repeat < 2 ^ 64
  pub ready : (t : Id × HandleRecord) → front s s.ready ≡ Some t → is_timer t.1.kind ≡ true
  pub first : (t : Id × HandleRecord) → first_due s s.timers ≡ Some t → is_timer t.1.kind ≡ true
