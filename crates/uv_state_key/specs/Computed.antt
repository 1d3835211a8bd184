-- By how much the times of a state are later than they have to be, as the code computes it, and what becomes of each piece.
use Rattle.std.specs.Prelude.{◌-◌, ℕ, List, [], ◌∷◌, Option, Some, None, min}
use Rattle.uv_ids.specs.declared.id.Id.{Id}
use Rattle.uv_ids.specs.declared.due.Due.{Due}
use Rattle.uv_records.specs.Slots.{held}
use Rattle.uv_work.specs.declared.content.Content.{Content}
use Rattle.uv_work.specs.declared.content.Content.TheVariants as content
use Rattle.uv_model.specs.declared.numbers.Numbers.{Numbers}
use Rattle.uv_model.specs.State.{State}
use Rattle.uv_shift.specs.Shift.{By}
use Rattle.uv_state_key.specs.declared.forms.Form.{Form}

-- by how much a form is earlier
abbrev pub by_of : Form → By
by_of f = record { ms = f.ms; starts = f.starts }

abbrev pub numbers_by : By → Numbers → Numbers
numbers_by d n = record n { time = n.time - d.ms; clock = n.clock - d.ms; next_start = n.next_start - d.starts }

-- when what is held is due, if it is a timer
abbrev pub due_of : Option Content → Due
due_of (Some (content.Handle h)) = h.due
due_of (Some (content.Request r)) = record { at = 0; start = 0 }
due_of None = record { at = 0; start = 0 }

-- when a timer is due
abbrev pub due_at : State → Id → Due
due_at s id = due_of (held s.arena.slots id)

abbrev pub first_at : State → List Id → ℕ → ℕ
first_at s [] at = at
first_at s (id ∷ ids) at = min (due_at s id).at at

abbrev pub least_among : State → List Id → ℕ → ℕ
least_among s [] start = start
least_among s (id ∷ ids) start = min (due_at s id).start (least_among s ids start)
