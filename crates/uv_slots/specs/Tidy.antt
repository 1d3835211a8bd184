-- What holds of each state that few steps lead to: each name is bound to its own, and just the empty slots are free.
use Rattle.std.specs.Prelude.{◌≡◌, ◌<◌, ℕ, length, Option, Some, None, slice_get}
use Rattle.uv_ids.specs.declared.id.Id.{Id}
use Rattle.uv_ids.specs.declared.id.Var.{Var}
use Rattle.uv_ids.specs.declared.seen.Site.{Site}
use Rattle.uv_records.specs.declared.slot.Slot.{Slot}
use Rattle.uv_records.specs.Slots.{held}
use Rattle.uv_script.specs.Program.{Program, op_at, op_name}
use Rattle.uv_script.specs.declared.op.Op.{Op}
use Rattle.uv_work.specs.declared.content.Content.{Content}
use Rattle.uv_model.specs.State.{State, named}
use Rattle.uv_alike.specs.Contents.{name_in}
use Rattle.uv_slots.specs.Arranged.{times}

-- how often a number stands in the free list, by its slot: once if it is empty
abbrev pub vacant : Option Content → ℕ
vacant None = 1
vacant (Some x) = 0

abbrev pub vacancies : Option (Slot Content) → ℕ
vacancies None = 0
vacancies (Some slot) = vacant slot.content

-- what is held has its own name bound to it, and no other one. Just the empty slots are free, each of them once
pub record IsTidy (s : State) : Type 0 where
  pub bound : (id : Id) (x : Content) → held s.arena.slots id ≡ Some x → (named s (name_in x)).id ≡ Some id
  pub alone : (v : Var) (id : Id) (x : Content) → (named s v).id ≡ Some id → held s.arena.slots id ≡ Some x → name_in x ≡ v
  pub free : (n : ℕ) → times s.arena.free n ≡ vacancies (slice_get s.arena.slots n)

-- each op of the script names a declared name
abbrev pub AreDeclared : Program → Type 0
AreDeclared p = (at : Site) (o : Op) (v : Var) → op_at p at ≡ Some o → op_name o ≡ Some v → v.0 < length p.callbacks
