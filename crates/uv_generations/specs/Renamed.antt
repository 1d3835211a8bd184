-- A state whose generations are others: what becomes of a slot's generation is told by its number, and each id that names a slot is renamed
-- with it.
use Rattle.std.specs.Prelude.{ℕ, suc, List, [], ◌∷◌}
use Rattle.uv_ids.specs.declared.id.Id.{Id}
use Rattle.uv_records.specs.declared.slot.Slot.{Slot}
use Rattle.uv_work.specs.declared.content.Content.{Content}
use Rattle.uv_model.specs.State.{State}
use Rattle.uv_slots.specs.Relabeled.{Labels, relabeled}

-- what becomes of a generation, by the number of its slot
abbrev pub Renaming : Type 0
Renaming = ℕ → ℕ → ℕ

abbrev pub rename : Renaming → Id → Id
rename r id = record { slot = id.slot; generation = r id.slot id.generation }

abbrev pub renamed_slots : Renaming → List (Slot Content) → List (Slot Content)
renamed_slots r [] = []
renamed_slots r (slot ∷ slots) = record slot { generation = r 0 slot.generation } ∷ renamed_slots (λ n. r (suc n)) slots

abbrev pub renaming : Renaming → Labels
renaming r = record { id = rename r; slots = renamed_slots r; free = λ ns. ns }

abbrev pub renamed : Renaming → State → State
renamed r s = relabeled (renaming r) s
