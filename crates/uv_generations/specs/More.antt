-- A state whose slots were freed more often: so many times as the slot's number tells.
use Rattle.std.specs.Prelude.{◌≡◌, ℕ, ◌+◌, ◌<◌, length, Some}
use Rattle.uv_ids.specs.declared.id.Id.{Id}
use Rattle.uv_script.specs.Program.{Program, arena_size}
use Rattle.uv_records.specs.Slots.{held}
use Rattle.uv_work.specs.declared.content.Content.{Content}
use Rattle.uv_model.specs.State.{State}
use Rattle.uv_generations.specs.Renamed.{Renaming, renamed}

-- how many times more each slot was freed, by its number
abbrev pub Frees : Type 0
Frees = ℕ → ℕ

abbrev pub freed_more : Frees → Renaming
freed_more k = λ slot generation. generation + k slot

abbrev pub more : Frees → State → State
more k s = renamed (freed_more k) s

-- where a step is that of the state itself, renamed
pub record CanRename (p : Program) (k : Frees) (s : State) : Type 0 where
  -- the slot that is used next for the first time was never freed
  pub unused : k (length s.arena.slots) ≡ 0
  -- none that holds something comes to its last generation as it is freed
  pub left : (id : Id) (x : Content) → held s.arena.slots id ≡ Some x → id.generation + k id.slot < (arena_size p).last_generation
