-- The youngest form of a state: each slot freed as few times as can be, for the names that are bound to it. States that have it in common
-- differ in nothing else.
use Rattle.std.specs.Prelude.{◌≡◌, ◌==◌, ◌++◌, ◌<◌, ℕ, ◌-◌, List, [], ◌∷◌, true, Option, Some, None, min, slice_get, if◌then◌else◌}
use Rattle.uv_ids.specs.declared.id.Id.{Id}
use Rattle.uv_ids.specs.declared.due.Due.{Due}
use Rattle.uv_script.specs.Program.{Program, arena_size}
use Rattle.uv_records.specs.declared.lists.WatcherKind.{WatcherKind}
use Rattle.uv_records.specs.declared.named.Named.{Named}
use Rattle.uv_records.specs.declared.slot.Slot.{Slot}
use Rattle.uv_records.specs.Slots.{held}
use Rattle.uv_work.specs.declared.content.Content.{Content}
use Rattle.uv_model.specs.State.{State, watched}
use Rattle.uv_order.specs.Active.{has_id, run_ids, Has}
use Rattle.uv_generations.specs.Renamed.{Renaming, renamed}
use Rattle.uv_generations.specs.More.{Frees}

abbrev pub freed_less : Frees → Renaming
freed_less k = λ slot generation. generation - k slot

abbrev pub less : Frees → State → State
less k s = renamed (freed_less k) s

-- ---- the least generation of each slot

-- that of the id to which a name is bound, if it names this slot and is less
abbrev pub or_bound : ℕ → Option Id → ℕ → ℕ
or_bound slot None least = least
or_bound slot (Some id) least = if id.slot == slot then min id.generation least else least

abbrev pub least_bound : ℕ → List Named → ℕ → ℕ
least_bound slot [] least = least
least_bound slot (n ∷ ns) least = or_bound slot n.id (least_bound slot ns least)

-- one that was never used has none
abbrev pub least_of : ℕ → List Named → Option (Slot Content) → ℕ
least_of slot names None = 0
least_of slot names (Some it) = least_bound slot names it.generation

-- how many times more the slots of a state were freed than those of its youngest form
abbrev pub surplus : State → Frees
surplus s = λ slot. least_of slot s.names (slice_get s.arena.slots slot)

abbrev pub youngest : State → State
youngest s = less (surplus s) s

-- ---- what holds of each state that steps lead to

-- the id's slot holds it still
pub record IsInSlot (s : State) (id : Id) : Type 0 where
  pub its : Content
  pub holds : held s.arena.slots id ≡ Some its

-- who stands on a list is held, and none of those that are held is at its last generation
pub record IsYoung (p : Program) (s : State) : Type 0 where
  pub timers : (due : Due) (id : Id) → Has s.timers due id → IsInSlot s id
  pub ready : (id : Id) → has_id s.ready id ≡ true → IsInSlot s id
  pub watchers : (q : WatcherKind) (id : Id) → has_id ((watched s q).list ++ (watched s q).yet) id ≡ true → IsInSlot s id
  pub closing : (id : Id) → has_id (s.closing.list ++ s.closing.yet) id ≡ true → IsInSlot s id
  pub opened : (id : Id) → has_id (s.waiting ++ run_ids s.running) id ≡ true → IsInSlot s id
  pub done : (id : Id) → has_id (s.done.list ++ s.done.yet) id ≡ true → IsInSlot s id
  pub left : (id : Id) (x : Content) → held s.arena.slots id ≡ Some x → id.generation < (arena_size p).last_generation
