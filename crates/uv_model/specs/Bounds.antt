-- What a step needs of a state: its numbers fit their types, and the timers' keys are apart.
use Rattle.std.specs.Prelude.{◌≡◌, ℕ, ◌<◌, ◌^◌, All, true, Option, Some, None}
use Rattle.uv_records.specs.declared.handle.HandleRecord.{HandleRecord}
use Rattle.uv_records.specs.declared.slot.Slot.{Slot}
use Rattle.uv_records.specs.Handles.{is_timer}
use Rattle.uv_work.specs.declared.content.Content.{Content}
use Rattle.uv_records.specs.declared.named.Calls.{Calls}
use Rattle.uv_records.specs.declared.named.Named.{Named}
use Rattle.uv_model.specs.declared.place.Place.{Place}
use Rattle.uv_model.specs.declared.place.Place.TheVariants.{Main, Running}
use Rattle.uv_model.specs.Content.{handle_in}
use Rattle.uv_model.specs.State.{State}

-- the main line at which a place stands
abbrev pub line_of : Place → ℕ
line_of (Main line) = line
line_of (Running run) = run.line

-- an active timer drew its start number before this one
abbrev pub StartsBefore : ℕ → HandleRecord → Type 0
StartsBefore n h = is_timer h.kind ≡ true → h.active ≡ true → h.due.start < n

abbrev pub HoldsBefore : ℕ → Option HandleRecord → Type 0
HoldsBefore n None = Unit {0}
HoldsBefore n (Some h) = StartsBefore n h

-- the timers' keys are apart: each active timer drew its start number before the next one
abbrev pub AreDrawn : State → Type 0
AreDrawn s = All (λ (slot : Slot Content). HoldsBefore s.next_start (handle_in slot.content)) s.arena.slots

-- each of these counts is smaller than that
abbrev pub AreBelow : ℕ → Calls → Type 0
AreBelow n c = (c.handle < n) × (c.after < n) × (c.close < n)

-- the numbers fit their types
pub record IsSmall (s : State) : Type 0 where
  pub counts : All (λ (n : Named). AreBelow (2 ^ 31) n.calls) s.names
  pub starts : s.next_start < 2 ^ 63
  pub time : s.time < 2 ^ 63
  pub line : line_of s.place < 2 ^ 63
  -- how often each slot was freed
  pub freed : All (λ (slot : Slot Content). slot.generation < 2 ^ 31) s.arena.slots

-- what a step needs of the state
pub record CanStep (s : State) : Type 0 where
  pub small : IsSmall s
  pub drawn : AreDrawn s
