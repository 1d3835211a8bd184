-- What the memory of a loop shows: each of its parts.
use Rattle.std.specs.Prelude.{ℕ, List, Bool}
use Rattle.uv_arena.specs.Image.{Arena}
use Rattle.uv_heap.specs.Array.{Heap}
use Rattle.uv_records.specs.declared.named.Named.{Named}
use Rattle.uv_requests.specs.Working.{Running}
use Rattle.uv_timer.specs.declared.change.Times.{Times}
use Rattle.uv_work.specs.declared.content.Content.{Content}
use Rattle.uv_memory.specs.Record.{Record}

pub record MemoryParts (P : Type 0) : Type 0 where
  -- where the loop stands
  pub place : P
  pub names : List Named
  pub slots : Arena Content
  -- how many handles are active and referenced
  pub handles : ℕ
  pub requests : Running
  pub heap : Heap
  pub times : Times
  pub clock : ℕ
  pub stop_flag : Bool
  pub idled : Bool
  -- what takes the last step back
  pub step_record : Record P
