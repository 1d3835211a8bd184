-- A state whose names forget which of their slots' earlier generations they were bound to. Whatever else a state has stays.
use Rattle.std.specs.Prelude.{◌-◌, nat_lt, map, List, Option, Some, None, option_map, slice_get, if◌then◌else◌}
use Rattle.uv_ids.specs.declared.id.Id.{Id}
use Rattle.uv_records.specs.declared.named.Named.{Named}
use Rattle.uv_records.specs.declared.slot.Slot.{Slot}
use Rattle.uv_work.specs.declared.content.Content.{Content}
use Rattle.uv_model.specs.State.{State}

-- an id whose slot has gone on to a later generation gets the one just before that
abbrev pub staled_by : Id → Option (Slot Content) → Id
staled_by id None = id
staled_by id (Some slot) = if nat_lt id.generation slot.generation then record id { generation = slot.generation - 1 } else id

abbrev pub staled_id : List (Slot Content) → Id → Id
staled_id slots id = staled_by id (slice_get slots id.slot)

abbrev pub staled_name : List (Slot Content) → Named → Named
staled_name slots x = record x { id = option_map (staled_id slots) x.id }

abbrev pub staled : State → State
staled s = record s { names = map (staled_name s.arena.slots) s.names }
