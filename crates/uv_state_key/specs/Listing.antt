-- Lists as the code writes them: their members by their ids, or by the numbers of their names.
use Rattle.std.specs.Prelude.{ℕ, List, ◌++◌, Bool, true, false}
use Rattle.uv_ids.specs.declared.id.Id.{Id}
use Rattle.uv_records.specs.declared.slot.Slot.{Slot}
use Rattle.uv_records.specs.Walks.{Walk}
use Rattle.uv_work.specs.declared.content.Content.{Content}
use Rattle.uv_model.specs.State.{State}
use Rattle.uv_shift.specs.Shift.{By}
use Rattle.uv_tale.specs.Tale.{as_id, name_at, runs_at, tale_by}
use Rattle.uv_key.specs.Codes.{number_code, list_code}
use Rattle.uv_state_key.specs.Key.{id_code, place_code, numbers_code}
use Rattle.uv_state_key.specs.TaleKey.{run_name_code, told_code}

-- the number of the name of what an id is of, as an id
abbrev pub named_id : List (Slot Content) → Id → Id
named_id slots id = as_id (name_at slots id)

abbrev pub member_code : Bool → List (Slot Content) → Id → List ℕ
member_code false slots id = id_code id
member_code true slots id = number_code (name_at slots id)

abbrev pub members_code : Bool → List (Slot Content) → List Id → List ℕ
members_code named slots ids = list_code (member_code named slots) ids

abbrev pub members_walk_code : Bool → List (Slot Content) → Walk Id → List ℕ
members_walk_code named slots w = members_code named slots w.list ++ members_code named slots w.yet

-- those of the lists that sections walk
unfoldable pub walks_code : Bool → State → List ℕ
walks_code named s =
    members_walk_code named s.arena.slots s.watchers.idle ++ members_walk_code named s.arena.slots s.watchers.prepare
    ++ members_walk_code named s.arena.slots s.watchers.check ++ members_walk_code named s.arena.slots s.watchers.async

-- the requests that wait, that workers run, and that are done, by names
unfoldable pub named_requests_code : State → List ℕ
named_requests_code s =
    members_code true s.arena.slots s.waiting ++ list_code run_name_code (runs_at s.arena.slots s.running)
    ++ members_walk_code true s.arena.slots s.done

-- all lists, by names
unfoldable pub named_lists_code : State → List ℕ
named_lists_code s =
    members_code true s.arena.slots s.ready ++ walks_code true s ++ members_walk_code true s.arena.slots s.closing ++ named_requests_code s

-- what is told of a state, with these lists
unfoldable pub told_state_code : By → ℕ → State → List ℕ
told_state_code d n s =
    let t = tale_by d n s in
    place_code t.place ++ list_code told_code t.names ++ number_code t.used ++ number_code t.unused ++ named_lists_code s ++ numbers_code t.numbers
