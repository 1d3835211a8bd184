use Rattle.uv_state_key.proofs.Names.{◌≡◌, ◌≤◌, ◌++◌, length, take, flat_map, after, holds_in}
use Rattle.uv_state_key.specs.Key.{slot_code}
use Rattle.uv_state_key.proofs.state.push_slots.Given as goal

-- those before this one
abbrev pub invariant-loop-number : goal.invariant-loop-number
invariant-loop-number g l =
    let s = after (g.M.Machine.program l.machine) (g.M.Machine.standing l.machine) in record {
      items : l.out.items ≡ l.initial.out.items ++ flat_map slot_code (take l.number s.arena.slots);
      holds : l.holds ≡ holds_in s.arena.slots l.number;
      within : l.number ≤ length s.arena.slots;
    }
