use Rattle.uv_state_key.proofs.Names.{◌≡◌, ◌≤◌, length, after, holds_in}
use Rattle.uv_state_key.proofs.tale.held_by.Given as goal

-- those before this one
abbrev pub invariant-loop-number : goal.invariant-loop-number
invariant-loop-number g l =
    let s = after (g.M.Machine.program l.machine) (g.M.Machine.standing l.machine) in record {
      holds : l.holds ≡ holds_in s.arena.slots l.number;
      within : l.number ≤ length s.arena.slots;
    }
