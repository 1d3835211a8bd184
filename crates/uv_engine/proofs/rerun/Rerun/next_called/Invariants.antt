use Rattle.uv_engine.proofs.Names.{◌≡◌, ◌-◌, ◌≤◌, length, called_from}
use Rattle.uv_engine.proofs.rerun.Rerun.next_called.Given as goal

-- none of the steps that were looked at calls back
abbrev pub invariant-steps : goal.invariant-steps
invariant-steps g l =
    let p = g.M.Machine.program l.initial.self.machine in
    let es = g.M.Machine.standing l.initial.self.machine in
    record {
      none : called_from p es l.initial.self.looked ≡ called_from p es l.self.looked;
      within : l.self.looked ≤ length es;
      machine : l.self.machine ≡ l.initial.self.machine;
      halted : l.self.halted ≡ l.initial.self.halted;
      count : l.self.count ≡ l.initial.self.count;
      parted : l.self.parted ≡ l.initial.self.parted;
    }

abbrev pub decreases-steps : goal.decreases-steps
decreases-steps g l = length (g.M.Machine.standing l.initial.self.machine) - l.self.looked
