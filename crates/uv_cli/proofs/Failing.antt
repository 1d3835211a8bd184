-- Why a live run fails.
use Rattle.std.proofs.Common.{ℕ, ◌≡◌, sym, subst}
use Rattle.uv_ids.specs.declared.fault.Fault.{Fault}
use Rattle.uv_ids.specs.declared.fault.Fault.TheVariants as fault
use Rattle.uv_live.specs.Faults.{IsRunFault}
use Rattle.uv_cli.specs.Live.{IsLiveFault}
use Rattle.uv_cli.specs.declared.live.NoRecording.TheVariants.{Failed}

pub run_fails : (n : ℕ) (f : Fault) → IsRunFault n f → IsLiveFault (Failed f)
run_fails n f h = (n, h)

pub no_memory_fails : (f : Fault) → f ≡ fault.Memory → IsLiveFault (Failed f)
no_memory_fails f e = (0, subst (IsRunFault 0) (sym e) tt)

pub ruleset failing = (run_fails, no_memory_fails)
