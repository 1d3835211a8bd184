-- The faults of workers are among those of a run, and so are those of a loop.
use Rattle.uv_live.proofs.Names.{◌≡◌, ℕ, List, true, Fault, refl, sym, subst, inl, inr, ◌⊎◌, Err, Course, Syncs, Hold, PoolEvent, Settles, IsWorkerFault, Opens, Reserves}
use Rattle.uv_ids.specs.declared.fault.Fault.TheVariants as fault
use Rattle.uv_ids.specs.declared.fault.Why.TheVariants as why
use Rattle.uv_live.specs.Faults.{IsLoopFault, IsRunFault, IsStepFault, IsSyncFault, IsTurnFault, is_workers}

neither : ⊥ ⊎ ⊥ ⊎ ⊥ → ⊥
neither (inl h) = h
neither (inr (inl h)) = h
neither (inr (inr h)) = h

pub of_worker : (f : Fault) → IsWorkerFault f → is_workers f ≡ true
of_worker (fault.Refused why.NoWorker) h = refl
of_worker (fault.Refused why.BusyWorker) h = refl
of_worker (fault.Refused why.IdleWorker) h = refl
of_worker (fault.Refused why.NoWork) h = refl
of_worker fault.Memory h = refl
of_worker fault.Limit h = refl
of_worker _ h = absurd (neither h)

pub worker_runs : (n : ℕ) (f : Fault) → is_workers f ≡ true → IsRunFault n f
worker_runs n (fault.Refused why.NoWorker) h = tt
worker_runs n (fault.Refused why.BusyWorker) h = tt
worker_runs n (fault.Refused why.IdleWorker) h = tt
worker_runs n (fault.Refused why.NoWork) h = tt
worker_runs n fault.Memory h = tt
worker_runs n fault.Limit h = tt
worker_runs n _ h = cc h

pub loop_runs : (n : ℕ) (f : Fault) → IsLoopFault f → IsRunFault n f
loop_runs n (fault.Torn at) h = tt
loop_runs n fault.Memory h = tt
loop_runs n fault.StepsFull h = tt
loop_runs n fault.Limit h = tt
loop_runs n fault.Stalled h = tt
loop_runs n _ h = absurd h

pub sync_runs : (n : ℕ) (log : List PoolEvent) (s t : Course) (f : Fault) → Syncs log s (Err f) t → IsRunFault n f
sync_runs n log s t (fault.Torn at) h = tt
sync_runs n log s t fault.Memory h = tt
sync_runs n log s t fault.StepsFull h = tt
sync_runs n log s t _ h = absurd h

pub settle_runs : (n : ℕ) (P : Type 0) (events log : List PoolEvent) (f : Fault) → Settles P events log (Err f) → IsRunFault n f
settle_runs n P events log (fault.Torn at) h = tt
settle_runs n P events log _ h = absurd h

pub sync_turns : (f : Fault) → IsSyncFault f → IsTurnFault f
sync_turns (fault.Torn at) h = tt
sync_turns fault.Memory h = tt
sync_turns fault.StepsFull h = tt
sync_turns _ h = absurd h

pub step_turns : (f : Fault) → IsStepFault f → IsTurnFault f
step_turns (fault.Refused why.Blocked) h = tt
step_turns (fault.Refused why.Ended) h = tt
step_turns fault.Memory h = tt
step_turns fault.StepsFull h = tt
step_turns _ h = absurd h

pub room_turns : (s t : Hold) (f : Fault) → Reserves s (Err f) t → IsTurnFault f
room_turns s t fault.Memory h = tt
room_turns s t fault.Limit h = tt
room_turns s t _ h = absurd h

pub no_memory_runs : (n : ℕ) (f : Fault) → f ≡ fault.Memory → IsRunFault n f
no_memory_runs n f e = subst (IsRunFault n) (sym e) tt

pub no_memory_loops : (f : Fault) → f ≡ fault.Memory → IsLoopFault f
no_memory_loops f e = subst IsLoopFault (sym e) tt

pub no_sender_loops : (f : Fault) → (f ≡ fault.Memory) ⊎ (f ≡ fault.Limit) → IsLoopFault f
no_sender_loops f (inl e) = subst IsLoopFault (sym e) tt
no_sender_loops f (inr e) = subst IsLoopFault (sym e) tt

-- there is no pool of so many workers, or no memory for one
pub no_pool : (m n : ℕ) (f : Fault) → m ≡ n → Opens m (Err f) → IsRunFault n f
no_pool m n f e h = subst (λ (k : ℕ). IsRunFault k f) e (of m f h) where
  of : (k : ℕ) (g : Fault) → Opens k (Err g) → IsRunFault k g
  of k (fault.Refused why.Range) i = i
  of k fault.Memory i = tt
  of k _ i = absurd i

pub ruleset faults = (
  of_worker,
  worker_runs,
  loop_runs,
  sync_runs,
  settle_runs,
  sync_turns,
  step_turns,
  room_turns,
  no_memory_runs,
  no_memory_loops,
  no_sender_loops,
  no_pool,
)
