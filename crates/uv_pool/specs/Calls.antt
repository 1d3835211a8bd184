-- What each call of the book answers, and what it leaves.
use Rattle.std.specs.Prelude.{◌≡◌, ◌+◌, ◌-◌, ◌<◌, ◌≤◌, ◌⊎◌, ℕ, [], ◌∷◌, true, false, Option, Some, None, Result, Ok, Err, length, slice_get}
use Rattle.uv_ids.specs.Limits.{MOST_STEPS, MOST_WORKERS}
use Rattle.uv_ids.specs.declared.id.Id.{Id}
use Rattle.uv_ids.specs.declared.code.Code.{Code}
use Rattle.uv_ids.specs.declared.code.Code.TheVariants as code
use Rattle.uv_ids.specs.declared.fault.Fault.{Fault}
use Rattle.uv_ids.specs.declared.fault.Fault.TheVariants as fault
use Rattle.uv_ids.specs.declared.fault.Why.TheVariants as why
use Rattle.uv_work.specs.declared.job.Job.{Job}
use Rattle.uv_work.specs.Pool.{has, waits}
use Rattle.uv_work.specs.declared.result.WorkResult.{WorkResult}
use Rattle.uv_pool.specs.declared.places.Collected.{Collected}
use Rattle.uv_pool.specs.Contents.{fresh, pool_of, queued, taken, finished, cancelled, collected}
use Rattle.uv_pool.specs.Hold.{Hold}
use Rattle.uv_pool.specs.Sleepers.{none_asleep}
use Rattle.uv_pool.specs.Book.{Standing}

-- memory was wanted, since no room was reserved; the contents are as before
abbrev pub WantsMemory : Hold → Hold → Type 0
WantsMemory s t = (s.room ≡ false) × (length s.contents.log < MOST_STEPS) × (t.contents ≡ s.contents)

-- the log is as long as it may be; the contents are as before
abbrev pub IsFull : Hold → Hold → Type 0
IsFull s t = (MOST_STEPS ≤ length s.contents.log) × (t.contents ≡ s.contents)

-- room for one more entry
abbrev pub Reserves : Hold → Result (Unit {0}) Fault → Hold → Type 0
Reserves s (Ok _) t = (t.contents ≡ s.contents) × (t.room ≡ true) × (length s.contents.log < MOST_STEPS)
Reserves s (Err fault.Memory) t = WantsMemory s t
Reserves s (Err fault.Limit) t = IsFull s t
Reserves s (Err _) t = ⊥

-- a job goes to the end of those that wait; its request may not be in the pool
abbrev pub Submits : Hold → Job → Result (Unit {0}) Fault → Hold → Type 0
Submits s job (Ok _) t = (has (pool_of s.contents) job.req ≡ false) × (t.contents ≡ queued s.contents job)
Submits s job (Err (fault.Refused why.Range)) t = (has (pool_of s.contents) job.req ≡ true) × (t ≡ s)
Submits s job (Err fault.Memory) t = (has (pool_of s.contents) job.req ≡ false) × WantsMemory s t
Submits s job (Err fault.Limit) t = (has (pool_of s.contents) job.req ≡ false) × IsFull s t
Submits s job (Err _) t = ⊥

-- what a worker runs: none where there is no such worker
abbrev pub run_at : Hold → ℕ → Option (Option Job)
run_at s k = slice_get s.contents.running k

-- an idle worker gets the job that waited longest; none, and no entry, where nothing waits
abbrev pub TakesNext : Hold → ℕ → Result (Option Job) Fault → Hold → Type 0
TakesNext s k (Ok (Some job)) t = (run_at s k ≡ Some None) × (s.contents.waiting ≡ job ∷ t.contents.waiting)
    × (t.contents ≡ taken s.contents k job t.contents.waiting)
TakesNext s k (Ok None) t = (run_at s k ≡ Some None) × (s.contents.waiting ≡ []) × (t ≡ s)
TakesNext s k (Err (fault.Refused why.NoWorker)) t = (run_at s k ≡ None) × (t ≡ s)
TakesNext s k (Err (fault.Refused why.BusyWorker)) t = ((job : Job) × (run_at s k ≡ Some (Some job))) × (t ≡ s)
TakesNext s k (Err fault.Memory) t = (run_at s k ≡ Some None) × (s.contents.waiting ≡ [] → ⊥) × WantsMemory s t
TakesNext s k (Err fault.Limit) t = (run_at s k ≡ Some None) × (s.contents.waiting ≡ [] → ⊥) × IsFull s t
TakesNext s k (Err _) t = ⊥

-- the worker hands in the result of the very job that it runs
abbrev pub Finishes : Hold → ℕ → WorkResult → Result (Unit {0}) Fault → Hold → Type 0
Finishes s k r (Ok _) t = (run_at s k ≡ Some (Some r.job)) × (t.contents ≡ finished s.contents k r)
Finishes s k r (Err (fault.Refused why.NoWorker)) t = (run_at s k ≡ None) × (t ≡ s)
Finishes s k r (Err (fault.Refused why.IdleWorker)) t = (run_at s k ≡ Some None) × (t ≡ s)
Finishes s k r (Err (fault.Refused why.NoWork)) t = ((job : Job) × (run_at s k ≡ Some (Some job)) × (job ≡ r.job → ⊥)) × (t ≡ s)
Finishes s k r (Err fault.Memory) t = (run_at s k ≡ Some (Some r.job)) × WantsMemory s t
Finishes s k r (Err fault.Limit) t = (run_at s k ≡ Some (Some r.job)) × IsFull s t
Finishes s k r (Err _) t = ⊥

-- why a worker's result isn't taken: the worker doesn't run its job, no room was reserved, or the log is full
abbrev pub RefusesFinish : Hold → ℕ → WorkResult → Type 0
RefusesFinish s k r = (run_at s k ≡ Some (Some r.job) → ⊥) ⊎ (s.room ≡ false) ⊎ (MOST_STEPS ≤ length s.contents.log)

-- a request that waits is cancelled; EBUSY where it runs or is done, ESTALE where it isn't in the pool
abbrev pub Cancels : Hold → Id → Result Code Fault → Hold → Type 0
Cancels s id (Ok code.Ok) t = (waits (pool_of s.contents).waiting id ≡ true) × (t.contents ≡ cancelled s.contents id)
Cancels s id (Ok code.Ebusy) t = (waits (pool_of s.contents).waiting id ≡ false) × (has (pool_of s.contents) id ≡ true) × (t ≡ s)
Cancels s id (Ok code.Estale) t = (has (pool_of s.contents) id ≡ false) × (t ≡ s)
Cancels s id (Ok _) t = ⊥
Cancels s id (Err fault.Memory) t = (waits (pool_of s.contents).waiting id ≡ true) × WantsMemory s t
Cancels s id (Err fault.Limit) t = (waits (pool_of s.contents).waiting id ≡ true) × IsFull s t
Cancels s id (Err _) t = ⊥

-- the request that was done first leaves; none, and no entry, where none is done
abbrev pub CollectsNext : Hold → Result (Option Collected) Fault → Hold → Type 0
CollectsNext s (Ok (Some c)) t = (s.contents.done ≡ c ∷ t.contents.done) × (t.contents ≡ collected s.contents c t.contents.done)
CollectsNext s (Ok None) t = (s.contents.done ≡ []) × (t ≡ s)
CollectsNext s (Err fault.Memory) t = (s.contents.done ≡ [] → ⊥) × WantsMemory s t
CollectsNext s (Err fault.Limit) t = (s.contents.done ≡ [] → ⊥) × IsFull s t
CollectsNext s (Err _) t = ⊥

-- a fault comes with the result that was handed in
abbrev pub GivesBack : WorkResult → Result (Unit {0}) (Fault × WorkResult) → (Result (Unit {0}) Fault → Type 0) → Type 0
GivesBack r (Ok u) P = P (Ok u)
GivesBack r (Err e) P = P (Err e.0) × (e.1 ≡ r)

-- a worker's share comes off the book's own, which keeps a part
abbrev pub EnrolsAt : {S : Type 0} → Standing → ℕ → Result S Fault → Standing → Type 0
EnrolsAt s k (Ok share) t =
    (k < length s.hold.contents.running) × (1 < s.rest.spare)
    × (t ≡ record { hold = s.hold; rest = record s.rest { spare = s.rest.spare - 1 } })
EnrolsAt s k (Err (fault.Refused why.NoWorker)) t = (length s.hold.contents.running ≤ k) × (t ≡ s)
EnrolsAt s k (Err fault.Limit) t = (k < length s.hold.contents.running) × (s.rest.spare ≡ 1) × (t ≡ s)
EnrolsAt s k (Err _) t = ⊥

-- a book with an empty log; Range just outside 1 to 1024 workers
abbrev pub Opens : ℕ → Result Standing Fault → Type 0
Opens w (Ok b) = (0 < w) × (w ≤ MOST_WORKERS) × (b.hold.contents ≡ fresh w)
    × (b.rest ≡ record { closed = false; own = 0; spare = w + 1; sleepers = none_asleep })
Opens w (Err (fault.Refused why.Range)) = (w ≡ 0) ⊎ (MOST_WORKERS < w)
Opens w (Err fault.Memory) = (0 < w) × (w ≤ MOST_WORKERS)
Opens w (Err _) = ⊥
