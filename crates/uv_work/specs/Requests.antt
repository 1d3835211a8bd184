-- The record of a request, what becomes of it, and when its cancel is refused.
use Rattle.std.specs.Prelude.{◌≡◌, ℕ, List, Bool, true, false, cond, Option, Some, None}
use Rattle.uv_ids.specs.declared.id.Id.{Id}
use Rattle.uv_ids.specs.declared.id.Var.{Var}
use Rattle.uv_ids.specs.declared.code.Code.{Code}
use Rattle.uv_ids.specs.declared.code.Code.TheVariants.{Estale, Ekind, Ebusy}
use Rattle.uv_work.specs.declared.task.Task.{Task}
use Rattle.uv_work.specs.Tasks.{text_of}
use Rattle.uv_work.specs.Digests.{digest_of}
use Rattle.uv_work.specs.declared.request.Request.{Request}
use Rattle.uv_work.specs.declared.job.Job.{Job}
use Rattle.uv_work.specs.declared.outcome.Outcome.{Outcome}
use Rattle.uv_work.specs.declared.outcome.Outcome.TheVariants.{Open, Finished, Cancelled}

-- it waits for a worker, or one runs it
abbrev pub is_open : Outcome → Bool
is_open Open = true
is_open (Finished digest) = false
is_open Cancelled = false

abbrev pub is_finished : Outcome → Bool
is_finished Open = false
is_finished (Finished digest) = true
is_finished Cancelled = false

-- a digest that a request was finished with is that of its task
abbrev pub IsDigest : Task → Outcome → Type 0
IsDigest task Open = Unit {0}
IsDigest task (Finished digest) = digest ≡ digest_of task.rounds (text_of task)
IsDigest task Cancelled = Unit {0}

-- a request as `queue` makes it
abbrev pub queued : Var → Task → Request
queued v task = record { name = v; task = task; outcome = Open }

-- the request, with what became of it
abbrev pub ended : Outcome → Request → Request
ended outcome r = record r { outcome = outcome }

abbrev pub finished : List ℕ → Request → Request
finished digest r = ended (Finished digest) r

abbrev pub cancelled : Request → Request
cancelled r = ended Cancelled r

-- the end of the request is taken back
abbrev pub reopened : Request → Request
reopened r = ended Open r

-- the digest that a request was finished with; none if it was cancelled
abbrev pub digest_in : Outcome → Option (List ℕ)
digest_in Open = None
digest_in (Finished digest) = Some digest
digest_in Cancelled = None

-- the job that it asks for, under its id
abbrev pub job_of : Id → Request → Job
job_of id r = record { req = id; task = r.task }

-- the refusal of `cancel v`, by what its name is bound to and whether that waits for a worker: ESTALE if nothing is held there any
-- more, EKIND if it is a handle, EBUSY if it doesn't wait
abbrev pub cancel_refusal : Option (Option Request) → Bool → Option Code
cancel_refusal None waits = Some Estale
cancel_refusal (Some None) waits = Some Ekind
cancel_refusal (Some (Some r)) waits = cond waits None (Some Ebusy)
