-- What the pool's book holds: its log, and the pool with the jobs and the results.
use Rattle.std.specs.Prelude.{◌≡◌, ℕ, List, [], ◌∷◌, ◌++◌, Option, Some, None, map, is_some, slice_set, replicate, cond}
use Rattle.uv_ids.specs.declared.id.Id.{Id}
use Rattle.uv_work.specs.declared.job.Job.{Job}
use Rattle.uv_work.specs.Ids.{same_id}
use Rattle.uv_work.specs.Pool.{Pool, Done}
use Rattle.uv_work.specs.declared.event.PoolEvent.{PoolEvent}
use Rattle.uv_work.specs.declared.event.PoolEvent.TheVariants as event
use Rattle.uv_work.specs.declared.result.WorkResult.{WorkResult}
use Rattle.uv_pool.specs.declared.places.Collected.{Collected}

pub record Contents : Type 0 where
  pub log : List PoolEvent
  pub waiting : List Job
  pub running : List (Option Job)
  pub done : List Collected

-- an empty log, and so many workers that run nothing
abbrev pub fresh : ℕ → Contents
fresh workers = record { log = []; waiting = []; running = replicate workers None; done = [] }

abbrev pub id_run : Option Job → Option Id
id_run None = None
id_run (Some job) = Some job.req

abbrev pub member : Collected → Done
member c = record { id = c.id; finished = is_some c.result }

-- the pool, by its ids
abbrev pub pool_of : Contents → Pool
pool_of c = record { waiting = map (λ (job : Job). job.req) c.waiting; running = map id_run c.running; done = map member c.done }

-- those that wait, without the first one of this id
abbrev pub jobs_without : List Job → Id → List Job
jobs_without [] id = []
jobs_without (x ∷ xs) id = cond (same_id x.req id) xs (x ∷ jobs_without xs id)

-- Each event, with what the book holds after it.

abbrev pub queued : Contents → Job → Contents
queued c job = record { log = c.log ++ event.Queue job.req ∷ []; waiting = c.waiting ++ job ∷ []; running = c.running; done = c.done }

abbrev pub taken : Contents → ℕ → Job → List Job → Contents
taken c k job rest = record { log = c.log ++ event.Take k job.req ∷ []; waiting = rest; running = slice_set c.running k (Some job); done = c.done }

abbrev pub finished : Contents → ℕ → WorkResult → Contents
finished c k r = record {
  log = c.log ++ event.Finish k r.job.req ∷ [];
  waiting = c.waiting;
  running = slice_set c.running k None;
  done = c.done ++ record { id = r.job.req; result = Some r } ∷ [];
}

abbrev pub cancelled : Contents → Id → Contents
cancelled c id = record {
  log = c.log ++ event.Cancel id ∷ [];
  waiting = jobs_without c.waiting id;
  running = c.running;
  done = c.done ++ record { id = id; result = None } ∷ [];
}

abbrev pub collected : Contents → Collected → List Collected → Contents
collected c front rest = record { log = c.log ++ event.Collect front.id ∷ []; waiting = c.waiting; running = c.running; done = rest }

-- the result that was finished and not collected
abbrev pub result_in : List Collected → Id → Option WorkResult
result_in [] id = None
result_in (c ∷ cs) id = cond (same_id c.id id) c.result (result_in cs id)

-- the front of those that wait is taken; none where nothing waits
abbrev pub Takes : Contents → ℕ → Option Job → Contents → Type 0
Takes c k None after = (c.waiting ≡ []) × (after ≡ c)
Takes c k (Some job) after = (c.waiting ≡ job ∷ after.waiting) × (after ≡ taken c k job after.waiting)

-- the front of those that are done leaves; none where nothing is done
abbrev pub Collects : Contents → Option Collected → Contents → Type 0
Collects c None after = (c.done ≡ []) × (after ≡ c)
Collects c (Some front) after = (c.done ≡ front ∷ after.done) × (after ≡ collected c front after.done)
