-- A worker finishes the request that it runs.
use Rattle.uv_loop.proofs.Names.{◌≡◌, ℕ, List, slice_get, slice_set, Some, None, Ok, Err, refl, sym, ap, ◌∙◌, subst, inr, Id, Finish, Why, Program, text_of, with_last, Job, Request, finished, job_of, FinishUndo, id_in, IsFinished, RefusesFinish, id_is, content_of, Place, found_or, State, with_id, Moves, Refuses, finish, work_of, job_in, job_run, RefusesResult, Content, Asked, request_of, Image, Held, working_of, OnlyWork, StandsFor, Leads, MayFinish, slots_set, ids_kept, asked_there, run_there, list_same, done_more, pool_stands, running_is}
use Rattle.uv_ids.specs.declared.seen.Seen.TheVariants as seen
use Rattle.uv_ids.specs.declared.fault.Why.TheVariants as why
use Rattle.uv_records.specs.declared.lists.ListName.TheVariants as name
use Rattle.uv_records.specs.Slots as plain
use Rattle.uv_arena.specs.Image as arena
use Rattle.uv_work.specs.Digests.{digest_of}
use Rattle.uv_work.specs.declared.outcome.Outcome.TheVariants as outcome
use Rattle.uv_requests.specs.Working as work
use Rattle.uv_model.specs.Content as model
use Rattle.uv_model.specs.Next.{next}

-- ---- what the event does

module _ (i : Image Place) (s : State) (k : ℕ) (d : Id) (r : Request) (h : StandsFor i s)
    (runs : slice_get i.running.workers k ≡ Some (Some d)) (there : work.request_in request_of i.arena d ≡ Some r) where
  -- the request as it is then
  abbrev pub ended_request : Request
  ended_request = record r { outcome = outcome.Finished (digest_of r.task.rounds (text_of r.task)) }

  abbrev pub finished_state : State
  finished_state = record s {
    arena = record s.arena { slots = plain.with_held s.arena.slots d (Asked ended_request) };
    running = slice_set s.running k None;
    done = with_last s.done d;
  }

  pub finish_moves : (p : Program) → next p s (Finish k) ≡ Moves finished_state (Some (seen.Finish k r.name d))
  unfolding next
  finish_moves p =
      ap (λ o. finish s k (work_of s o)) (run_there i s k (Some (Some d)) h runs)
      ∙ ap (λ o. finish s k (found_or (with_id d (model.request_in o)) Ok (Err why.IdleWorker))) (asked_there i s d r h there)

  -- the job that the worker runs
  pub job_there : job_run s k ≡ Some (job_of d r)
  job_there =
      ap (λ o. job_in (work_of s o)) (run_there i s k (Some (Some d)) h runs)
      ∙ ap (λ o. job_in (found_or (with_id d (model.request_in o)) Ok (Err why.IdleWorker))) (asked_there i s d r h there)

pub finish_refused : (p : Program) (i : Image Place) (s : State) (k : ℕ) (w : Why) → StandsFor i s
    → RefusesFinish request_of (working_of i) k w → next p s (Finish k) ≡ Refuses w
unfolding next
finish_refused p i s k why.NoWorker h e = ap (λ o. finish s k (work_of s o)) (run_there i s k None h e)
finish_refused p i s k why.IdleWorker h e = ap (λ o. finish s k (work_of s o)) (run_there i s k (Some None) h e)
finish_refused p i s k why.NoWork h e = absurd e
finish_refused p i s k why.Blocked h e = absurd e
finish_refused p i s k why.Ended h e = absurd e
finish_refused p i s k why.BusyWorker h e = absurd e
finish_refused p i s k why.Range h e = absurd e

-- the worker runs another job
pub other_refused : (p : Program) (i : Image Place) (s : State) (k : ℕ) (d : Id) (r : Request) (job : Job) → StandsFor i s → MayFinish i k d r
    → (job_of d r ≡ job → ⊥) → RefusesResult p s k job why.NoWork
other_refused p i s k d r job h may other = inr (refl, (job_of d r, job_there i s k d r h may.runs may.request, other))

-- ---- what the memory stands for then

module _ (i j : Image Place) (k : ℕ) (d e : Id) (r : Request) (job : Job) (digest : List ℕ) (u : FinishUndo) (may : MayFinish i k d r)
    (is : job_of d r ≡ job) (made : digest ≡ digest_of job.task.rounds (text_of job.task))
    (c : IsFinished request_of Asked (working_of i) (working_of j) k e job digest u) where
  one : e ≡ d
  one = cc (c.runs, may.runs)

  pub asked_now : work.request_in request_of i.arena e ≡ Some r
  asked_now = subst (λ z. work.request_in request_of i.arena z ≡ Some r) (sym one) may.request

  was : (x : Content) × (arena.held i.arena e ≡ Some x) × (request_of x ≡ Some r)
  was = content_of request_of i.arena e r asked_now

  ids : (x : ℕ) → id_in j.arena x ≡ id_in i.arena x
  ids = ids_kept i.arena j.arena e (Asked (finished digest c.from)) was.0 was.1 c.plain

  module _ (s : State) (h : StandsFor i s) where
    abbrev ended : Request
    ended = ended_request i s k e r h c.runs asked_now

    to : finished digest c.from ≡ ended
    to =
        let from : c.from ≡ r = cc (c.was, asked_now) in
        let done : digest ≡ digest_of r.task.rounds (text_of r.task) =
        made ∙ ap (λ (z : Job). digest_of z.task.rounds (text_of z.task)) (sym is) in
        λ l. record (from l) { outcome = outcome.Finished (done l) }

    pub finished_stands : StandsFor (record i { arena = j.arena; running = j.running }) (finished_state i s k e r h c.runs asked_now)
    finished_stands = pool_stands i s h j.arena j.running
        (record s.arena { slots = plain.with_held s.arena.slots e (Asked ended) }) s.waiting (slice_set s.running k None)
        (with_last s.done e) ids
        (λ l a b x. c.others l b)
        (list_same i j.arena ids name.Waiting s.waiting (h.lists name.Waiting) (c.others name.Waiting (λ z. cc)))
        (done_more i s j.arena e h (id_is i.arena e was.0 was.1) ids c.done)
        (list_same i j.arena ids name.DoneYet s.done.yet (h.lists name.DoneYet) (c.others name.DoneYet (λ z. cc)))
        (slots_set i s j.arena e (Asked (finished digest c.from)) h c.plain
        ∙ ap (λ (q : Request). (let z : plain.Slots Content = record s.arena { slots = plain.with_held s.arena.slots e (Asked q) } in z)) to)
        (ap (λ (z : work.Running). z.workers) c.running ∙ ap (λ rs. slice_set rs k None) (running_is h))

pub finish_leads : (h w : Held Place) (k : ℕ) (d e : Id) (r : Request) (job : Job) (digest : List ℕ) (u : FinishUndo)
    → MayFinish h.image k d r → job_of d r ≡ job → digest ≡ digest_of job.task.rounds (text_of job.task)
    → IsFinished request_of Asked (working_of h.image) (working_of w.image) k e job digest u → OnlyWork h.image w.image
    → (p : Program) → Leads p h.image w.image (Finish k) (Some (seen.Finish k r.name d))
finish_leads h w k d e r job digest u may same made c frame p s stands reached =
    let i = h.image in
    let j = w.image in
    let at = asked_now i j k d e r job digest u may same made c in (
      finished_state i s k e r stands c.runs at,
      finish_moves i s k e r stands c.runs at p
          ∙ ap (λ (z : Id). Moves (finished_state i s k e r stands c.runs at) (Some (seen.Finish k r.name z)))
          (one i j k d e r job digest u may same made c),
      subst (λ q. StandsFor q (finished_state i s k e r stands c.runs at)) (sym frame)
          (finished_stands i j k d e r job digest u may same made c s stands),
    )
