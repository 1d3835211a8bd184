-- The pool stays the replay of the log.
use Rattle.uv_pool.proofs.Names.{◌≡◌, ℕ, ◌+◌, List, ◌∷◌, [], ◌++◌, true, false, Option, Some, None, map, refl, ap, ◌∙◌, length, cond, slice_get, arith, replicate, zero, suc, Bool, map-append, map-set, length-set, length-replicate, sum_by-append, slice_get-map, Id, same_id, has, waits, without, Job, PoolEvent, WorkResult, replay_more, same_itself, IsReplay, is_finish, finish_count, Contents, fresh, pool_of, id_run, member, jobs_without, queued, taken, finished, cancelled, collected, Collected}
use Rattle.uv_work.specs.Pool.{replay}
use Rattle.uv_work.specs.declared.event.PoolEvent.TheVariants as event

pub replays_queue : (c : Contents) (job : Job) → IsReplay c → has (pool_of c) job.req ≡ false → IsReplay (queued c job)
replays_queue c job h new = grind (arith, replay_more, map-append)

pub replays_take : (c : Contents) (k : ℕ) (job : Job) (rest : List Job) → IsReplay c → slice_get c.running k ≡ Some None
    → c.waiting ≡ job ∷ rest → IsReplay (taken c k job rest)
replays_take c k job rest h idle front = grind (arith, length-set, replay_more, slice_get-map, same_itself, map-set)

pub replays_finish : (c : Contents) (k : ℕ) (r : WorkResult) → IsReplay c → slice_get c.running k ≡ Some (Some r.job) → IsReplay (finished c k r)
replays_finish c k r h runs = grind (arith, length-set, replay_more, slice_get-map, same_itself, map-set, map-append)

without_mapped : (xs : List Job) (id : Id) → without (map (λ (j : Job). j.req) xs) id ≡ map (λ (j : Job). j.req) (jobs_without xs id)
without_mapped [] id = refl
without_mapped (x ∷ xs) id = grind (arith, (without_mapped xs id))

pub replays_cancel : (c : Contents) (id : Id) → IsReplay c → waits (pool_of c).waiting id ≡ true → IsReplay (cancelled c id)
replays_cancel c id h is =
    rw (
      replay_more (length c.running) c.log (event.Cancel id),
      h,
      is,
      without_mapped c.waiting id,
      map-append member c.done (record { id = id; result = None } ∷ []),
    ) refl

pub replays_collect : (c : Contents) (front : Collected) (rest : List Collected) → IsReplay c → c.done ≡ front ∷ rest
    → IsReplay (collected c front rest)
replays_collect c front rest h is = grind (arith, replay_more, same_itself)

pub count_more : (log : List PoolEvent) (e : PoolEvent) → finish_count (log ++ e ∷ []) ≡ finish_count log + cond (is_finish e) 1 0
count_more log e = sum_by-append (λ (x : PoolEvent). cond (is_finish x) 1 0) log (e ∷ []) ∙ omega arith

none_run : (n : ℕ) → map id_run (replicate n None) ≡ replicate n None
none_run zero = refl
none_run (suc n) = ap (λ (xs : List (Option Id)). None ∷ xs) (none_run n)

pub replays_fresh : (workers : ℕ) → IsReplay (fresh workers)
unfolding replay
replays_fresh workers = rw (length-replicate workers (let x : Option Job = None in x), none_run workers) refl
