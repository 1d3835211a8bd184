-- What a worker may do by the pool's rules it may do as the next step.
use Rattle.uv_order.proofs.Names.{drop, ◌≡◌, ℕ, List, ◌∷◌, ◌++◌, true, Some, None, Ok, slice_get, refl, ap, ◌∙◌, events_both, Id, Event, Take, Finish, Program, worker_count, Pool, IsLegal, after_event, PoolEvent, Request, State, request, next_work, work_of, lines, has_id, run_ids, pool_events, pool_of, IsTakenAs, or-true, arith, replay, next, after, []}
use Rattle.uv_model.specs.Next as step
use Rattle.uv_order.proofs.Lemmas.{same, itself, has_both, runs_now, Working}
use Rattle.uv_order.proofs.Documents.{pools, holds_after}

-- after any steps the requests agree with their lists
works : (p : Program) (es : List Event) → Working (after p es)
works p es = (holds_after p es).holds.working

-- ---- an event that may follow

-- the pool after the events of these steps, and then after one more
legal_after : (p : Program) (es : List Event) (x : PoolEvent) → IsLegal (worker_count p) (pool_events p (lines p es) ++ x ∷ []) →
    (q : Pool) × (after_event (pool_of (after p es)) x ≡ Some q)
unfolding replay
legal_after p es x h = grind (arith, pools, events_both)

-- a request that is open is held
open_held : (s : State) (id : Id) → Working s → has_id (s.waiting ++ run_ids s.running) id ≡ true → (r : Request) × (request s id ≡ Some r)
open_held s id k h = let a = k.open_ones.each id h in (a.request, a.holds)

-- ---- take

pub record MayTake (s : State) (k : ℕ) (id : Id) : Type 0 where
  pub request : Request
  pub works : next_work s (slice_get s.running k) ≡ Ok (id, request)

takes_first : (s : State) (k : ℕ) (id : Id) (q : Pool) → after_event (pool_of s) (PoolEvent.Take k id) ≡ Some q →
    (s.waiting ≡ id ∷ drop 1 s.waiting) × (slice_get s.running k ≡ Some None)
takes_first s k id q h = grind (arith, same)

works_next : (s : State) (k : ℕ) (id : Id) (rest : List Id) (r : Request) → s.waiting ≡ id ∷ rest → slice_get s.running k ≡ Some None →
    request s id ≡ Some r → next_work s (slice_get s.running k) ≡ Ok (id, r)
works_next s k id rest r e f g = grind arith

may_take : (s : State) (k : ℕ) (id : Id) (q : Pool) → Working s → after_event (pool_of s) (PoolEvent.Take k id) ≡ Some q → MayTake s k id
may_take s k id q w h =
    let t = takes_first s k id q h in
    let r = open_held s id w (ap (λ (ids : List Id). has_id (ids ++ run_ids s.running) id) t.0 ∙ rw (itself id id refl) refl) in
    record { request = r.0; works = works_next s k id (drop 1 s.waiting) r.0 t.0 t.1 r.1 }

pub take_is_taken : (p : Program) (es : List Event) (k : ℕ) (id : Id) →
    IsLegal (worker_count p) (pool_events p (lines p es) ++ PoolEvent.Take k id ∷ []) → IsTakenAs p es (Take k) (PoolEvent.Take k id)
unfolding next
take_is_taken p es k id h =
    let l = legal_after p es (PoolEvent.Take k id) h in
    let m = may_take (after p es) k id l.0 (works p es) l.1 in
    record { state = _; line = _; moves = ap (step.take (after p es) k) m.works; is = refl }

-- ---- finish

pub record MayFinish (s : State) (k : ℕ) (id : Id) : Type 0 where
  pub request : Request
  pub works : work_of s (slice_get s.running k) ≡ Ok (id, request)

finishes : (s : State) (k : ℕ) (id : Id) (q : Pool) → after_event (pool_of s) (PoolEvent.Finish k id) ≡ Some q →
    slice_get s.running k ≡ Some (Some id)
finishes s k id q h = grind (arith, same)

works_now : (s : State) (k : ℕ) (id : Id) (r : Request) → slice_get s.running k ≡ Some (Some id) → request s id ≡ Some r →
    work_of s (slice_get s.running k) ≡ Ok (id, r)
works_now s k id r e f = grind arith

may_finish : (s : State) (k : ℕ) (id : Id) (q : Pool) → Working s → after_event (pool_of s) (PoolEvent.Finish k id) ≡ Some q → MayFinish s k id
may_finish s k id q w h =
    let t = finishes s k id q h in
    let on = has_both s.waiting (run_ids s.running) id ∙ rw (runs_now s.running k id t) (or-true (has_id s.waiting id)) in
    let r = open_held s id w on in record { request = r.0; works = works_now s k id r.0 t r.1 }

pub finish_is_taken : (p : Program) (es : List Event) (k : ℕ) (id : Id) →
    IsLegal (worker_count p) (pool_events p (lines p es) ++ PoolEvent.Finish k id ∷ []) → IsTakenAs p es (Finish k) (PoolEvent.Finish k id)
unfolding next
finish_is_taken p es k id h =
    let l = legal_after p es (PoolEvent.Finish k id) h in
    let m = may_finish (after p es) k id l.0 (works p es) l.1 in
    record { state = _; line = _; moves = ap (step.finish (after p es) k) m.works; is = refl }
