-- With room made, an event that may follow the log is entered: no call refuses it.
use Rattle.uv_live.proofs.Names.{◌≡◌, ◌∙◌, ◌||◌, ◌<◌, List, [], ◌∷◌, ◌++◌, Bool, true, false, Option, Some, None, Result, Ok, Err, length, map, cond, refl, sym, ap, subst, arith, Id, Code, Fault, same_id, Job, Pool, IsLegal, has, waits, then_event, collected_from, PoolEvent, replay_more, same_when, Contents, pool_of, member, Hold, IsReplay, Submits, Cancels, CollectsNext, WantsMemory, IsFull, Collected}
use Rattle.uv_ids.specs.Limits.{MOST_STEPS}
use Rattle.uv_ids.specs.declared.code.Code.TheVariants as code
use Rattle.uv_ids.specs.declared.fault.Fault.TheVariants as fault
use Rattle.uv_ids.specs.declared.fault.Why.TheVariants as why
use Rattle.uv_work.specs.declared.event.PoolEvent.TheVariants as event

-- there is room for an event, which may follow the log
pub record IsNext (s : Hold) (e : PoolEvent) : Type 0 where
  pub room : s.room ≡ true
  pub less : length s.contents.log < MOST_STEPS
  pub replay : IsReplay s.contents
  pub legal : IsLegal (length s.contents.running) (s.contents.log ++ e ∷ [])

not_both : (b : Bool) → b ≡ true → b ≡ false → ⊥
not_both b t f = cc

no_want : (s t : Hold) (e : PoolEvent) → IsNext s e → WantsMemory s t → ⊥
no_want s t e n w = not_both s.room n.room w.0

not_full : (s t : Hold) (e : PoolEvent) → IsNext s e → IsFull s t → ⊥
not_full s t e n f = let less = n.less in let full = f.0 in omega (arith, less, full)

-- the pool of the book may take the event
pub may_be : (c : Contents) (e : PoolEvent) → IsReplay c → (l : IsLegal (length c.running) (c.log ++ e ∷ []))
    → then_event (Some (pool_of c)) e ≡ Some l.0
may_be c e replay l =
    ap (λ (o : Option Pool). then_event o e) (sym replay) ∙ (sym (replay_more (length c.running) c.log e) ∙ l.1)

is_false : (b : Bool) (p q : Pool) → cond b None (Some p) ≡ Some q → b ≡ false
is_false true p q h = cc
is_false false p q h = refl

pub is_true : (b : Bool) (p q : Pool) → cond b (Some p) None ≡ Some q → b ≡ true
is_true true p q h = refl
is_true false p q h = cc

is_new : (s : Hold) (id : Id) → IsNext s (event.Queue id) → has (pool_of s.contents) id ≡ false
is_new s id n = is_false (has (pool_of s.contents) id) _ n.legal.0 (may_be s.contents (event.Queue id) n.replay n.legal)

is_waiting : (s : Hold) (id : Id) → IsNext s (event.Cancel id) → waits (pool_of s.contents).waiting id ≡ true
is_waiting s id n = is_true (waits (pool_of s.contents).waiting id) _ n.legal.0 (may_be s.contents (event.Cancel id) n.replay n.legal)

abbrev log_of : Contents → List PoolEvent
log_of c = c.log

pub queue_entered : (s t : Hold) (job : Job) (r : Result (Unit {0}) Fault) → IsNext s (event.Queue job.req) → Submits s job r t
    → t.contents.log ≡ s.contents.log ++ event.Queue job.req ∷ []
queue_entered s t job (Ok u) n h = ap log_of h.1
queue_entered s t job (Err (fault.Refused why.Range)) n h = absurd (not_both _ h.0 (is_new s job.req n))
queue_entered s t job (Err fault.Memory) n h = absurd (no_want s t _ n h.1)
queue_entered s t job (Err fault.Limit) n h = absurd (not_full s t _ n h.1)
queue_entered s t job (Err f) n h = absurd h

only_waits : (w r : Bool) → w ≡ true → (w || r) ≡ false → ⊥
only_waits true r w h = cc
only_waits false r w h = cc

pub cancel_entered : (s t : Hold) (id : Id) (r : Result Code Fault) → IsNext s (event.Cancel id) → Cancels s id r t
    → t.contents.log ≡ s.contents.log ++ event.Cancel id ∷ []
cancel_entered s t id (Ok code.Ok) n h = ap log_of h.1
cancel_entered s t id (Ok code.Ebusy) n h = absurd (not_both _ (is_waiting s id n) h.0)
cancel_entered s t id (Ok code.Estale) n h = absurd (only_waits _ _ (is_waiting s id n) h.0)
cancel_entered s t id (Ok c) n h = absurd h
cancel_entered s t id (Err fault.Memory) n h = absurd (no_want s t _ n h.1)
cancel_entered s t id (Err fault.Limit) n h = absurd (not_full s t _ n h.1)
cancel_entered s t id (Err f) n h = absurd h

-- the request that is collected is the front of those that are done
front_is : (p : Pool) (id : Id) (done rest : List Collected) (c : Collected) (q : Pool) → done ≡ c ∷ rest
    → collected_from p id (map member done) ≡ Some q → c.id ≡ id
front_is p id done rest c q e h =
    let P : List Collected → Type 0 = λ xs. collected_from p id (map member xs) ≡ Some q in
    same_when c.id id (is_true (same_id c.id id) _ q (subst P e h))

none_done : (p : Pool) (id : Id) (done : List Collected) (q : Pool) → done ≡ [] → collected_from p id (map member done) ≡ Some q → ⊥
none_done p id done q e h =
    let P : List Collected → Type 0 = λ xs. collected_from p id (map member xs) ≡ Some q in
    let no : None ≡ Some q = subst P e h in cc

pub collect_entered : (s t : Hold) (id : Id) (r : Result (Option Collected) Fault) → IsNext s (event.Collect id) → CollectsNext s r t
    → t.contents.log ≡ s.contents.log ++ event.Collect id ∷ []
collect_entered s t id (Ok (Some c)) n h =
    let may = may_be s.contents (event.Collect id) n.replay n.legal in
    let front = front_is (pool_of s.contents) id s.contents.done t.contents.done c n.legal.0 h.0 may in
    ap log_of h.1 ∙ ap (λ (i : Id). s.contents.log ++ event.Collect i ∷ []) front
collect_entered s t id (Ok None) n h =
    absurd (none_done (pool_of s.contents) id s.contents.done n.legal.0 h.0 (may_be s.contents (event.Collect id) n.replay n.legal))
collect_entered s t id (Err fault.Memory) n h = absurd (no_want s t _ n h.1)
collect_entered s t id (Err fault.Limit) n h = absurd (not_full s t _ n h.1)
collect_entered s t id (Err f) n h = absurd h
