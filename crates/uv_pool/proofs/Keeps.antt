-- Each call keeps the book's rule: the pool is the replay of the log, and the ledger counts the finishes.
use Rattle.uv_pool.proofs.Names.{◌≡◌, ℕ, ◌+◌, Option, Some, None, Result, Ok, Err, refl, ap, sym, subst, arith, is_ok, cond, length, length-set, Id, Code, Fault, Job, WorkResult, IsCounted, IsReplay, finish_count, Reserves, Submits, TakesNext, Finishes, Cancels, CollectsNext, Contents, queued, taken, finished, cancelled, collected, Hold, Collected}
use Rattle.uv_ids.specs.declared.code.Code.TheVariants as code
use Rattle.uv_ids.specs.declared.fault.Fault.TheVariants as fault
use Rattle.uv_ids.specs.declared.fault.Why.TheVariants as why
use Rattle.uv_work.specs.declared.event.PoolEvent.TheVariants as event
use Rattle.uv_pool.proofs.Replays.{replays_queue, replays_take, replays_finish, replays_cancel, replays_collect, count_more}

-- the rule holds after the call, and so many finishes are new
pub record Keeps (s t : Contents) (n : ℕ) : Type 0 where
  pub replay : IsReplay t
  pub count : finish_count t.log ≡ finish_count s.log + n
  pub workers : length t.running ≡ length s.running

pub counted : (s t : Contents) (n total own spare later : ℕ) → Keeps s t n → IsCounted s total own spare → later ≡ total + n
    → IsCounted t later own spare
counted s t n total own spare later k i more = grind arith

same : (s t : Contents) → IsReplay s → t ≡ s → Keeps s t 0
same s t h e = let P : Contents → Type 0 = λ x. Keeps s x 0 in subst P (sym e) (record { replay = h; count = omega arith; workers = refl })

same_hold : (s t : Hold) → IsReplay s.contents → t ≡ s → Keeps s.contents t.contents 0
same_hold s t h e = same s.contents t.contents h (ap (λ (x : Hold). x.contents) e)

moved : (s t u : Contents) (n : ℕ) → Keeps s u n → t ≡ u → Keeps s t n
moved s t u n h e = let P : Contents → Type 0 = λ x. Keeps s x n in subst P (sym e) h

pub submit_keeps : (s t : Hold) (job : Job) (r : Result (Unit {0}) Fault) → Submits s job r t → IsReplay s.contents → Keeps s.contents t.contents 0
submit_keeps s t job r h k = grind (arith, moved, replays_queue, count_more, same, same_hold)

pub take_keeps : (s t : Hold) (n : ℕ) (r : Result (Option Job) Fault) → TakesNext s n r t → IsReplay s.contents → Keeps s.contents t.contents 0
take_keeps s t n r h k = grind (arith, moved, replays_take, count_more, length-set, same_hold, same)

pub finish_keeps : (s t : Hold) (n : ℕ) (w : WorkResult) (r : Result (Unit {0}) Fault) → Finishes s n w r t → IsReplay s.contents
    → Keeps s.contents t.contents (cond (is_ok r) 1 0)
finish_keeps s t n w r h k = grind (arith, moved, replays_finish, count_more, length-set, same, same_hold)

pub cancel_keeps : (s t : Hold) (id : Id) (r : Result Code Fault) → Cancels s id r t → IsReplay s.contents → Keeps s.contents t.contents 0
cancel_keeps s t id r h k = grind (arith, moved, replays_cancel, count_more, same_hold, same)

pub collect_keeps : (s t : Hold) (r : Result (Option Collected) Fault) → CollectsNext s r t → IsReplay s.contents → Keeps s.contents t.contents 0
collect_keeps s t r h k = grind (arith, moved, replays_collect, count_more, same_hold, same)
