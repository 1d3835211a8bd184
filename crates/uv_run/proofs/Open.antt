-- How many requests are open by the pool's events: as many as were queued, and neither finished nor cancelled.
use Rattle.uv_run.proofs.Names.{◌≡◌, ◌∙◌, ℕ, zero, suc, ◌+◌, Bool, true, false, cond, List, [], ◌∷◌, ◌++◌, length, nat_lt, slice_get, slice_set, Option, Some, None, refl, sym, ap, arith, length-append, is_true, count_by, nat_tests, sum_by-cons, Id, same_id, Pool, Done, busy, has, waits, without, empty_pool, taken_by, finished_by, collected_from, after_event, after_events, IsLegal, PoolEvent, busy_set_some, busy_set_none, without_one, open_in, has_work, is_at_work, is_queue, is_end}
use Rattle.uv_work.specs.Pool.{replay}
use Rattle.uv_work.specs.declared.event.PoolEvent.TheVariants as event

is_it : (b : Bool) (x y : Pool) → cond b (Some x) None ≡ Some y → x ≡ y
is_it true x y h = cc
is_it false x y h = cc

is_not : (b : Bool) (x y : Pool) → cond b None (Some x) ≡ Some y → x ≡ y
is_not true x y h = cc
is_not false x y h = cc

-- one event more
abbrev Moves : Pool → PoolEvent → Pool → Type 0
Moves p e q = cond (is_queue e) 1 0 + open_in p ≡ open_in q + cond (is_end e) 1 0

queues : (p q : Pool) (id : Id) → after_event p (event.Queue id) ≡ Some q → Moves p (event.Queue id) q
queues p q id h =
    let same = is_not (has p id) _ q h in
    let long = length-append p.waiting (id ∷ []) in
    let opened : 1 + open_in p ≡ length (record p { waiting = p.waiting ++ id ∷ [] }).waiting + busy p.running = omega (arith, long) in
    opened ∙ ap open_in same ∙ omega arith

takes : (p q : Pool) (k : ℕ) (id : Id) (run : Option (Option Id)) (waiting : List Id) → slice_get p.running k ≡ run → p.waiting ≡ waiting
    → taken_by p k id run waiting ≡ Some q → open_in p ≡ open_in q
takes p q k id None waiting r w h = cc
takes p q k id (Some (Some x)) waiting r w h = cc
takes p q k id (Some None) [] r w h = cc
takes p q k id (Some None) (front ∷ rest) r w h =
    let same = is_it (same_id front id) _ q h in
    let more = busy_set_some p.running k front r in
    let less = ap (λ (xs : List Id). length xs) w in
    let opened : open_in p ≡ length rest + busy (slice_set p.running k (Some front)) = omega (arith, more, less) in
    opened ∙ ap open_in same

finishes : (p q : Pool) (k : ℕ) (id : Id) (run : Option (Option Id)) → slice_get p.running k ≡ run → finished_by p k id run ≡ Some q
    → open_in p ≡ open_in q + 1
finishes p q k id None r h = cc
finishes p q k id (Some None) r h = cc
finishes p q k id (Some (Some x)) r h =
    let same = is_it (same_id x id) _ q h in
    let less = busy_set_none p.running k x r in
    let opened : open_in p ≡ (length p.waiting + busy (slice_set p.running k None)) + 1 = omega (arith, less) in
    opened ∙ ap (λ (u : Pool). open_in u + 1) same

cancels : (p q : Pool) (id : Id) → after_event p (event.Cancel id) ≡ Some q → open_in p ≡ open_in q + 1
cancels p q id h =
    let same = is_it (waits p.waiting id) _ q h in
    let less = without_one p.waiting id (is_true (waits p.waiting id) _ q h) in
    let opened : open_in p ≡ (length (without p.waiting id) + busy p.running) + 1 = omega (arith, less) in
    opened ∙ ap (λ (u : Pool). open_in u + 1) same

collects : (p q : Pool) (id : Id) (done : List Done) → collected_from p id done ≡ Some q → open_in p ≡ open_in q
collects p q id [] h = cc
collects p q id (front ∷ rest) h = ap open_in (is_it (same_id front.id id) _ q h)

moves : (p q : Pool) (e : PoolEvent) → after_event p e ≡ Some q → Moves p e q
moves p q (event.Queue id) h = queues p q id h
moves p q (event.Take k id) h =
    let same = takes p q k id (slice_get p.running k) p.waiting refl refl h in omega (arith, same)
moves p q (event.Finish k id) h = let less = finishes p q k id (slice_get p.running k) refl h in omega (arith, less)
moves p q (event.Cancel id) h = let less = cancels p q id h in omega (arith, less)
moves p q (event.Collect id) h = let same = collects p q id p.done h in omega (arith, same)

none_after : (es : List PoolEvent) (q : Pool) → after_events None es ≡ Some q → ⊥
none_after [] q h = cc
none_after (e ∷ es) q h = none_after es q h

all_moves : (p q : Pool) (es : List PoolEvent) → after_events (Some p) es ≡ Some q
    → count_by is_queue es + open_in p ≡ open_in q + count_by is_end es
all_moves p q [] h = let same : p ≡ q = cc in let opened = ap open_in same in omega (arith, opened)
all_moves p q (e ∷ es) h = at (after_event p e) refl h (λ r rest. all_moves r q es rest) where
  at : (o : Option Pool) → after_event p e ≡ o → after_events o es ≡ Some q
      → ((r : Pool) → after_events (Some r) es ≡ Some q → count_by is_queue es + open_in r ≡ open_in q + count_by is_end es)
      → count_by is_queue (e ∷ es) + open_in p ≡ open_in q + count_by is_end (e ∷ es)
  at None first rest more = absurd (none_after es q rest)
  at (Some r) first rest more =
      let one = moves p r e first in
      let all = more r rest in
      let queued = sum_by-cons (λ x. cond (is_queue x) 1 0) e es in
      let ended = sum_by-cons (λ x. cond (is_end x) 1 0) e es in
      omega (arith, one, all, queued, ended)

no_worker_runs : (n : ℕ) → open_in (empty_pool n) ≡ 0
no_worker_runs zero = refl
no_worker_runs (suc n) = no_worker_runs n

less_is : (m n k : ℕ) → m ≡ k + n → nat_lt n m ≡ nat_lt 0 k
less_is m n k e = grind (arith, nat_tests)

-- a request waits or runs just where more were queued than finished or cancelled
pub at_work : (workers : ℕ) (es : List PoolEvent) → IsLegal workers es → nat_lt (count_by is_end es) (count_by is_queue es) ≡ is_at_work workers es
unfolding replay
at_work workers es (q, h) = counted ∙ ap has_work (sym h) where
  all : count_by is_queue es + open_in (empty_pool workers) ≡ open_in q + count_by is_end es
  all = all_moves (empty_pool workers) q es h

  counted : nat_lt (count_by is_end es) (count_by is_queue es) ≡ has_work (Some q)
  counted = let none = no_worker_runs workers in less_is (count_by is_queue es) (count_by is_end es) (open_in q) (omega (arith, all, none))
