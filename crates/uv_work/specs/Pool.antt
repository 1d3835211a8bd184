-- The rules of the thread pool (libuv's "Thread pool work scheduling"), by the ids of its requests: they are taken in
-- the order in which they were queued, and one that a worker took can't be cancelled any more. That a cancelled one
-- can't be cancelled again is own.
use Rattle.std.specs.Prelude.{◌≡◌, ◌||◌, ℕ, ◌+◌, List, [], ◌∷◌, ◌++◌, Bool, true, false, cond, Option, Some, None, length, slice_get, slice_set, replicate}
use Rattle.std.specs.List.{list_any}
use Rattle.uv_ids.specs.declared.id.Id.{Id}
use Rattle.uv_work.specs.Ids.{same_id}
use Rattle.uv_work.specs.declared.event.PoolEvent.{PoolEvent}
use Rattle.uv_work.specs.declared.event.PoolEvent.TheVariants as event

-- a request that is done: it was finished, or else cancelled
pub record Done : Type 0 where
  pub id : Id
  pub finished : Bool

-- those that wait, the longest one first; what each worker runs, by its number; those that are done, the first one first
pub record Pool : Type 0 where
  pub waiting : List Id
  pub running : List (Option Id)
  pub done : List Done

-- nothing was queued, and there are so many workers
abbrev pub empty_pool : ℕ → Pool
empty_pool workers = record { waiting = []; running = replicate workers None; done = [] }

abbrev pub waits : List Id → Id → Bool
waits waiting id = list_any (λ (x : Id). same_id x id) waiting

abbrev pub is_run : Option Id → Id → Bool
is_run None id = false
is_run (Some x) id = same_id x id

abbrev pub runs : List (Option Id) → Id → Bool
runs running id = list_any (λ (x : Option Id). is_run x id) running

abbrev pub is_done : List Done → Id → Bool
is_done done id = list_any (λ (x : Done). same_id x.id id) done

-- the request is in the pool: it waits, runs or is done
abbrev pub has : Pool → Id → Bool
has p id = waits p.waiting id || (runs p.running id || is_done p.done id)

-- how many workers run a request
abbrev pub busy : List (Option Id) → ℕ
busy [] = 0
busy (None ∷ running) = busy running
busy (Some id ∷ running) = 1 + busy running

-- how many requests are in the pool: those that are open, from their queue to their collect
abbrev pub size : Pool → ℕ
size p = length p.waiting + busy p.running + length p.done

-- those that wait, without the first one of this id
abbrev pub without : List Id → Id → List Id
without [] id = []
without (x ∷ xs) id = cond (same_id x id) xs (x ∷ without xs id)

-- One rule an event: the pool after it, or none where the event can't be.

-- a request that isn't in the pool goes to the end of those that wait
abbrev pub after_queue : Pool → Id → Option Pool
after_queue p id = cond (has p id) None (Some (record p { waiting = p.waiting ++ id ∷ [] }))

-- a worker that runs nothing takes the front of those that wait, and this request is the front
abbrev pub taken_by : Pool → ℕ → Id → Option (Option Id) → List Id → Option Pool
taken_by p k id (Some None) (front ∷ rest) =
    cond (same_id front id) (Some (record p { waiting = rest; running = slice_set p.running k (Some front) })) None
taken_by p k id run waiting = None

abbrev pub after_take : Pool → ℕ → Id → Option Pool
after_take p k id = taken_by p k id (slice_get p.running k) p.waiting

-- the worker runs this request, which goes finished to the end of those that are done
abbrev pub finished_by : Pool → ℕ → Id → Option (Option Id) → Option Pool
finished_by p k id (Some (Some x)) =
    cond (same_id x id) (Some (record p { running = slice_set p.running k None; done = p.done ++ record { id = x; finished = true } ∷ [] })) None
finished_by p k id run = None

abbrev pub after_finish : Pool → ℕ → Id → Option Pool
after_finish p k id = finished_by p k id (slice_get p.running k)

-- a request that waits goes cancelled to the end of those that are done
abbrev pub after_cancel : Pool → Id → Option Pool
after_cancel p id =
    cond (waits p.waiting id) (Some (record p { waiting = without p.waiting id; done = p.done ++ record { id = id; finished = false } ∷ [] })) None

-- the front of those that are done leaves, and this request is the front
abbrev pub collected_from : Pool → Id → List Done → Option Pool
collected_from p id [] = None
collected_from p id (front ∷ rest) = cond (same_id front.id id) (Some (record p { done = rest })) None

abbrev pub after_collect : Pool → Id → Option Pool
after_collect p id = collected_from p id p.done

abbrev pub after_event : Pool → PoolEvent → Option Pool
after_event p (event.Queue id) = after_queue p id
after_event p (event.Take k id) = after_take p k id
after_event p (event.Finish k id) = after_finish p k id
after_event p (event.Cancel id) = after_cancel p id
after_event p (event.Collect id) = after_collect p id

abbrev pub then_event : Option Pool → PoolEvent → Option Pool
then_event None e = None
then_event (Some p) e = after_event p e

abbrev pub after_events : Option Pool → List PoolEvent → Option Pool
after_events p [] = p
after_events p (e ∷ es) = after_events (then_event p e) es

-- the pool after a log, begun with nothing; none where one of its entries can't be at its place
unfoldable pub replay : ℕ → List PoolEvent → Option Pool
replay workers log = after_events (Some (empty_pool workers)) log

-- each entry of the log can be at its place
abbrev pub IsLegal : ℕ → List PoolEvent → Type 0
IsLegal workers log = (p : Pool) × (replay workers log ≡ Some p)
