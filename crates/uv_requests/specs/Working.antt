-- The requests of an arena, what the workers run, and the pool that these are.
use Rattle.std.specs.Prelude.{◌≡◌, ℕ, Bool, true, false, List, ◌++◌, map, Option, Some, None, option_map, option_and_then, slice_get, replicate}
use Rattle.uv_ids.specs.declared.id.Id.{Id}
use Rattle.uv_records.specs.declared.lists.ListName.TheVariants.{Waiting, Done as Ended, DoneYet as EndedYet}
use Rattle.uv_arena.specs.Chains.{IsIn}
use Rattle.uv_arena.specs.Image.{Image, slot_at, members, held, on_list}
use Rattle.uv_work.specs.declared.request.Request.{Request}
use Rattle.uv_work.specs.Requests.{is_open, is_finished, IsDigest}
use Rattle.uv_work.specs.Pool.{Pool, Done, size}

pub record Running : Type 0 where
  -- what each worker runs, by its number
  pub workers : List (Option Id)
  -- how many requests are open, from their queue to their collect
  pub count : ℕ

pub record Working (X : Type 0) : Type 0 where
  pub arena : Image X
  pub running : Running

-- so many workers that run nothing, and no request
abbrev pub idle_workers : ℕ → Running
idle_workers n = record { workers = replicate n None; count = 0 }

module _ {X : Type 0} where
  abbrev pub working : Image X → Running → Working X
  working i r = record { arena = i; running = r }

  -- the id of what a slot holds
  abbrev pub id_in : Image X → ℕ → Id
  id_in i x = record { slot = x; generation = (slot_at i.memory x).generation }

abbrev pub was_finished : Option Request → Bool
was_finished None = false
was_finished (Some r) = is_finished r.outcome

module _ {X : Type 0} (read : X → Option Request) where
  -- what is held under an id: nothing, something that is no request, or a request's record
  abbrev pub found : Image X → Id → Option (Option Request)
  found i d = option_map read (held i d)

  -- the record of a request
  abbrev pub request_in : Image X → Id → Option Request
  request_in i d = option_and_then read (held i d)

  -- a request in a slot, finished or cancelled
  abbrev pub done_in : Image X → ℕ → Done
  done_in i x = record { id = id_in i x; finished = was_finished (request_in i (id_in i x)) }

  -- the pool: those that are done are those whose after callbacks the section under way has yet to call, and then the others
  abbrev pub pool_of : Working X → Pool
  pool_of w = record {
    waiting = map (id_in w.arena) (members w.arena Waiting);
    running = w.running.workers;
    done = map (done_in w.arena) (members w.arena EndedYet ++ members w.arena Ended);
  }

  -- a request is held under the id, and is open or not
  pub record IsHeld (i : Image X) (d : Id) (opened : Bool) : Type 0 where
    pub request : Request
    pub is : request_in i d ≡ Some request
    pub outcome : is_open request.outcome ≡ opened

  -- what a worker runs is an open request that is on no list
  pub record IsRun (i : Image X) (d : Id) : Type 0 where
    pub request : IsHeld i d true
    pub loose : on_list i d ≡ false

  -- the lists, the workers and the count are those of the arena's requests
  pub record IsWork (w : Working X) : Type 0 where
    -- those that wait are open, and those that are done aren't
    pub waiting : (x : ℕ) → IsIn x (members w.arena Waiting) → IsHeld w.arena (id_in w.arena x) true
    pub done : (x : ℕ) → IsIn x (members w.arena Ended) → IsHeld w.arena (id_in w.arena x) false
    pub yet : (x : ℕ) → IsIn x (members w.arena EndedYet) → IsHeld w.arena (id_in w.arena x) false
    -- one that is open and on a list waits
    pub listed : (d : Id) → IsHeld w.arena d true → on_list w.arena d ≡ true → IsIn d.slot (members w.arena Waiting)
    pub running : (k : ℕ) (d : Id) → slice_get w.running.workers k ≡ Some (Some d) → IsRun w.arena d
    -- no two workers run one
    pub apart : (j k : ℕ) (d : Id) → slice_get w.running.workers j ≡ Some (Some d) → slice_get w.running.workers k ≡ Some (Some d) → j ≡ k
    -- the digest that a request was finished with is that of its task
    pub digests : (d : Id) (r : Request) → request_in w.arena d ≡ Some r → IsDigest r.task r.outcome
    -- the count is that of the pool
    pub count : w.running.count ≡ size (pool_of w)
