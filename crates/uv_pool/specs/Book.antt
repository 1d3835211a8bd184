-- What callers see of the pool's book.
use Rattle.std.specs.Prelude.{◌≡◌, ◌+◌, ◌<◌, ◌≤◌, ◌⊎◌, ℕ, List, [], ◌∷◌, ◌++◌, Bool, true, false, Some, length, cond, slice_get}
use Rattle.std.specs.List.{count_by}
use Rattle.uv_ids.specs.Limits.{MOST_WORKERS}
use Rattle.uv_work.specs.Pool.{replay}
use Rattle.uv_work.specs.declared.event.PoolEvent.{PoolEvent}
use Rattle.uv_work.specs.declared.event.PoolEvent.TheVariants as event
use Rattle.uv_pool.specs.Contents.{Contents, pool_of}
use Rattle.uv_pool.specs.Hold.{Hold}
use Rattle.uv_pool.specs.Sleepers.{IsCallable, summoned}
use Rattle.uv_pool.specs.declared.sleepers.Sleepers.{Sleepers}

-- whether the book is closed; the finishes booked in its own share of the ledger; the parts of that share; the workers that sleep
pub record Rest : Type 0 where
  pub closed : Bool
  pub own : ℕ
  pub spare : ℕ
  pub sleepers : Sleepers

pub record Standing : Type 0 where
  pub hold : Hold
  pub rest : Rest

abbrev pub is_finish : PoolEvent → Bool
is_finish (event.Finish k id) = true
is_finish _ = false

-- the finishes of a log
abbrev pub finish_count : List PoolEvent → ℕ
finish_count log = count_by is_finish log

-- a job was finished past the first n entries
abbrev pub IsFinishedPast : ℕ → List PoolEvent → Type 0
IsFinishedPast n log = (place : ℕ) × (e : PoolEvent) × (n ≤ place) × (slice_get log place ≡ Some e) × (is_finish e ≡ true)

-- this is the last entry
abbrev pub EndsWith : PoolEvent → List PoolEvent → Type 0
EndsWith e log = (before : List PoolEvent) × (log ≡ before ++ e ∷ [])

-- the pool is the replay of the log, so each entry could be at its place
abbrev pub IsReplay : Contents → Type 0
IsReplay c = replay (length c.running) c.log ≡ Some (pool_of c)

-- one finish more in the book's own share, where there was one
abbrev pub booked : Bool → Rest → Rest
booked ok r = record r { own = r.own + cond ok 1 0 }

-- other workers sleep, or others of them are on their way; all else stays
abbrev pub with_sleepers : Standing → Sleepers → Standing
with_sleepers s sleepers = record { hold = s.hold; rest = record s.rest { sleepers = sleepers } }

-- no job waits while all that sleep are left asleep: nothing waits, or nobody sleeps, or one that was called is on its way
abbrev pub IsTended : Standing → Type 0
IsTended s = (s.hold.contents.waiting ≡ []) ⊎ (IsCallable s.rest.sleepers → ⊥)

-- a worker that sleeps is called just where a job waits and none is on its way; from then on one is
abbrev pub CallsNext : Standing → Bool → Standing → Type 0
CallsNext s true t = (s.hold.contents.waiting ≡ [] → ⊥) × IsCallable s.rest.sleepers × (t ≡ with_sleepers s (summoned s.rest.sleepers))
CallsNext s false t = IsTended s × (t ≡ s)

-- what every book keeps: its pool is the replay of its log, and the ledger's total is the number of finishes
pub record IsCounted (c : Contents) (total own spare : ℕ) : Type 0 where
  pub replay : IsReplay c
  pub count : total ≡ finish_count c.log
  pub parts : own ≡ spare
  pub some : 0 < spare
  pub workers : length c.running ≤ MOST_WORKERS
