-- What a settled run is: the session, the book, the shifts and the loop's seat tell the same story.
use Rattle.std.specs.Prelude.{◌≡◌, ◌==◌, ◌<◌, ◌≤◌, ◌⊎◌, ◌+◌, ℕ, List, Bool, true, false, Some, None, Result, Ok, Err, length, drop, slice_get, slice_index, count_by, filter, sum_by}
use Rattle.uv_ids.specs.declared.event.Event.{Event}
use Rattle.uv_ids.specs.declared.event.Event.TheVariants as step
use Rattle.uv_ids.specs.declared.fault.Fault.{Fault}
use Rattle.uv_ids.specs.declared.fault.Fault.TheVariants as fault
use Rattle.uv_work.specs.declared.event.PoolEvent.{PoolEvent}
use Rattle.uv_work.specs.declared.event.PoolEvent.TheVariants as event
use Rattle.uv_pool.specs.Benches.{are_turns}
use Rattle.uv_pool.specs.Book.{Standing, finish_count}
use Rattle.uv_ids.specs.declared.thread_line.ThreadLine.{ThreadLine}
use Rattle.uv_live.specs.Course.{Course, Plan}
use Rattle.uv_live.specs.Following.{PartsAt}

-- what a worker's thread did: its number, its events, and how many finishes its share counts
pub record Worked : Type 0 where
  pub worker : ℕ
  pub events : List PoolEvent
  pub finishes : ℕ

abbrev pub worked : ℕ → List PoolEvent → ℕ → Worked
worked k events n = record { worker = k; events = events; finishes = n }

abbrev pub is_of : ℕ → PoolEvent → Bool
is_of k (event.Take a id) = a == k
is_of k (event.Finish a id) = a == k
is_of k _ = false

-- the log's part for a worker
abbrev pub part_of : ℕ → List PoolEvent → List PoolEvent
part_of k log = filter (is_of k) log

-- a shift of worker k: the log's part for it, in which each take was finished before the next one; its share counts the finishes
pub record IsShift (k : ℕ) (log : List PoolEvent) (x : Worked) : Type 0 where
  pub worker : x.worker ≡ k
  pub events : x.events ≡ part_of k log
  pub turns : are_turns k x.events ≡ true
  pub counts : x.finishes ≡ finish_count x.events

-- worker k's thread did this, whatever the log says: each take was finished before the next one; its share counts the finishes
abbrev pub IsByWorker : ℕ → Worked → Type 0
IsByWorker k x = (x.worker ≡ k) × (are_turns k x.events ≡ true) × (x.finishes ≡ finish_count x.events)

-- what is left of each shift's events behind those that were met is the part of this log
abbrev pub AreLeft : List Worked → List ℕ → List PoolEvent → Type 0
AreLeft shifts met log = (k : ℕ) (x : Worked) → slice_get shifts k ≡ Some x → drop (slice_index met k) x.events ≡ part_of k log

-- each shift's events are the log's part for the worker with its number
abbrev pub AreParts : List PoolEvent → List Worked → Type 0
AreParts log shifts = (k : ℕ) (x : Worked) → slice_get shifts k ≡ Some x → x.events ≡ part_of k log

-- the shifts are those of workers 0, 1, .. in order, each with the log's part for its worker
abbrev pub AreShifts : List PoolEvent → List Worked → Type 0
AreShifts log shifts = (k : ℕ) (x : Worked) → slice_get shifts k ≡ Some x → IsShift k log x

-- what the shares count together
abbrev pub counted : List Worked → ℕ
counted shifts = sum_by (λ (x : Worked). x.finishes) shifts

abbrev pub is_send : ℕ → Event → Bool
is_send v (step.Send name) = name.0 == v
is_send v _ = false

-- a step that none of its threads does: a cancel from outside, and a callback of I/O
abbrev pub is_unthreaded : Event → Bool
is_unthreaded (step.Cancel name) = true
is_unthreaded (step.Io name) = true
is_unthreaded _ = false

abbrev pub is_line : ℕ → ThreadLine → Bool
is_line v l = l.name.0 == v

-- the sends of a name among the steps are as many as were absorbed, and no more than its `thread` lines
abbrev pub SendsFit : List Event → List ThreadLine → List ℕ → ℕ → Type 0
SendsFit steps lines counts v =
    (count_by (is_send v) steps ≡ slice_index counts v) × (count_by (is_send v) steps ≤ count_by (is_line v) lines)

abbrev pub AllSendsFit : {S : Type 0} → List Event → Plan S → List ℕ → Type 0
AllSendsFit steps plan counts = (v : ℕ) → v < plan.names → SendsFit steps plan.lines counts v

pub record IsSettled {S : Type 0} (plan : Plan S) (s : Course) (book : Standing) (shifts : List Worked) (counts : List ℕ) : Type 0 where
  pub closed : book.rest.closed ≡ true
  pub workers : length book.hold.contents.running ≡ plan.workers
  pub whole : s.events ≡ book.hold.contents.log
  pub crew : length shifts ≡ length book.hold.contents.running
  pub each : AreShifts book.hold.contents.log shifts
  pub finishes : finish_count book.hold.contents.log ≡ counted shifts
  pub sends : AllSendsFit s.steps plan counts
  pub unthreaded : count_by is_unthreaded s.steps ≡ 0

-- the first place, from 1, where the events and the log part, be it the end of one of them
abbrev pub PartsFirst : List PoolEvent → List PoolEvent → ℕ → Type 0
PartsFirst events log at =
    ((n : ℕ) × (at ≡ n + 1) × PartsAt events log (Some n))
    ⊎ ((at ≡ length events + 1) × PartsAt events log None × (length events < length log))

-- the answer, where P is what is asked: Torn comes only elsewhere, and names the first place, or 0 where the events are the log
abbrev pub Settles : Type 0 → List PoolEvent → List PoolEvent → Result (Unit {0}) Fault → Type 0
Settles P events log (Ok _) = P
Settles P events log (Err (fault.Torn at)) = (P → ⊥) × (((at ≡ 0) × (events ≡ log)) ⊎ PartsFirst events log at)
Settles P events log (Err _) = ⊥
