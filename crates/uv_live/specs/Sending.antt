-- What the senders' threads send, and what the loop absorbs of it and joins.
use Rattle.std.specs.Prelude.{◌≡◌, ◌==◌, ◌+◌, ◌<◌, ◌≤◌, ℕ, suc, zero, List, [], ◌∷◌, Bool, true, false, Some, length, map, filter, cond, slice_get, slice_index_or}
use Rattle.std.specs.List.{Contains, count_by, list_any}
use Rattle.uv_ids.specs.declared.event.Event.TheVariants as step
use Rattle.uv_ids.specs.declared.id.Var.{Var}
use Rattle.uv_ids.specs.declared.thread_line.ThreadLine.{ThreadLine}
use Rattle.uv_wake.specs.declared.tickets.Ticket.{Ticket}
use Rattle.uv_wake.specs.declared.views.LoopView.{LoopView}
use Rattle.uv_wake.specs.Seats.{Carried, AllCarried, after_absorb}
use Rattle.uv_live.specs.Course.{Course, stepped}
use Rattle.uv_live.specs.Settling.{is_line}

abbrev pub is_by : ℕ → ThreadLine → Bool
is_by thread line = line.thread == thread

-- the names of a thread's lines, in their order
abbrev pub names_by : ℕ → List ThreadLine → List Var
names_by thread lines = map (λ (l : ThreadLine). l.name) (filter (is_by thread) lines)

-- for each of the 64 thread numbers, from this one on, the names of its lines
pub record HasOwn (number : ℕ) (lines : List ThreadLine) (own : List (List Var)) : Type 0 where
  pub count : length own ≡ 64
  pub names : (k : ℕ) → number ≤ k → k < 64 → slice_index_or own k [] ≡ names_by k lines

-- the names of sends
abbrev pub names_in : List Ticket → List Var
names_in tickets = map (λ (t : Ticket). t.var) tickets

-- how many of the thread numbers below this one have a line
abbrev pub threads_below : ℕ → List ThreadLine → ℕ
threads_below zero lines = 0
threads_below (suc n) lines = threads_below n lines + cond (list_any (is_by n) lines) 1 0

-- what an absorb leaves of the loop's seat: its list, its splits and joins, and each ticket that was carried
pub record Absorbs (l l' : LoopView) : Type 0 where
  pub tickets : l'.tickets ≡ l.tickets
  pub splits : l'.splits ≡ l.splits
  pub joins : l'.joins ≡ l.joins
  pub carried : (t : Ticket) → Carried l t → Carried l' t

-- no ticket of these names waits in the loop's list
abbrev pub AreCarried : LoopView → List Var → Type 0
AreCarried l names = (k : ℕ) (v : Var) → slice_get names k ≡ Some v → AllCarried l v

-- an absorb that found a send is one step more
abbrev pub sent_by : Bool → Var → Course → Course
sent_by true v s = stepped (step.Send v) [] s
sent_by false v s = s

-- the words of these names were absorbed in their order, and each one in which a send stood is a step
abbrev pub AbsorbsEach : List Var → LoopView → Course → LoopView → Course → Type 0
AbsorbsEach [] l s l' t = (l' ≡ l) × (t ≡ s)
AbsorbsEach (v ∷ vs) l s l' t = (took : Bool) × AbsorbsEach vs (after_absorb l v took) (sent_by took v s) l' t

-- each name of a number below this one that some line sends to is among these
pub record AreNoted (number : ℕ) (lines : List ThreadLine) (names : List Var) : Type 0 where
  pub each : (v : Var) → v.0 < number → 0 < count_by (is_line v.0) lines → Contains names v

-- no ticket of a name of a number below this one that some line sends to waits in the loop's list
abbrev pub LinesCarried : ℕ → List ThreadLine → LoopView → Type 0
LinesCarried number lines l = (v : Var) → v.0 < number → 0 < count_by (is_line v.0) lines → AllCarried l v
