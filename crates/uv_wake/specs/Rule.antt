-- The rule of the board (uv_async_t): what holds of the words and of all seats between any two steps.
use Rattle.std.specs.Prelude.{◌≡◌, ◌⊎◌, ℕ, ◌+◌, ◌*◌, ◌<◌, ◌≤◌, List, [], ◌∷◌, length, slice_index, Option, Some}
use Rattle.std.specs.List.{Contains}
use mathlib.Core.Option.{some}
use lib.ListN.{get_elem?}
use Rattle.atomic_table.specs.Table.{State}
use Rattle.uv_ids.specs.declared.id.Var.{Var}
use Rattle.uv_wake.specs.declared.tickets.Ticket.{Ticket}
use Rattle.uv_wake.specs.declared.views.LoopView.{LoopView}
use Rattle.uv_wake.specs.declared.views.SenderView.{SenderView}
use Rattle.uv_wake.specs.declared.views.View.{View}
use Rattle.uv_wake.specs.declared.views.View.TheVariants.{Loop, Sender, Joined}
use Rattle.uv_wake.specs.Tickets.{ticket}
use Rattle.uv_wake.specs.Seats.{starting, count_of, Carried}

-- the tickets in a seat's list; a joined seat has left its own to the loop's
abbrev pub list_of : View → List Ticket
list_of (Loop l) = l.tickets
list_of (Sender s) = s.tickets
list_of Joined = []

-- some seat's list has the ticket
abbrev pub Has : List View → Ticket → Type 0
Has views t = (seat : ℕ) × (v : View) × (get_elem? views seat ≡ some v) × Contains (list_of v) t

abbrev pub senders_in : View → ℕ
senders_in (Sender s) = 1
senders_in _ = 0

-- how many seats are senders' that were not joined
abbrev pub sender_count : List View → ℕ
sender_count [] = 0
sender_count (v ∷ vs) = senders_in v + sender_count vs

-- A word is 2E, or 2E + 1 where a send stands in it. E is its count: how many times it was absorbed
abbrev pub IsWord : ℕ → ℕ → Type 0
IsWord count word = (word ≡ 2 * count) ⊎ (word ≡ 2 * count + 1)

-- no sender's seat was split off at a greater count of the name
abbrev pub NoneIsAhead : List View → Var → ℕ → Type 0
NoneIsAhead views name count = (seat : ℕ) (s : SenderView) → get_elem? views seat ≡ some (Sender s) → slice_index s.since name.0 ≤ count

-- What holds of one name: `seen` is the loop's mark, `count` the name's count, `word` its word
pub record NameKept (views : List View) (seen : Option Var) (name : Var) (count word : ℕ) : Type 0 where
  pub is_word : IsWord count word
  -- no ticket is of a later epoch, and one of the present epoch stands in an odd word
  pub is_past : (t : Ticket) → t.var ≡ name → Has views t → (t.epoch ≤ count) × (t.epoch ≡ count → word ≡ 2 * count + 1)
  -- an odd word was asked for: somebody has a ticket of the present epoch
  pub is_asked : word ≡ 2 * count + 1 → Has views (ticket name count)
  -- and somebody has one of each epoch that was absorbed
  pub was_asked : (e : ℕ) → e < count → Has views (ticket name e)
  -- the loop marks only an odd word
  pub is_seen : seen ≡ Some name → word ≡ 2 * count + 1
  pub is_ahead : NoneIsAhead views name count

-- The first seat is the loop's, and no other is. Word 0 is the further one, which is always 0, and the word of the name v is word v + 1
pub record Kept (names : ℕ) (s : State ℕ View) : Type 0 where
  pub loop : LoopView
  pub first : get_elem? s.views 0 ≡ some (Loop loop)
  pub alone : (seat : ℕ) (l : LoopView) → get_elem? s.views seat ≡ some (Loop l) → seat ≡ 0
  pub wide : length s.words ≡ names + 1
  pub further : slice_index s.words 0 ≡ 0
  pub counted : length loop.counts ≡ names
  pub each : (v : Var) → v.0 < names → NameKept s.views loop.seen v (count_of loop v) (slice_index s.words (v.0 + 1))
  -- the senders' seats that were split off and not joined
  pub senders : loop.splits ≡ loop.joins + sender_count s.views

-- each ticket was carried, or it stands: the word of its name is odd, and of its epoch
abbrev pub EachStands : (names : ℕ) (s : State ℕ View) → Kept names s → Type 0
EachStands names s kept = (t : Ticket) → t.var.0 < names → Has s.views t → Carried kept.loop t ⊎ (slice_index s.words (t.var.0 + 1) ≡ 2 * t.epoch + 1)

abbrev pub at_first : ℕ → View
at_first names = Loop (starting names)
