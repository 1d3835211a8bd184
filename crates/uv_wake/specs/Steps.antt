-- What each kind of step tells the seat that makes it: `m` and `m'` are the seat before and after, `n` is the number found in the word.
use Rattle.std.specs.Prelude.{◌≡◌, ℕ, ◌+◌, ◌/◌, ◌%◌, ◌==◌, ◌≤◌, [], Bool, true, false, slice_index, Some}
use Rattle.std.specs.List.{Contains}
use Rattle.atomic_table.specs.Table.{Me, Step}
use Rattle.uv_ids.specs.declared.id.Var.{Var}
use Rattle.uv_wake.specs.declared.tickets.Ticket.{Ticket}
use Rattle.uv_wake.specs.declared.views.LoopView.{LoopView}
use Rattle.uv_wake.specs.declared.views.SenderView.{SenderView}
use Rattle.uv_wake.specs.declared.views.View.{View}
use Rattle.uv_wake.specs.declared.views.View.TheVariants.{Loop, Sender, Joined}
use Rattle.uv_wake.specs.Tickets.{ticket}
use Rattle.uv_wake.specs.Rule.{list_of}
use Rattle.uv_wake.specs.Seats.{starting, AllCarried, HasEach, WasAsked, after_look, after_absorb, after_split, split_off, after_send, after_join}

-- what a view knows, where it is the loop's, and where it is a sender's
abbrev pub loop_of : View → LoopView
loop_of (Loop l) = l
loop_of _ = starting 0

abbrev pub sender_of : View → SenderView
sender_of (Sender s) = s
sender_of _ = record { since = []; tickets = [] }

-- A send (fetch_or 1): the list gains a ticket of the epoch that the word shows, and no ticket of that name in it is later, nor was the seat split
-- off later
abbrev pub sent : Step ℕ → Me ℕ View → ℕ → Me ℕ View → Type 0
sent st m n m' = (v : Var) → v.0 + 1 ≡ st.word
    → (m' ≡ (Sender (after_send (sender_of m.0) (ticket v (n / 2))), []))
    × ((t : Ticket) → t.var ≡ v → Contains (sender_of m.0).tickets t → t.epoch ≤ n / 2)
    × (slice_index (sender_of m.0).since v.0 ≤ n / 2)

-- whether a send stands in a word
abbrev pub is_odd : ℕ → Bool
is_odd word = word % 2 == 1

-- The loop's look (load): it marks an odd word as seen, and a marked word is still odd
pub record Looked (l : LoopView) (v : Var) (found : Bool) : Type 0 where
  pub still : l.seen ≡ Some v → found ≡ true
  pub carried : found ≡ false → AllCarried l v
  pub asked : found ≡ true → WasAsked l v
  pub each : HasEach l

abbrev pub looked : Step ℕ → Me ℕ View → ℕ → Me ℕ View → Type 0
looked st m n m' = (v : Var) → v.0 + 1 ≡ st.word
    → (m' ≡ (Loop (after_look (loop_of m.0) v (is_odd n)), [])) × Looked (loop_of m.0) v (is_odd n)

-- an absorb (fetch_add 1): the name's count is one more, and the mark is cleared
abbrev pub absorbed : Step ℕ → Me ℕ View → ℕ → Me ℕ View → Type 0
absorbed st m n m' = (v : Var) → v.0 + 1 ≡ st.word
    → (m' ≡ (Loop (after_absorb (loop_of m.0) v true), []))
    × AllCarried (after_absorb (loop_of m.0) v true) v
    × HasEach (after_absorb (loop_of m.0) v true)

-- a look at the further word, which ends a join
abbrev pub learned : Step ℕ → Me ℕ View → ℕ → Me ℕ View → Type 0
learned st m n m' = (m' ≡ (Loop (loop_of m.0), [])) × HasEach (loop_of m.0)

-- a split, of the loop's seat alone
abbrev pub split_left : View → View
split_left (Loop l) = Loop (after_split l)
split_left v = v

abbrev pub split_right : View → View
split_right v = Sender (split_off (loop_of v))

-- a join: the loop's seat takes the other's list in
abbrev pub joined : View → View → View
joined (Loop l) w = Loop (after_join l (list_of w))
joined v w = v

abbrev pub left_behind : View
left_behind = Joined
