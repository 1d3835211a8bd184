-- What clauses see of the board and of its seats, and what they say of what a seat knows.
use Rattle.std.specs.Prelude.{◌≡◌, ◌⊎◌, ◌↔◌, ℕ, ◌+◌, ◌-◌, ◌<◌, List, [], ◌∷◌, ◌++◌, slice_index, slice_set, Option, Bool, true, false, replicate, Some, None}
use Rattle.std.specs.List.{Contains}
use Rattle.atomic_table.specs.Seated.{TableId}
use Rattle.uv_ids.specs.declared.id.Var.{Var}
use Rattle.uv_wake.specs.declared.tickets.Ticket.{Ticket}
use Rattle.uv_wake.specs.declared.views.LoopView.{LoopView}
use Rattle.uv_wake.specs.declared.views.SenderView.{SenderView}
use Rattle.uv_wake.specs.Tickets.{ticket}

-- which board it is
abbrev pub BoardId : Type 0
BoardId = TableId

-- how many names the board has: each has a word, and there is one further word
abbrev pub names_of : BoardId → ℕ
names_of b = b.words - 1

-- a board, and how many senders' seats it ever gives
pub record Plan : Type 0 where
  pub board : BoardId
  pub senders : ℕ

-- the loop's seat, and a sender's: of which board it is, and what it knows
pub record LoopAt : Type 0 where
  pub board : BoardId
  pub knows : LoopView

pub record SenderAt : Type 0 where
  pub board : BoardId
  pub knows : SenderView

-- what the loop's seat of a new board knows: nothing was sent or absorbed
abbrev pub starting : ℕ → LoopView
starting names = record { counts = replicate names 0; seen = None; splits = 0; joins = 0; tickets = [] }

-- how many times the word of a name was absorbed
abbrev pub count_of : LoopView → Var → ℕ
count_of l v = slice_index l.counts v.0

-- an absorb has carried the ticket
abbrev pub Carried : LoopView → Ticket → Type 0
Carried l t = t.epoch < count_of l t.var

-- each ticket of v in the loop's list was carried
abbrev pub AllCarried : LoopView → Var → Type 0
AllCarried l v = (t : Ticket) → t.var ≡ v → Contains l.tickets t → Carried l t

-- every seat that was split off was joined
abbrev pub AllJoined : LoopView → Type 0
AllJoined l = l.splits ≡ l.joins

-- where all were joined, the loop's list has a ticket of each epoch below each count
abbrev pub HasEach : LoopView → Type 0
HasEach l = AllJoined l → (v : Var) (e : ℕ) → e < count_of l v → Contains l.tickets (ticket v e)

-- where all were joined, the loop's list has a ticket of the present epoch of v
abbrev pub WasAsked : LoopView → Var → Type 0
WasAsked l v = AllJoined l → Contains l.tickets (ticket v (count_of l v))

-- a look at v leaves the mark where it found no send
abbrev pub mark_after : Option Var → Var → Bool → Option Var
mark_after mark v true = Some v
mark_after mark v false = mark

-- what the loop's seat knows after a look at v, which answered `found`
abbrev pub after_look : LoopView → Var → Bool → LoopView
after_look l v found = record l { seen = mark_after l.seen v found }

-- an absorb of v that answered true counts it and clears the mark; one that answered false changes nothing
abbrev pub counts_after : List ℕ → Var → Bool → List ℕ
counts_after counts v true = slice_set counts v.0 (slice_index counts v.0 + 1)
counts_after counts v false = counts

abbrev pub mark_left : Option Var → Bool → Option Var
mark_left mark true = None
mark_left mark false = mark

abbrev pub after_absorb : LoopView → Var → Bool → LoopView
after_absorb l v took = record l { counts = counts_after l.counts v took; seen = mark_left l.seen took }

-- the absorb of v, which answered `took`, carries the ticket: it is of v, and of the epoch that the absorb ended
abbrev pub CarriedBy : LoopView → Var → Bool → Ticket → Type 0
CarriedBy l v took t = (took ≡ true) × (t.var ≡ v) × (t.epoch ≡ count_of l v)

-- after the absorb just those tickets were carried that were before, and those that it carries
abbrev pub Carries : LoopView → Var → Bool → LoopView → Type 0
Carries l v took l' = (t : Ticket) → Carried l' t ↔ (Carried l t ⊎ CarriedBy l v took t)

-- after a split, and what the sender's seat knows that it gave
abbrev pub after_split : LoopView → LoopView
after_split l = record l { splits = l.splits + 1 }

abbrev pub split_off : LoopView → SenderView
split_off l = record { since = l.counts; tickets = [] }

-- after a send, whose ticket the seat's list gains
abbrev pub after_send : SenderView → Ticket → SenderView
after_send s t = record s { tickets = s.tickets ++ t ∷ [] }

-- after the loop's seat took in one whose list this is
abbrev pub after_join : LoopView → List Ticket → LoopView
after_join l ts = record l { joins = l.joins + 1; tickets = l.tickets ++ ts }
