-- The orders of what may come from outside of a loop: what is offered where a search stands, and where it leads.
use Rattle.std.specs.Prelude.{ℕ, zero, suc, ◌+◌, ◌-◌, ◌&&◌, not, ◌==◌, length, Bool, true, false, nat_lt, nat_le, is_some, is_none, option_map, map, List, [], ◌∷◌, ◌++◌, Option, Some, None, slice_get, slice_set, drop, if◌then◌else◌}
use Rattle.std.specs.List.{list_all, list_any}
use Rattle.uv_ids.specs.declared.event.Event.{Event}
use Rattle.uv_ids.specs.declared.event.Event.TheVariants as event
use Rattle.uv_ids.specs.declared.id.Id.{Id}
use Rattle.uv_ids.specs.declared.id.Var.{Var}
use Rattle.uv_ids.specs.declared.seen.Seen.{Seen}
use Rattle.uv_ids.specs.declared.fault.Why.TheVariants.{Blocked}
use Rattle.uv_script.specs.Program.{Program}
use Rattle.uv_records.specs.Slots.{held}
use Rattle.uv_records.specs.declared.lists.WatcherKind.TheVariants as watcher
use Rattle.uv_work.specs.declared.content.Content.{Content}
use Rattle.uv_work.specs.declared.content.Content.TheVariants as content
use Rattle.uv_model.specs.declared.place.Place as loop
use Rattle.uv_model.specs.declared.place.Place.TheVariants.{Main, Running}
use Rattle.uv_model.specs.declared.place.Stage.{Stage}
use Rattle.uv_model.specs.declared.place.Stage.TheVariants as stage
use Rattle.uv_model.specs.State.{State, fresh, named}
use Rattle.uv_model.specs.Queries.{worker_of}
use Rattle.uv_model.specs.Next.{Next, Moves, Refuses, next}
use Rattle.uv_asking.specs.declared.asking.Offer.{Offer}
use Rattle.uv_asking.specs.declared.asking.Offer.TheVariants.{Step, SendDuring, Take, Wait, WaitFor}
use Rattle.uv_asking.specs.declared.asking.Offered.{Offered}
use Rattle.uv_asking.specs.declared.asking.Recorded.{Recorded}
use Rattle.uv_asking.specs.declared.asking.Most.{Most}
use Rattle.uv_asking.specs.declared.asking.Takes.{Takes}
use Rattle.uv_asking.specs.declared.asking.Question.{Question}
use Rattle.uv_asking.specs.declared.asking.Question.TheVariants.{Late}
use Rattle.uv_find.specs.declared.kept.Kept.{Kept}
use Rattle.uv_find.specs.declared.kept.Along.{Along}
use Rattle.uv_find.specs.declared.left.Left.{Left}
use Rattle.uv_find.specs.declared.left.Left.TheVariants as left
use Rattle.uv_find.specs.Forgetting.{LONG}
use Rattle.uv_find.specs.Ranks.{idle_worker, ranked}
use Rattle.uv_find.specs.Kept.{none_kept, kept_after, behind, with_spare, owes, waited}

-- what stays the same: the script, what is offered, how long callbacks take, how far the clock goes, how often names are called, what is asked,
-- and what of a place needn't be known
pub record Rules : Type 0 where
  pub program : Program
  pub offers : List Offered
  -- in place of what is offered, what came in a recording: at most so many of it at another place
  pub differ : Option ℕ
  pub recorded : List Recorded
  -- and beside it the clock goes on where the loop waits
  pub waits : Bool
  pub takes : List Takes
  pub clock : Option ℕ
  pub most : List Most
  pub question : Question
  -- where places are told apart only by what decides what comes after them: how far calls are counted
  pub forget : Option ℕ
  -- where moves are held back: whether a time may go by at any step
  pub hold : Option Bool
  -- a worker takes a request at once: what else may come can't tell when it does
  pub at_once : Bool
  -- of each name, whether it is like the next one
  pub mates : List Bool

-- the same with another question: this timer is called so many ms late
abbrev pub asked_late : Rules → Var → ℕ → Rules
asked_late r name ms = record r { question = Late name ms }

-- where a search stands
pub record Place : Type 0 where
  pub state : State
  -- what is left of each offer, or of what came from each source in a recording
  pub left : List Left
  pub kept : Kept

-- ---- what is offered

-- an offer that may be taken as often as one likes
abbrev pub at_will : Offer → Offered
at_will offer = record { offer = offer; times = None }

-- each of the first workers may finish; by their ranks, where a search forgets which of them runs which request
abbrev pub finishes : ℕ → List Offered
finishes zero = []
finishes (suc n) = finishes n ++ at_will (Step (event.Finish n)) ∷ []

-- the loop goes on and a worker takes a request, or that first where it is taken at once
abbrev pub first_offer : Bool → Offer
first_offer true = Take
first_offer false = Step event.Loop

abbrev pub first_offers : Bool → List Offered
first_offers at_once = at_will (first_offer at_once) ∷ at_will (first_offer (not at_once)) ∷ []

-- the clock goes on where the loop waits
abbrev pub is_wait : Offer → Bool
is_wait Wait = true
is_wait offer = false

abbrev pub may_wait : List Offered → Bool
may_wait offers = list_any (λ (offered : Offered). is_wait offered.offer) offers

-- then a worker finishes its own, and what is asked for
abbrev pub every_offer : Bool → ℕ → List Offered → List Offered
every_offer at_once workers asked = first_offers at_once ++ finishes workers ++ asked

abbrev pub times_left : Option ℕ → Left
times_left None = left.AtWill
times_left (Some n) = left.Times n

abbrev pub times_of : List Offered → List Left
times_of offers = map (λ (offered : Offered). times_left offered.times) offers

-- ---- sources of what came in a recording

-- two events of one source: for one name, of one worker, or of the clock
abbrev pub is_akin : Event → Event → Bool
is_akin (event.Take m) (event.Take n) = m == n
is_akin (event.Finish m) (event.Finish n) = m == n
is_akin (event.Cancel v) (event.Cancel w) = v.0 == w.0
is_akin (event.Send v) (event.Send w) = v.0 == w.0
is_akin (event.Io v) (event.Io w) = v.0 == w.0
is_akin (event.Tick m) (event.Tick n) = true
is_akin d e = false

abbrev pub is_akin_to : Event → Option Recorded → Bool
is_akin_to e None = false
is_akin_to e (Some r) = is_akin r.event e

-- none of the first recorded events is of this one's source
abbrev pub is_new : List Recorded → Event → ℕ → Bool
is_new recorded e zero = true
is_new recorded e (suc n) = is_new recorded e n && not (is_akin_to e (slice_get recorded n))

abbrev pub is_first_by : List Recorded → ℕ → Option Recorded → Bool
is_first_by recorded number None = false
is_first_by recorded number (Some r) = is_new recorded r.event number

-- the recorded event of this number is the first of its source
abbrev pub is_first : List Recorded → ℕ → Bool
is_first recorded number = is_first_by recorded number (slice_get recorded number)

-- the sources of the first recorded events: of each the first event is ahead
abbrev pub sources : List Recorded → ℕ → List Left
sources recorded zero = []
sources recorded (suc n) = sources recorded n ++ (if is_first recorded n then left.Ahead n ∷ [] else [])

-- the next event of a source is the first among those from this number on that is of it
abbrev pub next_of : Event → List Recorded → ℕ → Left
next_of e [] number = left.Over
next_of e (r ∷ rs) number = if is_akin r.event e then left.Ahead number else next_of e rs (number + 1)

abbrev pub first_left : Option ℕ → List Offered → List Recorded → List Left
first_left None offers recorded = times_of offers
first_left (Some k) offers recorded = sources recorded (length recorded)

-- where a search begins
abbrev pub beginning : Rules → Place
beginning r = record {
  state = fresh r.program;
  left = first_left r.differ r.offers r.recorded;
  kept = none_kept r.recorded r.differ;
}

-- ---- the event of an offer

abbrev pub take_by : Option ℕ → Option Event
take_by None = None
take_by (Some worker) = Some (event.Take worker)

abbrev pub refused_as_blocked : Next → Bool
refused_as_blocked (Moves t line) = false
refused_as_blocked (Refuses Blocked) = true
refused_as_blocked (Refuses why) = false

-- the loop is blocked: it can't leave the poll yet
abbrev pub is_blocked : Program → State → Bool
is_blocked p s = refused_as_blocked (next p s event.Loop)

-- the deadline of the poll, where the loop is in one that has one
abbrev pub deadline_in : Stage → Option ℕ
deadline_in (stage.Poll deadline) = deadline
deadline_in _ = None

abbrev pub is_poll_stage : Stage → Bool
is_poll_stage (stage.Poll deadline) = true
is_poll_stage _ = false

abbrev pub deadline_at : loop.Place → Option ℕ
deadline_at (Main line) = None
deadline_at (Running run) = deadline_in run.stage

abbrev pub is_in_poll : loop.Place → Bool
is_in_poll (Main line) = false
is_in_poll (Running run) = is_poll_stage run.stage

-- the clock goes on to this deadline, where the loop is blocked
abbrev pub wait_until : Program → State → Option ℕ → Option Event
wait_until p s None = None
wait_until p s (Some deadline) = if is_blocked p s then Some (event.Tick (deadline - s.clock)) else None

-- from this clock, so many ms end no later than a poll with this deadline, or with none
abbrev pub ends_within : Option ℕ → ℕ → ℕ → Bool
ends_within None clock ms = true
ends_within (Some deadline) clock ms = nat_le ms (deadline - clock)

-- the loop is in a poll that may last so long
abbrev pub may_last : State → ℕ → Bool
may_last s ms = is_in_poll s.place && ends_within (deadline_at s.place) s.clock ms

-- so many ms go by in a poll, where the loop is blocked so long
abbrev pub wait_for : Program → State → ℕ → Option Event
wait_for p s ms = if may_last s ms then (if is_blocked p s then Some (event.Tick ms) else None) else None

-- what a send, a cancel and a callback of I/O are for
abbrev pub aim : Event → Option Var
aim (event.Send v) = Some v
aim (event.Cancel v) = Some v
aim (event.Io v) = Some v
aim e = None

-- the name was bound to a handle or a request: none comes before there is one, and one that is gone was there
abbrev pub is_made : State → Option Var → Bool
is_made s None = true
is_made s (Some v) = is_some (named s v).id

-- the loop has left its poll, and the after and async callbacks of its iteration are called
abbrev pub is_behind_poll : Stage → Bool
is_behind_poll stage.Done = true
is_behind_poll stage.DoneUnwoken = true
is_behind_poll (stage.Walking watcher.Async) = true
is_behind_poll _ = false

abbrev pub is_quiet : loop.Place → Bool
is_quiet (Main line) = false
is_quiet (Running run) = is_behind_poll run.stage

-- a handle is held that closes
abbrev pub is_closing : Option Content → Bool
is_closing (Some (content.Handle h)) = h.closing
is_closing _ = false

abbrev pub closes : State → Option Id → Bool
closes s None = false
closes s (Some id) = is_closing (held s.arena.slots id)

-- a send comes where libuv sees it as the loop does: neither between the lines `done` and `check` (there libuv wakes its next poll by it, also
-- where the handle is still called in this iteration), nor to a handle that closes (uv_async_send returns 0)
abbrev pub is_seen : State → Var → Bool
is_seen s v = not (is_quiet s.place) && not (closes s (named s v).id)

-- while a callback's time is still to go by, no callback of I/O begins, and no other time goes by
abbrev pub is_free : State → Kept → Event → Bool
is_free s k (event.Io v) = not (owes k)
is_free s k (event.Tick ms) = not (owes k)
is_free s k (event.Send v) = is_seen s v
is_free s k e = true

-- where the loop would go on, a callback's time goes by first
abbrev pub spending : Kept → Event → Event
spending k event.Loop = if owes k then event.Tick k.owed else event.Loop
spending k e = e

abbrev pub step_of : State → Kept → Event → Option Event
step_of s k e = if is_made s (aim e) && is_free s k e then Some (spending k e) else None

-- a worker runs the request that this name is bound to
abbrev pub is_run : State → Option Id → Bool
is_run s None = false
is_run s (Some id) = is_some (worker_of s id)

-- the event that an offer is in a state
abbrev pub event_of : Program → State → Kept → Offer → Option Event
event_of p s k (Step e) = step_of s k e
event_of p s k (SendDuring v job) = if is_run s (named s job).id then step_of s k (event.Send v) else None
event_of p s k Take = take_by (idle_worker s)
event_of p s k Wait = wait_until p s (deadline_at s.place)
event_of p s k (WaitFor ms) = wait_for p s ms

-- from this clock, the event leaves it within its bound, where it has one
abbrev pub keeps_clock : Option ℕ → ℕ → Event → Bool
keeps_clock (Some most) clock (event.Tick ms) = nat_le (clock + ms) most
keeps_clock _ clock e = true

abbrev pub timed : Option ℕ → ℕ → Option Event → Option Event
timed most clock None = None
timed most clock (Some e) = if keeps_clock most clock e then Some e else None

-- where a search forgets, no long time goes by at once
abbrev pub is_brief : Option ℕ → Event → Bool
is_brief (Some n) (event.Tick ms) = nat_lt ms LONG
is_brief forget e = true

abbrev pub brief : Option ℕ → Option Event → Option Event
brief forget None = None
brief forget (Some e) = if is_brief forget e then Some e else None

abbrev pub may_take : Left → Bool
may_take left.AtWill = true
may_take (left.Times n) = nat_lt 0 n
may_take x = false

abbrev pub offered_here : Program → Option ℕ → State → Kept → Offer → Left → Option Event
offered_here p most s k offer x = if may_take x then timed most s.clock (event_of p s k offer) else None

abbrev pub offered_by : Rules → Place → Option Offered → Option Left → Option Event
offered_by r p (Some offered) (Some x) = brief r.forget (ranked r.forget p.state (offered_here r.program r.clock p.state p.kept offered.offer x))
offered_by r p _ _ = None

-- ---- what may come at a place

-- an event that may come, with what is left and kept of the place where it does
pub record Choice : Type 0 where
  pub event : Event
  pub left : List Left
  pub kept : Kept

abbrev pub chosen : List Left → Kept → Option Event → Option Choice
chosen xs kept None = None
chosen xs kept (Some e) = Some (record { event = e; left = xs; kept = kept })

-- an offer may be taken once less
abbrev pub less : Left → Left
less (left.Times n) = left.Times (n - 1)
less x = x

abbrev pub lessened_by : List Left → ℕ → Option Left → List Left
lessened_by xs number None = xs
lessened_by xs number (Some x) = slice_set xs number (less x)

abbrev pub lessened : List Left → ℕ → List Left
lessened xs number = lessened_by xs number (slice_get xs number)

-- the offer of this number, if it may still be taken
abbrev pub offer_at : Rules → Place → ℕ → Option Choice
offer_at r p number = chosen (lessened p.left number) p.kept (offered_by r p (slice_get r.offers number) (slice_get p.left number))

-- ---- what came in a recording, with at most so many events at another place

-- while a callback's time is still to go by, no callback of I/O begins, and no other time goes by
abbrev pub is_clear : Kept → Event → Bool
is_clear k (event.Io v) = not (owes k)
is_clear k (event.Tick ms) = not (owes k)
is_clear k e = true

-- what was a wait goes by only where the loop is blocked so long
abbrev pub waited_for : Program → State → Event → Option Event
waited_for p s (event.Tick ms) = wait_for p s ms
waited_for p s e = Some e

abbrev pub came : Program → State → Recorded → Option Event
came p s r = if r.waits then waited_for p s r.event else Some r.event

abbrev pub comes_by : Program → State → Kept → Option Recorded → Option Event
comes_by p s k None = None
comes_by p s k (Some r) = if is_made s (aim r.event) && is_clear k r.event then came p s r else None

-- the recorded event of this number, where what it is for was made
abbrev pub comes : Program → List Recorded → State → Kept → ℕ → Option Event
comes p recorded s k number = comes_by p s k (slice_get recorded number)

abbrev pub moves : Next → Bool
moves (Moves t line) = true
moves (Refuses why) = false

abbrev pub accepts : Program → State → Option Event → Bool
accepts p s None = false
accepts p s (Some e) = moves (next p s e)

-- the next event of a source is ahead, one of the first recorded ones, and the loop accepts it here
abbrev pub is_ready : Program → List Recorded → State → Kept → ℕ → Left → Bool
is_ready p recorded s k count (left.Ahead number) = if nat_lt number count then accepts p s (comes p recorded s k number) else false
is_ready p recorded s k count x = false

abbrev pub held_if : Bool → Left → Left
held_if true (left.Ahead number) = left.Held number
held_if ready x = x

-- what goes on past the first recorded events holds back those that are ready
abbrev pub held_back : Program → List Recorded → State → Kept → ℕ → List Left → List Left
held_back p recorded s k count [] = []
held_back p recorded s k count (x ∷ xs) = held_if (is_ready p recorded s k count x) x ∷ held_back p recorded s k count xs

-- each comes at another place, if one more may
abbrev pub spent : ℕ → Option ℕ
spent spare = if spare == 0 then None else Some (spare - 1)

abbrev pub spent_if : Bool → ℕ → Option ℕ
spent_if true spare = spent spare
spent_if false spare = Some spare

abbrev pub spare_behind : Program → List Recorded → State → Kept → ℕ → List Left → Option ℕ → Option ℕ
spare_behind p recorded s k count xs None = None
spare_behind p recorded s k count [] (Some spare) = Some spare
spare_behind p recorded s k count (x ∷ xs) (Some spare) =
    spare_behind p recorded s k count xs (spent_if (is_ready p recorded s k count x) spare)

abbrev pub past_by : List Left → Option ℕ → Option (List Left × ℕ)
past_by xs None = None
past_by xs (Some spare) = Some (xs, spare)

-- past the first recorded events: what is left of each source, and how many more may come at another place
abbrev pub past : Rules → Place → ℕ → Option (List Left × ℕ)
past r p count = past_by (held_back r.program r.recorded p.state p.kept count p.left)
    (spare_behind r.program r.recorded p.state p.kept count p.left (Some p.kept.along.spare))

-- where the loop waits, the clock goes on to the poll's deadline
abbrev pub waiting : Rules → State → Option Event
waiting r s = if r.waits then timed r.clock s.clock (wait_until r.program s (deadline_at s.place)) else None

-- that is one of the steps to the next event's place
abbrev pub waits_or_goes : List Recorded → Kept → Option Event → Event × Kept
waits_or_goes recorded k None = (event.Loop, k)
waits_or_goes recorded k (Some e) = (e, waited recorded k)

abbrev pub with_kept : Kept → Option Event → Option (Event × Kept)
with_kept k None = None
with_kept k (Some e) = Some (e, k)

-- how the loop goes on, and what is kept: a callback's time goes by first
abbrev pub going : Rules → State → Kept → Option (Event × Kept)
going r s k =
    if owes k then with_kept k (timed r.clock s.clock (Some (event.Tick k.owed))) else Some (waits_or_goes r.recorded k (waiting r s))

abbrev pub go_on_by : Option (Event × Kept) → Option (List Left × ℕ) → Option Choice
go_on_by (Some g) (Some t) = Some (record { event = g.0; left = t.0; kept = with_spare g.1 t.1 })
go_on_by _ _ = None

-- the loop goes on, past all whose place was reached
abbrev pub go_on : Rules → Place → Option Choice
go_on r p = go_on_by (going r p.state p.kept) (past r p p.kept.along.next)

-- the place of the recorded event of this number was reached, or the loop can't go on to it
abbrev pub is_due : Rules → Place → ℕ → Bool
is_due r p number =
    if nat_lt number p.kept.along.next then true
    else (if is_in_poll p.state.place then (is_blocked r.program p.state && is_none (waiting r p.state)) else false)

-- where that comes, its place is here
abbrev pub along_at : List Recorded → Along → ℕ → ℕ → Along
along_at recorded a number spare = if nat_lt number a.next then record a { spare = spare } else behind recorded number spare

-- an event of a source comes, that of this number
abbrev pub come : List Recorded → List Left → ℕ → ℕ → Event → List Left
come recorded xs source number e = slice_set xs source (next_of e (drop (number + 1) recorded) (number + 1))

abbrev pub come_by : List Recorded → Kept → ℕ → ℕ → Option (List Left × ℕ) → Option Event → Option Choice
come_by recorded k source number (Some t) (Some e) = Some (record {
  event = e;
  left = come recorded t.0 source number e;
  kept = record k { along = along_at recorded k.along number t.1 };
})
come_by recorded k source number _ _ = None

abbrev pub come_in_place : Rules → Place → ℕ → ℕ → Option Choice
come_in_place r p source number =
    come_by r.recorded p.kept source number (past r p number) (timed r.clock p.state.clock (comes r.program r.recorded p.state p.kept number))

abbrev pub in_place_of : Rules → Place → ℕ → Option Left → Option Choice
in_place_of r p source (Some (left.Ahead number)) = if is_due r p number then come_in_place r p source number else None
in_place_of r p source x = None

-- the next event of this source comes at its place, or as soon after it as it may, past those before it
abbrev pub in_place : Rules → Place → ℕ → Option Choice
in_place r p source = in_place_of r p source (slice_get p.left source)

abbrev pub free_of : State → Kept → Option Event → Option Event
free_of s k None = None
free_of s k (Some e) = if is_free s k e then Some e else None

abbrev pub elsewhere_by : List Recorded → List Left → Kept → ℕ → ℕ → Option Event → Option Choice
elsewhere_by recorded xs k source number None = None
elsewhere_by recorded xs k source number (Some e) = Some (record { event = e; left = come recorded xs source number e; kept = k })

abbrev pub elsewhere_with : Rules → State → List Left → ℕ → ℕ → Option Kept → Option Choice
elsewhere_with r s xs source number None = None
elsewhere_with r s xs source number (Some k) =
    elsewhere_by r.recorded xs k source number (timed r.clock s.clock (free_of s k (comes r.program r.recorded s k number)))

-- one that is ahead is counted here; one that was held back was counted then
abbrev pub elsewhere_of : Rules → Place → ℕ → Option Left → Option Choice
elsewhere_of r p source (Some (left.Ahead number)) =
    elsewhere_with r p.state p.left source number (option_map (with_spare p.kept) (spent p.kept.along.spare))
elsewhere_of r p source (Some (left.Held number)) = elsewhere_with r p.state p.left source number (Some p.kept)
elsewhere_of r p source x = None

-- the next event of this source comes at another place
abbrev pub elsewhere : Rules → Place → ℕ → Option Choice
elsewhere r p source = elsewhere_of r p source (slice_get p.left source)

-- by their numbers: the loop goes on, each source's next event comes at its place, each at another one
abbrev pub recorded_at : Rules → Place → ℕ → Option Choice
recorded_at r p number =
    let count = length p.left in
    if number == 0 then go_on r p
    else if nat_le number count then in_place r p (number - 1)
    else elsewhere r p (number - 1 - count)

-- ---- the choices of a place

abbrev pub move_count_by : Option ℕ → ℕ → ℕ → ℕ
move_count_by None offers sources = offers
move_count_by (Some k) offers sources = 1 + sources + sources

abbrev pub move_count : Rules → Place → ℕ
move_count r p = move_count_by r.differ (length r.offers) (length p.left)

abbrev pub choice_by : Rules → Place → ℕ → Option ℕ → Option Choice
choice_by r p number None = offer_at r p number
choice_by r p number (Some k) = recorded_at r p number

-- what the move of this number is here, if it is any
unfoldable pub choice_at : Rules → Place → ℕ → Option Choice
choice_at r p number = if nat_lt number (move_count r p) then choice_by r p number r.differ else None

-- ---- where an event leads

-- the place after a choice, with this state, where that appended this line
abbrev pub taken : Rules → Choice → State → Option Seen → Place
taken r c s line = record { state = s; left = c.left; kept = kept_after r.recorded r.takes r.question c.kept c.event s line }

-- each callback of the name was called so often at most
abbrev pub is_called_within : State → Most → Bool
is_called_within s most =
    let calls = (named s most.name).calls in
    nat_le calls.handle most.calls && nat_le calls.after most.calls && nat_le calls.close most.calls

abbrev pub is_within : List Most → State → Bool
is_within most s = list_all (λ (m : Most). is_called_within s m) most

-- an event that was taken, the place where it leads, and the line that it appends
pub record Led : Type 0 where
  pub event : Event
  pub place : Place
  pub line : Option Seen

-- the state and the line of a step that is taken within the bounds
abbrev pub reached : List Most → Next → Option (State × Option Seen)
reached most (Refuses why) = None
reached most (Moves s line) = if is_within most s then Some (s, line) else None

abbrev pub placed : Rules → Choice → Option (State × Option Seen) → Option Led
placed r c None = None
placed r c (Some t) = Some (record { event = c.event; place = taken r c t.0 t.1; line = t.1 })

-- where a choice leads, if the loop accepts it and the bounds hold then
abbrev pub led_by : Rules → Place → Option Choice → Option Led
led_by r p None = None
led_by r p (Some c) = placed r c (reached r.most (next r.program p.state c.event))

abbrev pub led : Rules → Place → ℕ → Option Led
led r p number = led_by r p (choice_at r p number)
