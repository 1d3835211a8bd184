-- Where a state stands in the documented order, and the lists of the sections there.
use Rattle.uv_order.proofs.Names.{arith, ◌≡◌, ℕ, List, ◌++◌, Bool, true, false, Option, Some, None, refl, subst, append-nil, Order, Id, Due, Kind, Mode, Phase, Seen, Site, Program, Run, Stage, TimersOf, Turn, AtEntry, Behind, BehindClosing, Way, ToTimers, ToPending, ToEnd, Collecting, Firing, Place, Listed, Slot, Content, State, Next, Moves, Refuses, time_at, idled_at, from_heap, Line, has_id, AreTimers, AreDistinct, AreActive, AreClosing, AreEnded, AreOpened, run_ids, Told, told_by, AllOffOrUnsent, lasting, Section, Entry, In, word_of, part_after, part_of, Opens, IsOver, Standing, Answering, Begun, Within, Polling, Position, Between, Running, Goes, WatcherKind, phase_of, [], Names}
use Rattle.uv_order.specs.Documented as doc
use Rattle.uv_order.specs.Documented.{Walk}
use Rattle.uv_order.proofs.Lemmas.{left_of, due_ids, distinct_due, its_handle, Everyone, Times, Kept, Watches, Closes, members, AllAsk, HasEnded, Working, IsBody, Counted, Agrees, all_alike}
use Rattle.uv_order.proofs.Sends.{pends, SentAt}

-- ---- where a state stands

-- a section that begins with this list, behind a poll that was woken or wasn't
abbrev pub begun_with : Bool → List Id → Walk
begun_with woken ids = record { ahead = ids; off = []; sent = []; body = []; woken = woken }

abbrev pub section_of : TimersOf → Section
section_of TimersOf.Entry = Entry
section_of TimersOf.Iteration = In Phase.Timers

-- the ops of the callback under way that are still to be done
abbrev pub sites_at : Standing → List Site
sites_at Begun = []
sites_at (Within part w) = w.body
sites_at (Polling deadline) = []
sites_at (Answering woken body) = body

-- by the stage of a run
pub data StandsIn (p : Program) : Stage → Standing → Type 0 where
  begun : StandsIn p Stage.Entry Begun
  pending : {w : Walk} → w.ahead ≡ [] → StandsIn p Stage.Pending (Within (In Phase.Pending) w)
  walking : {q : WatcherKind} {w : Walk} → StandsIn p (Stage.Walking q) (Within (In (phase_of q)) w)
  polls : {deadline : Option ℕ} → StandsIn p (Stage.Poll deadline) (Polling deadline)
  polled : {woken : Bool} {sites : List Site} → StandsIn p (Stage.Polled woken) (Answering woken sites)
  done : {w : Walk} → w.woken ≡ true → StandsIn p Stage.Done (Within (In Phase.Done) w)
  unwoken : {w : Walk} → w.woken ≡ false → w.ahead ≡ [] → StandsIn p Stage.DoneUnwoken (Within (In Phase.Done) w)
  closing : {w : Walk} → StandsIn p Stage.Closing (Within (In Phase.Closing) w)
  -- no callback is under way while timers are collected
  collects : {part : TimersOf} {w : Walk} → from_heap p ≡ false → w.body ≡ [] → StandsIn p (Stage.Timers part Collecting) (Within (section_of part) w)
  fires : {part : TimersOf} {w : Walk} → from_heap p ≡ false → StandsIn p (Stage.Timers part Firing) (Within (section_of part) w)
  -- where due timers are called straight from their heap, none is set aside
  calls_due : {part : TimersOf} {w : Walk} → from_heap p ≡ true → w.ahead ≡ [] →
      StandsIn p (Stage.Timers part Collecting) (Within (section_of part) w)

-- the timers that a section has yet to call: while it collects, those that are due too
abbrev pub waiting : Stage → Bool → List Id → List Id → List Id
waiting (Stage.Timers part Collecting) false ready due = ready ++ due
waiting x heap ready due = ready

-- who is left of the list of a section with this word, in a section with that word
abbrev pub rest_in : Phase → Phase → Walk → List Id
rest_in Phase.Idle Phase.Idle w = left_of w.ahead w.off
rest_in Phase.Prepare Phase.Prepare w = left_of w.ahead w.off
rest_in Phase.Check Phase.Check w = left_of w.ahead w.off
rest_in Phase.Timers Phase.Timers w = left_of w.ahead w.off
rest_in Phase.Closing Phase.Closing w = left_of w.ahead w.off
rest_in Phase.Done Phase.Done w = left_of w.ahead w.off
rest_in x y w = []

abbrev pub rest_of : Phase → Standing → List Id
rest_of x Begun = []
rest_of x (Within part w) = rest_in x (word_of part) w
rest_of x (Polling deadline) = []
rest_of x (Answering woken body) = []

-- those who are left of the async list, of which the first ones may have been passed by without a line
pub record IsBehind (slots : List (Slot Content)) (w : Walk) (ids : List Id) : Type 0 where
  pub gone : List Id
  pub behind : List Id
  pub all : w.ahead ≡ gone ++ behind
  pub left : ids ≡ left_of behind w.off
  -- those that were passed by might be
  pub passed : AllOffOrUnsent w.off w.sent gone
  -- and those that are left and were sent to before the section began are still pending
  pub still : (id : Id) → has_id ids id ≡ true → has_id w.sent id ≡ true → pends slots id ≡ true

abbrev pub AsyncIn : Phase → List (Slot Content) → Walk → List Id → Type 0
AsyncIn Phase.Async slots w ids = IsBehind slots w ids
AsyncIn word slots w ids = ids ≡ []

abbrev pub AsyncLeft : List (Slot Content) → Standing → List Id → Type 0
AsyncLeft slots Begun ids = ids ≡ []
AsyncLeft slots (Within part w) ids = AsyncIn (word_of part) slots w ids
AsyncLeft slots (Polling deadline) ids = ids ≡ []
AsyncLeft slots (Answering woken body) ids = ids ≡ []

-- handles change, and who was pending still is
pub async_moved : (slots more : List (Slot Content)) → ((id : Id) → pends slots id ≡ true → pends more id ≡ true) → (at : Standing) (ids : List Id) →
    AsyncLeft slots at ids → AsyncLeft more at ids
async_moved slots more f at ids k = grind arith

-- the members of the lists that sections walk, except those that were called
pub record Rest : Type 0 where
  pub ready : List Id
  pub idle : List Id
  pub prepare : List Id
  pub check : List Id
  pub async : List Id
  pub closing : List Id
  pub done : List Id
  -- what they are members of
  pub slots : List (Slot Content)

abbrev pub rest : List Id → State → Rest
rest ready s = record {
  ready = ready;
  idle = s.watchers.idle.yet;
  prepare = s.watchers.prepare.yet;
  check = s.watchers.check.yet;
  async = s.watchers.async.yet;
  closing = s.closing.yet;
  done = s.done.yet;
  slots = s.arena.slots;
}

-- the list of the section under way has who is left of it, and the others nobody
pub record Leaves (r : Rest) (at : Standing) : Type 0 where
  pub timers : r.ready ≡ rest_of Phase.Timers at
  pub idle : r.idle ≡ rest_of Phase.Idle at
  pub prepare : r.prepare ≡ rest_of Phase.Prepare at
  pub check : r.check ≡ rest_of Phase.Check at
  pub async : AsyncLeft r.slots at r.async
  pub closing : r.closing ≡ rest_of Phase.Closing at
  pub done : r.done ≡ rest_of Phase.Done at

pub left_all : {r : Rest} {at : Standing} → r.ready ≡ rest_of Phase.Timers at → r.idle ≡ rest_of Phase.Idle at →
    r.prepare ≡ rest_of Phase.Prepare at → r.check ≡ rest_of Phase.Check at → AsyncLeft r.slots at r.async → r.closing ≡ rest_of Phase.Closing at →
    r.done ≡ rest_of Phase.Done at → Leaves r at
left_all t i p c a cl d = record { timers = t; idle = i; prepare = p; check = c; async = a; closing = cl; done = d }

-- nobody is left
abbrev pub NobodyLeft : Rest → Type 0
NobodyLeft r = Leaves r Begun

abbrev pub due_now : State → List Id
due_now s = due_ids s.time s.timers

pub data StandsAt (p : Program) (s : State) : Place → Position → Type 0 where
  between : {i : ℕ} → NobodyLeft (rest s.ready s) → StandsAt p s (Place.Main i) (Between i)
  running : {run : Run} {at : Standing} → IsBody p run.body (sites_at at) → StandsIn p run.stage at →
      Leaves (rest (waiting run.stage (from_heap p) s.ready (due_now s)) s) at → StandsAt p s (Place.Running run) (Running run.mode run.line at)

pub record Stands (p : Program) (told : Told) (s : State) (at : Position) : Type 0 where
  pub stands : StandsAt p s s.place at
  pub counted : Counted p s.names told

-- what is known where a step begins: what is kept, and what the lines have told
pub record Has (p : Program) (told : Told) (names : Names) (s : State) : Type 0 where
  pub kept : Kept s
  pub sent : SentAt told.sent s
  pub working : Working s
  pub counted : Counted p s.names told
  pub agrees : Agrees names s

-- ---- what a step has to do

pub record FollowsLine (p : Program) (told : Told) (names : Names) (from : Position) (s : State) (what : Seen) (t : State) : Type 0 where
  pub to : Position
  pub goes : Goes p told names from (record { before = s; seen = what; after = t }) to
  pub stands : Stands p (told_by p told names what) t to

-- a line goes on to where the state behind it stands
pub follows_to : {p : Program} {told : Told} {names : Names} {from to : Position} {s t : State} {what : Seen} →
    Goes p told names from (record { before = s; seen = what; after = t }) to → StandsAt p t t.place to →
    Counted p t.names (told_by p told names what) → FollowsLine p told names from s what t
follows_to {to = to} g a c = record { to = to; goes = g; stands = record { stands = a; counted = c } }

abbrev pub Follows : Program → Told → Names → Position → State → Next → Type 0
Follows p told names at s (Moves t (Some what)) = FollowsLine p told names at s what t
Follows p told names at s (Moves t None) = Stands p told t at × (lasting t ≡ lasting s)
Follows p told names at s (Refuses why) = Unit {0}

-- ---- the order of the parts

-- the part that is left at a turn, and the one that is reached by a way
abbrev pub left : Turn → doc.Part
left AtEntry = doc.Start
left (Behind part) = doc.Of (section_of part)
left BehindClosing = doc.Of (In Phase.Closing)

abbrev pub reached_by : Way → doc.Part
reached_by (ToTimers part) = doc.Of (section_of part)
reached_by ToPending = doc.Of (In Phase.Pending)
reached_by ToEnd = doc.End

-- so is what the lines of the sections set
pub timers_last : (o : Order) (part : TimersOf) (s : State) →
    record (lasting s) { time = time_at o part s; idled = idled_at o part s } ≡ doc.after_word o (section_of part) s
timers_last o part s = grind arith

-- behind no turn of a run stands a callback of I/O that left the poll
pub no_answer : (o : Order) (at : Standing) (turn : Turn) (part : Section) (s : State) → part_of at ≡ left turn →
    doc.after_word o part s ≡ doc.after_section o at part s
no_answer o at turn part s e = grind arith

-- a part that one part follows, whether the loop goes on or not
abbrev pub IsNext : doc.Part → doc.Part → Type 0
IsNext a b = (o : Order) (m : Mode) (go : Bool) → part_after o m go a ≡ b

-- a section of an iteration
abbrev pub section_at : Phase → doc.Part
section_at word = doc.Of (In word)

pub async_next : IsNext (section_at Phase.Done) (section_at Phase.Async)
async_next o m go = refl

pub check_next : IsNext (section_at Phase.Async) (section_at Phase.Check)
check_next o m go = refl

-- ---- lists of sections

-- the order of timers is that of all active ones
pub are_timers : (s : State) (ts : List (Due × Id)) (drawn : ℕ) → Times s.arena.slots drawn ts → AreTimers s ts
are_timers s ts drawn k = grind arith

pub due_distinct : (s : State) (time : ℕ) → Kept s → AreDistinct (due_ids time s.timers)
due_distinct s time k = grind (arith, distinct_due, its_handle)

-- those that watch are the active handles of their kind
pub all_active : (s : State) (q : Kind) (ids : List Id) → Everyone s.arena.slots (Watches q) ids → AreActive s q ids
all_active s q ids k = all_alike (λ i f. grind arith) (λ i f. grind arith) k

pub are_active : (s : State) (q : Kind) (w : Listed Id) → w.yet ≡ [] → Everyone s.arena.slots (Watches q) (members w) → AreActive s q w.list
are_active s q w e k = subst (AreActive s q) (grind (arith, append-nil)) (all_active s q (members w) k)

-- a section whose list is empty is over once the ops of the last callback are done
pub empty_over : (word : Phase) (w : Walk) → w.ahead ≡ [] → w.body ≡ [] → IsOver word w
empty_over word w e b = grind arith

-- the section of the requests that are done begins behind a poll that was woken, and has them all
pub opens_done : (p : Program) (told : Told) (l : Line) → AreEnded l.before l.before.done.list →
    Opens p Phase.Done told true l (begun_with true l.before.done.list)
opens_done p told l are = record { list = (refl, are); off = refl; sent = refl; body = refl; kept = refl }

-- and behind one that nobody woke it has none, nor has that of async handles
pub opens_unwoken : (p : Program) (told : Told) (l : Line) → Opens p Phase.Done told false l (begun_with false [])
opens_unwoken p told l = record { list = refl; off = refl; sent = refl; body = refl; kept = refl }

pub all_ended : (s : State) (ids : List Id) → AllAsk s.arena.slots HasEnded ids → AreEnded s ids
all_ended s ids k = all_alike (λ i a. record { its = a.request; holds = a.holds; ended = a.fits })
    (λ i a. record { request = a.its; holds = a.holds; fits = a.ended }) k

-- those that wait, and those that workers run, are the open requests
pub all_opened : (s : State) → Working s → AreOpened s (s.waiting ++ run_ids s.running)
all_opened s k = all_alike (λ i a. record { its = a.request; holds = a.holds; opened = a.fits })
    (λ i a. record { request = a.its; holds = a.holds; fits = a.opened }) k.open_ones

pub are_ended : (s : State) → s.done.yet ≡ [] → Working s → AreEnded s s.done.list
are_ended s e k = subst (AreEnded s) (grind (arith, append-nil)) (all_ended s (members s.done) k.ended)

pub all_closing : (s : State) (ids : List Id) → Everyone s.arena.slots Closes ids → AreClosing s ids
all_closing s ids k = all_alike (λ i f. grind arith) (λ i f. grind arith) k

pub are_closing : (s : State) → s.closing.yet ≡ [] → Kept s → AreClosing s s.closing.list
are_closing s e k = subst (AreClosing s) (grind (arith, append-nil)) (all_closing s (members s.closing) k.closing)
