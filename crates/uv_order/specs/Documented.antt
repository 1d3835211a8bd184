-- The documented order of phases (design overview, in the loop orders of 1.44 and 1.45; what is marked own is this profile's): a grammar
-- over the lines of a trace, with the states before and after each. A trace is the lines of the main program and its runs; a run
-- is the timers of its entry, iterations, and its end; an iteration is its sections in their order; a section calls the members
-- of its list, and each callback does the ops of its body. Callbacks of I/O come in the poll and about it, as the environment says: their
-- order and number are free (own). It says nothing of how a step is done.
use Rattle.std.specs.Prelude.{◌≡◌, ◌≤◌, ◌==◌, ◌&&◌, ◌||◌, ℕ, zero, suc, ◌+◌, List, [], ◌∷◌, ◌++◌, Bool, true, false, not, Option, Some, None, slice_get, option_map, nat_le, if◌then◌else◌}
use Rattle.uv_ids.specs.declared.order.Order.{Order}
use Rattle.uv_ids.specs.declared.order.Order.TheVariants.{V144, V145}
use Rattle.uv_ids.specs.declared.id.Id.{Id}
use Rattle.uv_ids.specs.declared.id.Var.{Var}
use Rattle.uv_ids.specs.declared.due.Due.{Due}
use Rattle.uv_ids.specs.declared.code.Code.{Code}
use Rattle.uv_ids.specs.declared.code.Code.TheVariants.{Ok as Success}
use Rattle.uv_ids.specs.declared.code.Answer.{Answer}
use Rattle.uv_ids.specs.declared.code.Answer.TheVariants.{Code as Says, Id as Made}
use Rattle.uv_ids.specs.declared.phase.Kind.TheVariants as kind
use Rattle.uv_ids.specs.declared.phase.Mode.{Mode}
use Rattle.uv_ids.specs.declared.phase.Mode.TheVariants.{Default, Once, Nowait}
use Rattle.uv_ids.specs.declared.phase.Phase.{Phase}
use Rattle.uv_ids.specs.declared.phase.Phase.TheVariants as phase
use Rattle.uv_ids.specs.declared.seen.Seen.{Seen}
use Rattle.uv_ids.specs.declared.seen.Seen.TheVariants as seen
use Rattle.uv_ids.specs.declared.seen.Callback.{Callback}
use Rattle.uv_ids.specs.declared.seen.Callback.TheVariants as callback
use Rattle.uv_ids.specs.declared.seen.Site.{Site}
use Rattle.uv_ids.specs.declared.seen.Site.TheVariants as site
use Rattle.uv_script.specs.declared.op.Op.{Op}
use Rattle.uv_script.specs.declared.op.Op.TheVariants as op
use Rattle.uv_script.specs.declared.op.MainOp.TheVariants as main
use Rattle.uv_script.specs.declared.op.CallbackLine.{CallbackLine}
use Rattle.uv_script.specs.Program.{Program, lines_in, is_for, op_at, order_of, has_io, from_heap}
use Rattle.uv_work.specs.declared.request.Request.{Request}
use Rattle.uv_work.specs.Requests.{digest_in}
use Rattle.uv_model.specs.Ids.{has_some, without_id}
use Rattle.uv_model.specs.State.{State, request}
use Rattle.uv_model.specs.Timeout.{has_pending}
use Rattle.uv_order.specs.Line.{Line}
use Rattle.uv_order.specs.Once.{bound, made_as}
use Rattle.uv_order.specs.Alive.{lives, may_wait}
use Rattle.uv_order.specs.Active.{has_id, IsActive, AreActive, AreClosing, AreEnded, AreTimers, AreDue}

-- ---- what lasts from line to line

-- it changes at the lines that say so, and nowhere between
pub record Lasting : Type 0 where
  -- the loop's cached time
  pub time : ℕ
  pub clock : ℕ
  pub stop_flag : Bool
  -- an idle handle was active as the iteration began
  pub idled : Bool

abbrev pub lasting : State → Lasting
lasting s = record { time = s.time; clock = s.clock; stop_flag = s.stop_flag; idled = s.idled }

abbrev pub at_first : Lasting
at_first = record { time = 0; clock = 0; stop_flag = false; idled = false }

-- the time is set to the clock
abbrev pub at_clock : State → Lasting
at_clock s = record (lasting s) { time = s.clock }

-- an op: `updatetime` sets the time to the clock, and `stoploop` the stop flag
abbrev pub after_op : Op → State → Lasting
after_op op.UpdateTime s = at_clock s
after_op op.StopLoop s = record (lasting s) { stop_flag = true }
after_op o s = lasting s

-- the line of a run: in the order of 1.45 a default one sets the time to the clock (own)
abbrev pub after_run : Order → Mode → State → Lasting
after_run V145 Default s = at_clock s
after_run V145 Once s = lasting s
after_run V145 Nowait s = lasting s
after_run V144 m s = lasting s

-- whether the loop idled, behind the line `pending`: in the order of 1.45 that keeps whether an idle handle is active
abbrev pub idled_by : Order → State → Bool
idled_by V145 s = has_some s.watchers.idle.list
idled_by V144 s = s.idled

-- the line of a section of an iteration: on leaving the poll (own) and before the timers the time is set to the clock
abbrev pub after_line : Order → Phase → State → Lasting
after_line o phase.Pending s = record (lasting s) { idled = idled_by o s }
after_line o phase.Done s = at_clock s
after_line o phase.Timers s = at_clock s
after_line o phase.Idle s = lasting s
after_line o phase.Prepare s = lasting s
after_line o phase.Async s = lasting s
after_line o phase.Check s = lasting s
after_line o phase.Closing s = lasting s

-- the end of a run clears the stop flag
abbrev pub after_end : State → Lasting
after_end s = record (lasting s) { stop_flag = false }

abbrev pub after_tick : ℕ → State → Lasting
after_tick ms s = record (lasting s) { clock = s.clock + ms }

-- ---- names

-- what the lines say of names
pub record Names : Type 0 where
  -- the id that a name is bound to
  pub bound : Var → Option Id
  -- the name under which an id was made
  pub made : Id → Option Var

-- as these lines say, the last one first
abbrev pub names_by : Program → List Seen → Names
names_by p past = record { bound = bound p past; made = made_as p past }

-- the id that a name is bound to
abbrev pub ids_of : Names → Option Var → List Id
ids_of names None = []
ids_of names (Some v) = ids_or_none (names.bound v) where
  ids_or_none : Option Id → List Id
  ids_or_none None = []
  ids_or_none (Some id) = id ∷ []

-- ---- what the lines have told

pub record Told : Type 0 where
  -- the names whose handle callback was called, the last one first
  pub called : List Var
  -- the names whose after callback was called, the last one first
  pub after : List Var
  -- the names whose close callback was called, the last one first
  pub closed : List Var
  -- the handles that were sent to since they were made and since their last call, and that weren't closed
  pub sent : List Id

abbrev pub nothing_told : Told
nothing_told = record { called = []; after = []; closed = []; sent = [] }

-- the names of which this callback was called
abbrev pub told_of : Callback → Told → List Var
told_of callback.Handle told = told.called
told_of callback.After told = told.after
told_of callback.Close told = told.closed

-- how often a name is among these
abbrev pub times : List Var → Var → ℕ
times [] v = zero
times (x ∷ xs) v = if x.0 == v.0 then suc (times xs v) else times xs v

-- the number of the next call of a name's callback
abbrev pub next_call : Told → Callback → Var → ℕ
next_call told kind v = times (told_of kind told) v + 1

-- these without those
abbrev pub without_ids : List Id → List Id → List Id
without_ids ids [] = ids
without_ids ids (gone ∷ more) = without_id (without_ids ids more) gone

-- who is sent to after an op: one more by an accepted `send` (uv_async_send), and one less by an accepted `close`; nobody has sent to a
-- handle that is made
abbrev pub sent_by : Op → Answer → Names → List Id → List Id
sent_by (op.Send v) (Says Success) names sent = ids_of names (Some v) ++ sent
sent_by (op.Close v) (Says Success) names sent = without_ids sent (ids_of names (Some v))
sent_by (op.Init v kind) (Made id) names sent = without_id sent id
sent_by o a names sent = sent

abbrev pub sent_after : Option Op → Answer → Names → List Id → List Id
sent_after None a names sent = sent
sent_after (Some o) a names sent = sent_by o a names sent

-- with one line more: a call is one more of its name, and takes in what was sent
abbrev pub told_by : Program → Told → Names → Seen → Told
told_by p told names (seen.Call v id) = record told { called = v ∷ told.called; sent = without_id told.sent id }
told_by p told names (seen.Io v id) = record told { called = v ∷ told.called }
told_by p told names (seen.After digest v id) = record told { after = v ∷ told.after }
told_by p told names (seen.Closed v id) = record told { closed = v ∷ told.closed }
told_by p told names (seen.Op place a) = record told { sent = sent_after (op_at p place) a names told.sent }
told_by p told names (seen.Send v code) = record told { sent = sent_by (op.Send v) (Says code) names told.sent }
told_by p told names (seen.Run m) = told
told_by p told names (seen.Section word) = told
told_by p told names (seen.Poll timeout) = told
told_by p told names (seen.End alive) = told
told_by p told names (seen.Take k v id) = told
told_by p told names (seen.Finish k v id) = told
told_by p told names (seen.Cancel v a) = told
told_by p told names (seen.Tick ms) = told

-- ---- bodies

-- the places of those of these lines that are for this call, the first of the lines having this number
abbrev pub sites_from : Callback → Var → ℕ → ℕ → List CallbackLine → List Site
sites_from kind v call number [] = []
sites_from kind v call number (line ∷ lines) =
    if is_for call line.call
    then site.In kind v number ∷ sites_from kind v call (number + 1) lines
    else sites_from kind v call (number + 1) lines

-- the body of a call of a name's callback: its lines for that call, in order
abbrev pub body_of : Program → Callback → Var → ℕ → List Site
body_of p kind v call = sites_from kind v call 0 (lines_in p kind v)

-- ---- the parts of a run

-- the parts of a run that have a line and may have callbacks: the timers of its entry, in the order of 1.44 those with which an iteration
-- begins, and the sections of an iteration
pub data Section : Type 0 where
  Entry : Section
  In : Phase → Section

-- the word of its line
abbrev pub word_of : Section → Phase
word_of Entry = phase.Timers
word_of (In word) = word

pub data Part : Type 0 where
  -- the line of the run
  Start : Part
  -- a section
  Of : Section → Part
  -- the poll
  Poll : Part
  -- the line of the run's end
  End : Part

-- what follows a part of a run, where the loop goes on or doesn't. In the order of 1.45 once and nowait have one iteration at most, and no
-- timers at their entry. In that of 1.44 each iteration begins with timers as the entry does, and in once others are behind it
abbrev pub part_after : Order → Mode → Bool → Part → Part
part_after o m go (Of (In phase.Pending)) = Of (In phase.Idle)
part_after o m go (Of (In phase.Idle)) = Of (In phase.Prepare)
part_after o m go (Of (In phase.Prepare)) = Poll
part_after o m go Poll = Of (In phase.Done)
part_after o m go (Of (In phase.Done)) = Of (In phase.Async)
part_after o m go (Of (In phase.Async)) = Of (In phase.Check)
part_after o m go (Of (In phase.Check)) = Of (In phase.Closing)
part_after o m go End = End
part_after o m false Start = End
part_after V145 Default true Start = Of Entry
part_after V145 Once true Start = Of (In phase.Pending)
part_after V145 Nowait true Start = Of (In phase.Pending)
part_after V145 m true (Of Entry) = Of (In phase.Pending)
part_after V145 m false (Of Entry) = End
part_after V145 m go (Of (In phase.Closing)) = Of (In phase.Timers)
part_after V145 Default true (Of (In phase.Timers)) = Of (In phase.Pending)
part_after V145 Default false (Of (In phase.Timers)) = End
part_after V145 Once go (Of (In phase.Timers)) = End
part_after V145 Nowait go (Of (In phase.Timers)) = End
part_after V144 m true Start = Of Entry
part_after V144 m go (Of Entry) = Of (In phase.Pending)
part_after V144 Default true (Of (In phase.Closing)) = Of Entry
part_after V144 Default false (Of (In phase.Closing)) = End
part_after V144 Once go (Of (In phase.Closing)) = Of (In phase.Timers)
part_after V144 Nowait go (Of (In phase.Closing)) = End
part_after V144 m go (Of (In phase.Timers)) = End

-- the loop goes on: it is alive, and the stop flag is clear
abbrev pub goes_on : State → Bool
goes_on s = lives s && not s.stop_flag

-- what the line of a section sets: the timers of the entry in the order of 1.45 nothing; in that of 1.44 they set the time to the clock, and
-- the loop didn't idle; and each other section what its word says
abbrev pub after_word : Order → Section → State → Lasting
after_word o (In word) s = after_line o word s
after_word V145 Entry s = lasting s
after_word V144 Entry s = record (at_clock s) { idled = false }

-- ---- sections

-- the list of a section, by its line: for idle, prepare, check and async the list of that word before it, which has all active handles
-- of the kind; for done the list before it, which has all requests that were finished or cancelled; for closing the list before it, which
-- has all handles that close; for timers all active timers that are due after it, in their order. Nothing is called in the other one.
abbrev pub HasList : Phase → Line → List Id → Type 0
HasList phase.Idle l ids = (ids ≡ l.before.watchers.idle.list) × AreActive l.before kind.Idle ids
HasList phase.Prepare l ids = (ids ≡ l.before.watchers.prepare.list) × AreActive l.before kind.Prepare ids
HasList phase.Check l ids = (ids ≡ l.before.watchers.check.list) × AreActive l.before kind.Check ids
HasList phase.Timers l ids = AreDue l.after ids
HasList phase.Pending l ids = ids ≡ []
HasList phase.Done l ids = (ids ≡ l.before.done.list) × AreEnded l.before ids
HasList phase.Async l ids = (ids ≡ l.before.watchers.async.list) × AreActive l.before kind.Async ids
HasList phase.Closing l ids = (ids ≡ l.before.closing.list) × AreClosing l.before ids

-- whom an accepted op takes off the list of a section: one that it stops or closes, and in a section of timers one that it starts. A
-- request that is done and a handle that closes are called whatever is done
abbrev pub off_by : Phase → Op → Option Var
off_by phase.Done o = None
off_by phase.Closing o = None
off_by phase.Async (op.Stop v) = None
off_by word (op.Stop v) = Some v
off_by word (op.Close v) = Some v
off_by phase.Timers (op.Start v timeout repeat) = Some v
off_by phase.Timers (op.Again v) = Some v
off_by word o = None

abbrev pub taken_off : Phase → Names → Op → Answer → List Id
taken_off word names o (Says Success) = ids_of names (off_by word o)
taken_off word names o a = []

-- how far a section is
pub record Walk : Type 0 where
  -- the members of its list behind the last one that was called
  pub ahead : List Id
  -- whom an op of the section took off its list
  pub off : List Id
  -- who was sent to as the section began; an async section asks for it
  pub sent : List Id
  -- the ops of the callback under way that are still to be done
  pub body : List Site
  -- whether the poll before it was woken, which the sections of done and async ask
  pub woken : Bool

-- who was sent to as a section of this word begins, where that counts
abbrev pub sent_at : Phase → Told → List Id
sent_at phase.Async told = told.sent
sent_at word told = []

-- whether a section has a list at all: done and async have none behind a poll that nobody woke, nor have timers where those that are due are
-- called straight from their heap
abbrev pub has_list : Program → Phase → Bool → Bool
has_list p phase.Done woken = woken
has_list p phase.Async woken = woken
has_list p phase.Timers woken = not (from_heap p)
has_list p word woken = true

abbrev pub ListIf : Bool → Phase → Line → List Id → Type 0
ListIf true word l ids = HasList word l ids
ListIf false word l ids = ids ≡ []

-- a section as it begins: nobody was called, and nobody taken off; whether the poll was woken, it has from where the run stands
pub record Opens (p : Program) (word : Phase) (told : Told) (woken : Bool) (l : Line) (w : Walk) : Type 0 where
  pub list : ListIf (has_list p word woken) word l w.ahead
  pub off : w.off ≡ []
  pub sent : w.sent ≡ sent_at word told
  pub body : w.body ≡ []
  pub kept : w.woken ≡ woken

-- each of these was taken off
abbrev pub AllOff : List Id → List Id → Type 0
AllOff off [] = Unit {0}
AllOff off (id ∷ ids) = (has_id off id ≡ true) × AllOff off ids

-- each of these was taken off, or not sent to
abbrev pub AllOffOrUnsent : List Id → List Id → List Id → Type 0
AllOffOrUnsent off sent [] = Unit {0}
AllOffOrUnsent off sent (id ∷ ids) = ((has_id off id || not (has_id sent id)) ≡ true) × AllOffOrUnsent off sent ids

-- who may be passed by: whoever was taken off; in async also whoever wasn't sent to before the section began
abbrev pub MayPass : Phase → Walk → List Id → Type 0
MayPass phase.Async w ids = AllOffOrUnsent w.off w.sent ids
MayPass word w ids = AllOff w.off ids

-- who may be called: nobody who was taken off, and in async only who was sent to, in the section or before
abbrev pub is_called : Phase → Told → Id → Bool
is_called phase.Async told id = has_id told.sent id
is_called word told id = true

pub record MayCall (word : Phase) (told : Told) (w : Walk) (id : Id) : Type 0 where
  pub on : has_id w.off id ≡ false
  pub called : is_called word told id ≡ true

-- a callback may begin: the ops of the last one are done; those before the member called may be passed by, and these are behind it
pub record CallsNext (word : Phase) (told : Told) (w : Walk) (id : Id) (behind : List Id) : Type 0 where
  pub done : w.body ≡ []
  pub passed : List Id
  pub list : w.ahead ≡ passed ++ id ∷ behind
  pub may_pass : MayPass word w passed
  pub may_call : MayCall word told w id

-- a section may be left: the ops of the last callback are done, and whoever wasn't called may be passed by
pub record IsOver (word : Phase) (w : Walk) : Type 0 where
  pub done : w.body ≡ []
  pub may_pass : MayPass word w w.ahead

-- and where timers are called straight from their heap, none of them is due
abbrev pub NoneDue : Phase → Bool → State → Type 0
NoneDue phase.Timers true s = AreDue s []
NoneDue word heap s = Unit {0}

-- ---- runs

-- when a poll is over, at the latest: so long behind the loop's time
abbrev pub poll_end : State → Option ℕ → Option ℕ
poll_end s None = None
poll_end s (Some timeout) = Some (s.time + timeout)

-- the clock has come so far
abbrev pub is_reached : ℕ → Option ℕ → Bool
is_reached clock None = false
is_reached clock (Some deadline) = nat_le deadline clock

-- where a run stands
pub data Standing : Type 0 where
  -- behind its line
  Begun : Standing
  -- in a section
  Within : Section → Walk → Standing
  -- in the poll, with its deadline
  Polling : Option ℕ → Standing
  -- behind a callback of I/O that left the poll: whether the poll was woken before, and the ops of the callback under way that are still to be done
  Answering : Bool → List Site → Standing

abbrev pub part_of : Standing → Part
part_of Begun = Start
part_of (Within part w) = Of part
part_of (Polling deadline) = Poll
part_of (Answering woken body) = Poll

-- whether the poll was woken: one that no callback of I/O left counts so
abbrev pub woken_at : Standing → Bool
woken_at Begun = true
woken_at (Within part w) = w.woken
woken_at (Polling deadline) = true
woken_at (Answering woken body) = woken

-- it may go on to its next part: a section that is over, and a poll whose deadline the clock has reached, or that a request ends which is
-- done, or an async handle; or that a callback of I/O left, whose ops are done
abbrev pub MayLeave : Program → State → Told → Standing → Type 0
MayLeave p s told Begun = Unit {0}
MayLeave p s told (Within part w) = IsOver (word_of part) w × NoneDue (word_of part) (from_heap p) s
MayLeave p s told (Polling deadline) = (is_reached s.clock deadline || (has_some s.done.list || (has_some told.sent && has_pending s))) ≡ true
MayLeave p s told (Answering woken body) = body ≡ []

-- what the line of the next section sets: behind a callback of I/O that left the poll, and set the time to the clock, nothing
abbrev pub after_section : Order → Standing → Section → State → Lasting
after_section o (Answering woken body) part s = lasting s
after_section o at part s = after_word o part s

-- ---- callbacks of I/O

-- one may begin: no other callback is under way, in the pending section, in the poll or behind it, in done, and in async behind the last of those
-- that are called there
abbrev pub MayAnswer : Standing → Type 0
MayAnswer (Polling deadline) = Unit {0}
MayAnswer (Answering woken body) = body ≡ []
MayAnswer (Within (In phase.Pending) w) = w.body ≡ []
MayAnswer (Within (In phase.Done) w) = w.body ≡ []
MayAnswer (Within (In phase.Async) w) = IsOver phase.Async w
MayAnswer at = ⊥

-- where the run stands then, with the ops of its body still to be done: the first one in a poll leaves it, and it is kept whether a request was done
-- or an async handle sent to before; behind one in async none of that section's list is called any more
abbrev pub answering : State → Told → List Site → Standing → Standing
answering s told body (Polling deadline) = Answering (has_some s.done.list || has_some told.sent) body
answering s told body (Answering woken done) = Answering woken body
answering s told body (Within (In phase.Async) w) = Within (In phase.Async) (record w { ahead = []; body = body })
answering s told body (Within part w) = Within part (record w { body = body })
answering s told body Begun = Begun

-- what it sets: the first one in a poll sets the time to the clock
abbrev pub after_io : Standing → State → Lasting
after_io (Polling deadline) s = at_clock s
after_io at s = lasting s

-- the poll may wait so long, by the active timers as the handles say
pub record PollsFor (s : State) (m : Mode) (timeout : Option ℕ) : Type 0 where
  pub timers : List (Due × Id)
  pub are : AreTimers s timers
  pub is : timeout ≡ may_wait s timers m

-- the callbacks of a section, and their lines
abbrev pub callback_in : Phase → Callback
callback_in phase.Done = callback.After
callback_in phase.Closing = callback.Close
callback_in word = callback.Handle

-- that of an after callback says what became of the request
abbrev pub IsCallLine : State → Callback → Var → Id → Seen → Type 0
IsCallLine s callback.Handle v id what = what ≡ seen.Call v id
IsCallLine s callback.After v id what = option_map (λ (r : Request). seen.After (digest_in r.outcome) v id) (request s id) ≡ Some what
IsCallLine s callback.Close v id what = what ≡ seen.Closed v id

-- where a trace stands
pub data Position : Type 0 where
  -- between the lines of the main program, at this one
  Between : ℕ → Position
  -- in a run, which began at this line
  Running : Mode → ℕ → Standing → Position

-- a line takes the trace from where it stands to where it stands then; so much was told before it, and so were names bound
pub data Goes (p : Program) (told : Told) (names : Names) : Position → Line → Position → Type 0 where
  -- an op of the main program
  main_line : {l : Line} {i : ℕ} (o : Op) (a : Answer)
      → op_at p (site.Main i) ≡ Some o
      → l.seen ≡ seen.Op (site.Main i) a
      → lasting l.after ≡ after_op o l.before
      → Goes p told names (Between i) l (Between (i + 1))
  -- a run of the main program begins
  run : {l : Line} {i : ℕ} (m : Mode)
      → slice_get p.main i ≡ Some (main.Run m)
      → l.seen ≡ seen.Run m
      → lasting l.after ≡ after_run (order_of p) m l.before
      → Goes p told names (Between i) l (Running m i Begun)
  -- the next section begins
  section : {l : Line} {m : Mode} {i : ℕ} {at : Standing} {w : Walk} (next : Section)
      → MayLeave p l.before told at
      → part_after (order_of p) m (goes_on l.before) (part_of at) ≡ Of next
      → l.seen ≡ seen.Section (word_of next)
      → Opens p (word_of next) told (woken_at at) l w
      → lasting l.after ≡ after_section (order_of p) at next l.before
      → Goes p told names (Running m i at) l (Running m i (Within next w))
  -- the poll begins, with the timeout that the loop has then
  poll : {l : Line} {m : Mode} {i : ℕ} {at : Standing} (timeout : Option ℕ)
      → MayLeave p l.before told at
      → part_after (order_of p) m (goes_on l.before) (part_of at) ≡ Poll
      → PollsFor l.before m timeout
      → l.seen ≡ seen.Poll timeout
      → lasting l.after ≡ lasting l.before
      → Goes p told names (Running m i at) l (Running m i (Polling (poll_end l.before timeout)))
  -- the run ends, and says whether the loop is alive
  ends : {l : Line} {m : Mode} {i : ℕ} {at : Standing}
      → MayLeave p l.before told at
      → part_after (order_of p) m (goes_on l.before) (part_of at) ≡ End
      → l.seen ≡ seen.End (lives l.before)
      → lasting l.after ≡ after_end l.before
      → Goes p told names (Running m i at) l (Between (i + 1))
  -- a callback of the section begins
  call : {l : Line} {m : Mode} {i : ℕ} {part : Section} {w : Walk} (kind : Callback) (v : Var) (id : Id) (behind : List Id)
      → callback_in (word_of part) ≡ kind
      → CallsNext (word_of part) told w id behind
      → names.made id ≡ Some v
      → IsCallLine l.before kind v id l.seen
      → lasting l.after ≡ lasting l.before
      → Goes p told names (Running m i (Within part w)) l (Running m i (Within part (record w {
        ahead = behind;
        body = body_of p kind v (next_call told kind v);
      })))
  -- where due timers are called straight from their heap: the callback of the first of all active ones begins, which is due
  fires : {l : Line} {m : Mode} {i : ℕ} {part : Section} {w : Walk} (v : Var) (id : Id) (due : Due) (others : List (Due × Id))
      → from_heap p ≡ true
      → word_of part ≡ phase.Timers
      → w.body ≡ []
      → AreTimers l.before ((due, id) ∷ others)
      → due.at ≤ l.before.time
      → names.made id ≡ Some v
      → l.seen ≡ seen.Call v id
      → lasting l.after ≡ lasting l.before
      → Goes p told names (Running m i (Within part w)) l
      (Running m i (Within part (record w { body = body_of p callback.Handle v (next_call told callback.Handle v) })))
  -- what an active handle of I/O waits for has come, and its callback begins; its script has a line `io`
  answers : {l : Line} {m : Mode} {i : ℕ} {at : Standing} (v : Var) (id : Id)
      → has_io p ≡ true
      → MayAnswer at
      → IsActive l.before kind.Io id
      → names.made id ≡ Some v
      → l.seen ≡ seen.Io v id
      → lasting l.after ≡ after_io at l.before
      → Goes p told names (Running m i at) l
      (Running m i (answering l.before told (body_of p callback.Handle v (next_call told callback.Handle v)) at))
  -- the next op of the body of one that left the poll
  answer_op : {l : Line} {m : Mode} {i : ℕ} {woken : Bool} (place : Site) (rest : List Site) (o : Op) (a : Answer)
      → op_at p place ≡ Some o
      → l.seen ≡ seen.Op place a
      → lasting l.after ≡ after_op o l.before
      → Goes p told names (Running m i (Answering woken (place ∷ rest))) l (Running m i (Answering woken rest))
  -- the next op of a section's callback
  body_op : {l : Line} {m : Mode} {i : ℕ} {part : Section} {w : Walk} (place : Site) (rest : List Site) (o : Op) (a : Answer)
      → w.body ≡ place ∷ rest
      → op_at p place ≡ Some o
      → l.seen ≡ seen.Op place a
      → lasting l.after ≡ after_op o l.before
      → Goes p told names (Running m i (Within part w)) l
      (Running m i (Within part (record w { off = taken_off (word_of part) names o a ++ w.off; body = rest })))
  -- steps from outside stand anywhere
  sent : {l : Line} {at : Position} (v : Var) (code : Code)
      → l.seen ≡ seen.Send v code
      → lasting l.after ≡ lasting l.before
      → Goes p told names at l at
  taken : {l : Line} {at : Position} (k : ℕ) (v : Var) (id : Id)
      → l.seen ≡ seen.Take k v id
      → (made : names.made id ≡ Some v)
      → lasting l.after ≡ lasting l.before
      → Goes p told names at l at
  finished : {l : Line} {at : Position} (k : ℕ) (v : Var) (id : Id)
      → l.seen ≡ seen.Finish k v id
      → (made : names.made id ≡ Some v)
      → lasting l.after ≡ lasting l.before
      → Goes p told names at l at
  cancelled : {l : Line} {at : Position} (v : Var) (a : Answer)
      → l.seen ≡ seen.Cancel v a
      → lasting l.after ≡ lasting l.before
      → Goes p told names at l at
  outside : {l : Line} {at : Position} (ms : ℕ)
      → l.seen ≡ seen.Tick ms
      → lasting l.after ≡ after_tick ms l.before
      → Goes p told names at l at

-- the lines go on from where a trace stands, behind these lines, the last one first
pub data GoesOn (p : Program) : Position → Told → List Seen → Lasting → List Line → Type 0 where
  -- it may be cut behind any line
  cut : {at : Position} {told : Told} {past : List Seen} {was : Lasting} → GoesOn p at told past was []
  line : {at to : Position} {told : Told} {past : List Seen} {was : Lasting} {l : Line} {ls : List Line}
      → lasting l.before ≡ was
      → Goes p told (names_by p past) at l to
      → GoesOn p to (told_by p told (names_by p past) l.seen) (l.seen ∷ past) (lasting l.after) ls
      → GoesOn p at told past was (l ∷ ls)

-- the lines of a trace are in the documented order
abbrev pub Documented : Program → List Line → Type 0
Documented p ls = GoesOn p (Between 0) nothing_told [] at_first ls
