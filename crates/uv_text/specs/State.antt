-- The text of a session's state.
use Rattle.std.specs.Prelude.{ℕ, zero, suc, ◌+◌, ◌-◌, ◌==◌, nat_le, List, [], ◌++◌, Bool, true, false, length, Option, Some, None, slice_get, if◌then◌else◌, codes, decimal}
use Rattle.std.specs.List.{flat_map}
use Rattle.uv_ids.specs.Words.{kind_word, mode_word, phase_word}
use Rattle.uv_ids.specs.declared.id.Id.{Id}
use Rattle.uv_ids.specs.declared.id.Var.{Var}
use Rattle.uv_ids.specs.declared.phase.Kind.{Kind}
use Rattle.uv_ids.specs.declared.phase.Kind.TheVariants as kind
use Rattle.uv_ids.specs.declared.seen.Callback.{Callback}
use Rattle.uv_ids.specs.declared.seen.Callback.TheVariants as callback
use Rattle.uv_records.specs.declared.handle.HandleRecord.{HandleRecord}
use Rattle.uv_records.specs.declared.lists.ListName.{ListName}
use Rattle.uv_records.specs.declared.lists.ListName.TheVariants as name
use Rattle.uv_records.specs.declared.slot.Slot.{Slot}
use Rattle.uv_records.specs.Lists.{phase_of}
use Rattle.uv_records.specs.Slots.{held, id_of}
use Rattle.uv_script.specs.Program.{Program}
use Rattle.uv_script.specs.Text.{name_text, task_text}
use Rattle.uv_work.specs.Tasks.{text_of}
use Rattle.uv_work.specs.declared.outcome.Outcome.{Outcome}
use Rattle.uv_work.specs.declared.outcome.Outcome.TheVariants as outcome
use Rattle.uv_work.specs.declared.content.Content.{Content}
use Rattle.uv_work.specs.declared.content.Content.TheVariants as content
use Rattle.uv_work.specs.declared.request.Request.{Request}
use Rattle.uv_records.specs.declared.named.Calls.{Calls}
use Rattle.uv_records.specs.declared.named.Named.{Named}
use Rattle.uv_model.specs.declared.numbers.Numbers.{Numbers}
use Rattle.uv_model.specs.declared.place.Body.{Body}
use Rattle.uv_model.specs.declared.place.Place.{Place}
use Rattle.uv_model.specs.declared.place.Place.TheVariants.{Main, Running}
use Rattle.uv_model.specs.declared.place.Stage.{Stage}
use Rattle.uv_model.specs.declared.place.Stage.TheVariants.{Entry, Pending, Walking, Poll, Polled, Done, DoneUnwoken, Closing, Timers}
use Rattle.uv_model.specs.declared.place.TimersOf.{TimersOf}
use Rattle.uv_model.specs.declared.place.TimersOf.TheVariants as timers_of
use Rattle.uv_model.specs.declared.place.Timing.{Timing}
use Rattle.uv_model.specs.declared.place.Timing.TheVariants.{Collecting, Firing}
use Rattle.uv_model.specs.State.{State, named}
use Rattle.uv_model.specs.Queries.{numbers, timer_ids, members, is_free, run_by, worker_of}
use Rattle.uv_model.specs.After.{after}
use Rattle.uv_session.specs.Shown.{Shown}
use Rattle.uv_text.specs.Trace.{id_text, timeout_text}

-- a word, with the spaces that it has, and a number
abbrev pub numbered : List ℕ → ℕ → List ℕ
numbered word n = word ++ decimal n

-- a word and 1 or 0
abbrev pub flagged : List ℕ → Bool → List ℕ
flagged word true = word ++ codes "1"
flagged word false = word ++ codes "0"

-- how many steps stand, and the numbers and flags
unfoldable pub steps_line : ℕ → Numbers → List ℕ
steps_line n m =
    numbered (codes "steps ") n ++ numbered (codes " now ") m.time ++ numbered (codes " clock ") m.clock ++ flagged (codes " stop ") m.stop_flag
    ++ numbered (codes " next ") m.next_start ++ flagged (codes " idled ") m.idled ++ codes "\n"

-- ---- where the loop stands

abbrev pub timers_text : TimersOf → Timing → List ℕ
timers_text timers_of.Entry Collecting = codes "first collect"
timers_text timers_of.Entry Firing = codes "first fire"
timers_text timers_of.Iteration Collecting = codes "timers collect"
timers_text timers_of.Iteration Firing = codes "timers fire"

abbrev pub stage_text : Stage → List ℕ
stage_text Entry = codes "entry"
stage_text Pending = codes "pending"
stage_text (Walking kind) = phase_word (phase_of kind)
stage_text (Poll deadline) = codes "poll " ++ timeout_text deadline
stage_text (Polled true) = codes "polled woken"
stage_text (Polled false) = codes "polled"
stage_text Done = codes "done"
stage_text DoneUnwoken = codes "done unwoken"
stage_text Closing = codes "closing"
stage_text (Timers which timing) = timers_text which timing

-- the word of the lines of a callback
abbrev pub callback_word : Callback → List ℕ
callback_word callback.Handle = codes "on"
callback_word callback.After = codes "after"
callback_word callback.Close = codes "closed"

-- the callback under way: which call it is, and its next line, from 0
abbrev pub body_text : Program → Option Body → List ℕ
body_text p None = []
body_text p (Some b) =
    codes " + " ++ callback_word b.callback ++ codes " " ++ name_text p.names b.name ++ numbered (codes " ") b.call ++ numbered (codes " ") b.next

unfoldable pub place_line : Program → Place → List ℕ
place_line p (Main line) = numbered (codes "place main ") line ++ codes "\n"
place_line p (Running run) =
    codes "place " ++ mode_word run.mode ++ numbered (codes " ") run.line ++ codes " " ++ stage_text run.stage ++ body_text p run.body ++ codes "\n"

-- ---- names

abbrev pub bound_text : Option Id → List ℕ
bound_text (Some id) = id_text id
bound_text None = codes "none"

-- how often its callbacks were called
abbrev pub counts_text : Calls → List ℕ
counts_text c = numbered (codes " ") c.handle ++ numbered (codes " ") c.after ++ numbered (codes " ") c.close

abbrev pub name_line : Program → Var → Named → List ℕ
name_line p v n = codes "name " ++ name_text p.names v ++ codes " " ++ bound_text n.id ++ counts_text n.calls ++ codes "\n"

-- the lines of the first so many names
abbrev pub names_upto : Program → State → ℕ → List ℕ
names_upto p s zero = []
names_upto p s (suc n) = names_upto p s n ++ name_line p (record { 0 = n }) (named s (record { 0 = n }))

-- ---- slots

-- what a handle has that those of another kind have not
abbrev pub kind_text : Kind → HandleRecord → List ℕ
kind_text kind.Timer h =
    flagged (codes " begun ") h.begun ++ numbered (codes " due ") h.due.at ++ numbered (codes " start ") h.due.start
    ++ numbered (codes " repeat ") h.repeat
kind_text kind.Idle h = []
kind_text kind.Prepare h = []
kind_text kind.Check h = []
kind_text kind.Async h = flagged (codes " pending ") h.pending
kind_text kind.Io h = []

abbrev pub flags_text : HandleRecord → List ℕ
flags_text h = flagged (codes " ref ") h.referenced ++ flagged (codes " active ") h.active ++ flagged (codes " closing ") h.closing

-- what each handle has
abbrev pub front_text : Program → HandleRecord → List ℕ
front_text p h = kind_word h.kind ++ codes " " ++ name_text p.names h.name ++ flags_text h

abbrev pub record_text : Program → HandleRecord → List ℕ
record_text p h = front_text p h ++ kind_text h.kind h

-- an open request: which worker runs it, or that it waits for one
abbrev pub open_text : Option ℕ → List ℕ
open_text (Some worker) = numbered (codes "running ") worker
open_text None = codes "waiting"

-- what became of a request
abbrev pub outcome_text : Option ℕ → Outcome → List ℕ
outcome_text worker outcome.Open = open_text worker
outcome_text worker (outcome.Finished digest) = codes "done"
outcome_text worker outcome.Cancelled = codes "cancelled"

abbrev pub request_text : Program → Option ℕ → Request → List ℕ
request_text p worker r =
    codes "work " ++ name_text p.names r.name ++ codes " " ++ outcome_text worker r.outcome ++ numbered (codes " ") r.task.rounds
    ++ task_text (text_of r.task)

abbrev pub empty_text : Bool → List ℕ
empty_text true = codes "empty"
empty_text false = codes "retired"

-- what a slot holds; an empty one is on the free list or retired. A request is shown with the worker that runs it
abbrev pub content_text : Program → Bool → Option ℕ → Option Content → List ℕ
content_text p free worker (Some (content.Handle h)) = record_text p h
content_text p free worker (Some (content.Request r)) = request_text p worker r
content_text p free worker None = empty_text free

abbrev pub slot_line : Program → Bool → Option ℕ → Id → Option Content → List ℕ
slot_line p free worker id c = codes "slot " ++ id_text id ++ codes " " ++ content_text p free worker c ++ codes "\n"

abbrev pub slot_or_none : Program → State → ℕ → Option (Slot Content) → List ℕ
slot_or_none p s n (Some slot) = slot_line p (is_free s n) (worker_of s (id_of n slot)) (id_of n slot) slot.content
slot_or_none p s n None = []

-- the lines of the first so many slots
abbrev pub slots_upto : Program → State → ℕ → List ℕ
slots_upto p s zero = []
slots_upto p s (suc n) = slots_upto p s n ++ slot_or_none p s n (slice_get s.arena.slots n)

-- the free slots from the front, and how many were never used
unfoldable pub free_line : List ℕ → List ℕ
free_line free = codes "free" ++ flat_map (numbered (codes " ")) free ++ codes "\n"

unfoldable pub unused_line : ℕ → List ℕ
unused_line n = numbered (codes "unused ") n ++ codes "\n"

-- ---- lists

-- the name of what is held
abbrev pub holder_text : Program → Option Content → List ℕ
holder_text p (Some (content.Handle h)) = name_text p.names h.name
holder_text p (Some (content.Request r)) = name_text p.names r.name
holder_text p None = []

abbrev pub member_text : Program → State → Id → List ℕ
member_text p s id = codes " " ++ holder_text p (held s.arena.slots id)

-- a word and the names of these, front first
unfoldable pub list_line : Program → State → List ℕ → List Id → List ℕ
list_line p s word ids = word ++ flat_map (member_text p s) ids ++ codes "\n"

-- the word of a list
abbrev pub list_word : ListName → List ℕ
list_word name.Ready = codes "ready"
list_word name.Idle = codes "idle"
list_word name.IdleYet = codes "idle-yet"
list_word name.Prepare = codes "prepare"
list_word name.PrepareYet = codes "prepare-yet"
list_word name.Check = codes "check"
list_word name.CheckYet = codes "check-yet"
list_word name.Async = codes "async"
list_word name.AsyncYet = codes "async-yet"
list_word name.Closing = codes "closing"
list_word name.ClosingYet = codes "closing-yet"
list_word name.Waiting = codes "waiting"
list_word name.Done = codes "done"
list_word name.DoneYet = codes "done-yet"

-- the word of a list and the names of its members
abbrev pub members_line : Program → State → ListName → List ℕ
members_line p s l = list_line p s (list_word l) (members s l)

-- the handles whose section is before the poll
unfoldable pub before_poll : Program → State → List ℕ
before_poll p s =
    members_line p s name.Idle ++ members_line p s name.IdleYet ++ members_line p s name.Prepare ++ members_line p s name.PrepareYet

-- those whose section is behind it
unfoldable pub after_poll : Program → State → List ℕ
after_poll p s =
    members_line p s name.Check ++ members_line p s name.CheckYet ++ members_line p s name.Async ++ members_line p s name.AsyncYet

-- a worker and the request that it runs, `K:NAME`; nothing where it runs none
abbrev pub run_text : Program → State → ℕ → Option Id → List ℕ
run_text p s worker (Some id) = numbered (codes " ") worker ++ codes ":" ++ holder_text p (held s.arena.slots id)
run_text p s worker None = []

-- the first so many workers
abbrev pub runs_upto : Program → State → ℕ → List ℕ
runs_upto p s zero = []
runs_upto p s (suc worker) = runs_upto p s worker ++ run_text p s worker (run_by s worker)

unfoldable pub running_line : Program → State → List ℕ
running_line p s = codes "running" ++ runs_upto p s (length s.running) ++ codes "\n"

-- those that wait for a worker, those that one runs, and those that are done
unfoldable pub work_text : Program → State → List ℕ
work_text p s =
    members_line p s name.Waiting ++ running_line p s ++ members_line p s name.Done ++ members_line p s name.DoneYet

unfoldable pub lists_text : Program → State → List ℕ
lists_text p s =
    list_line p s (codes "timers") (timer_ids s)
    ++ members_line p s name.Ready
    ++ before_poll p s
    ++ after_poll p s
    ++ members_line p s name.Closing
    ++ members_line p s name.ClosingYet
    ++ work_text p s

-- ---- all of it

-- the state, after so many steps
abbrev pub text_after : Program → ℕ → State → List ℕ
text_after p n s =
    steps_line n (numbers s) ++ place_line p s.place ++ names_upto p s (length p.names) ++ slots_upto p s (length s.arena.slots)
    ++ free_line s.arena.free ++ unused_line s.arena.unused ++ lists_text p s

-- the state of a session: the one after its standing steps
abbrev pub state_text : Shown → List ℕ
state_text s = text_after s.program (length s.standing) (after s.program s.standing)

-- ---- what one name is bound to

-- the line of the slot with this id, where it still holds this
abbrev pub held_line : Program → State → Id → Option Content → List ℕ
held_line p s id (Some c) = slot_line p false (worker_of s id) id (Some c)
held_line p s id None = []

-- the line of the slot that holds what a name is bound to; none where that is gone, or the name was never bound
abbrev pub bound_line : Program → State → Option Id → List ℕ
bound_line p s (Some id) = held_line p s id (held s.arena.slots id)
bound_line p s None = []

-- the line of a name, and of its slot, as they stand in the text of the state
abbrev pub named_line : Program → Var → State → List ℕ
named_line p v s = name_line p v (named s v) ++ bound_line p s (named s v).id

-- of a session
abbrev pub named_text : Shown → Var → List ℕ
named_text s v = named_line s.program v (after s.program s.standing)

-- ---- the same in parts, as it is written: the numbers and the place, a line for each name, one for each slot, and what stands behind them

-- how many parts stand behind the lines of the slots
abbrev pub LAST_PARTS : ℕ
LAST_PARTS = 9

-- one of these
unfoldable pub last_part : Program → State → ℕ → List ℕ
last_part p s n =
    if n == 0 then free_line s.arena.free
    else if n == 1 then unused_line s.arena.unused
    else if n == 2 then list_line p s (codes "timers") (timer_ids s)
    else if n == 3 then members_line p s name.Ready
    else if n == 4 then before_poll p s
    else if n == 5 then after_poll p s
    else if n == 6 then members_line p s name.Closing
    else if n == 7 then members_line p s name.ClosingYet
    else work_text p s

abbrev pub name_part : Program → State → ℕ → List ℕ
name_part p s n = name_line p (record { 0 = n }) (named s (record { 0 = n }))

abbrev pub slot_part : Program → State → ℕ → List ℕ
slot_part p s n = slot_or_none p s n (slice_get s.arena.slots n)

unfoldable pub part_after : Program → ℕ → State → ℕ → List ℕ
part_after p k s n =
    if n == 0 then steps_line k (numbers s) ++ place_line p s.place
    else if nat_le n (length p.names) then name_part p s (n - 1)
    else if nat_le n (length p.names + length s.arena.slots) then slot_part p s (n - 1 - length p.names)
    else last_part p s (n - 1 - length p.names - length s.arena.slots)

abbrev pub part_count : Program → State → ℕ
part_count p s = 1 + length p.names + length s.arena.slots + LAST_PARTS

-- of a session
abbrev pub state_part : Shown → ℕ → List ℕ
state_part s n = part_after s.program (length s.standing) (after s.program s.standing) n

abbrev pub state_parts : Shown → ℕ
state_parts s = part_count s.program (after s.program s.standing)
