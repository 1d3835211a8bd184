-- What a search keeps beside the loop's state: of the steps that led there.
use Rattle.std.specs.Prelude.{ℕ, ◌+◌, ◌-◌, ◌==◌, ◌&&◌, Bool, true, false, is_none, nat_eq, nat_lt, unwrap_or, drop, length, List, [], ◌∷◌, Option, Some, None, if◌then◌else◌}
use Rattle.std.specs.Option.{option_eq}
use Rattle.uv_ids.specs.declared.event.Event.{Event}
use Rattle.uv_ids.specs.declared.event.Event.TheVariants as event
use Rattle.uv_ids.specs.declared.id.Id.{Id}
use Rattle.uv_ids.specs.declared.id.Var.{Var}
use Rattle.uv_ids.specs.declared.seen.Callback.{Callback}
use Rattle.uv_ids.specs.declared.seen.Callback.TheVariants as callback
use Rattle.uv_ids.specs.declared.seen.Seen.{Seen}
use Rattle.uv_ids.specs.declared.seen.Seen.TheVariants as seen
use Rattle.uv_ids.specs.declared.seen.Site.TheVariants as site
use Rattle.uv_records.specs.Handles.{is_timer}
use Rattle.uv_records.specs.Names.{count_of}
use Rattle.uv_records.specs.Slots.{held}
use Rattle.uv_work.specs.declared.content.Content.{Content}
use Rattle.uv_work.specs.declared.content.Content.TheVariants as content
use Rattle.uv_model.specs.declared.place.Place as loop
use Rattle.uv_model.specs.declared.place.Place.TheVariants.{Main, Running}
use Rattle.uv_model.specs.declared.place.Stage.{Stage}
use Rattle.uv_model.specs.declared.place.Stage.TheVariants.{Timers}
use Rattle.uv_model.specs.State.{State, named}
use Rattle.uv_asking.specs.declared.asking.Question.{Question}
use Rattle.uv_asking.specs.declared.asking.Question.TheVariants as asks
use Rattle.uv_asking.specs.declared.asking.Recorded.{Recorded}
use Rattle.uv_asking.specs.declared.asking.Takes.{Takes}
use Rattle.uv_find.specs.declared.kept.Along.{Along}
use Rattle.uv_find.specs.declared.kept.Kept.{Kept}

-- ---- when the timer that is asked about is due, or since when the request or the async handle waits

-- the loop is in a section of timers, also while one of their callbacks is under way
abbrev pub is_timers_stage : Stage → Bool
is_timers_stage (Timers part step) = true
is_timers_stage _ = false

abbrev pub is_in_timers : loop.Place → Bool
is_in_timers (Main line) = false
is_in_timers (Running run) = is_timers_stage run.stage

-- when a timer is due that isn't active. A section of timers calls those that it collected, and it ends only when each of them was called or
-- stopped: so in it what was kept stays, of when the timer was active last. Elsewhere the next step can call none that isn't active, nor can
-- any later one before the timer is started again, and then what is kept is its new due time. So what stands here then answers nothing: it is
-- the clock, which the state has already, and from which a due time that is over would be further away after each step of the clock
abbrev pub due_else : State → ℕ → ℕ
due_else s due = if is_in_timers s.place then due else s.clock

-- of a handle: when an active timer is due, and else this other time; while a send is pending, what was kept, which is the clock of the send, and
-- else the clock
abbrev pub due_of : Bool → Bool → Bool → ℕ → ℕ → ℕ → ℕ → ℕ
due_of timer active pending at due other clock = if timer then (if active then at else other) else (if pending then due else clock)

-- while there is a request, what was kept: the clock as it was queued. Where there is nothing, the clock
abbrev pub due_in : Option Content → ℕ → ℕ → ℕ → ℕ
due_in (Some (content.Handle h)) due other clock = due_of (is_timer h.kind) h.active h.pending h.due.at due other clock
due_in (Some (content.Request q)) due other clock = due
due_in None due other clock = clock

abbrev pub due_under : State → Option Id → ℕ → ℕ
due_under s None due = s.clock
due_under s (Some id) due = due_in (held s.arena.slots id) due (due_else s due) s.clock

abbrev pub kept_due : Question → State → ℕ → ℕ
kept_due (asks.Late name ms) s due = due_under s (named s name).id due
kept_due _ s due = due

-- ---- how long callbacks take

-- the callback in which a line was appended: the one that it begins, or whose op it tells
abbrev pub caller : Seen → Option (Callback × Var)
caller (seen.Call v id) = Some (callback.Handle, v)
caller (seen.Io v id) = Some (callback.Handle, v)
caller (seen.After digest v id) = Some (callback.After, v)
caller (seen.Closed v id) = Some (callback.Close, v)
caller (seen.Op (site.In which v line) answer) = Some (which, v)
caller l = None

-- no callback is under way
abbrev pub is_over : loop.Place → Bool
is_over (Main line) = true
is_over (Running run) = is_none run.body

-- a time is said of these calls of the name: of one, or of each
abbrev pub is_of_calls : Var → Option ℕ → Takes → Bool
is_of_calls v call t = (t.name.0 == v.0) && option_eq nat_eq t.call call

abbrev pub said_time : List Takes → Var → Option ℕ → Option ℕ
said_time [] v call = None
said_time (t ∷ ts) v call = if is_of_calls v call t then Some t.ms else said_time ts v call

abbrev pub or_time : Option ℕ → Option ℕ → ℕ
or_time (Some ms) each = ms
or_time None each = unwrap_or each 0

-- how long this call takes: as is said of it alone, or of each, or no time
abbrev pub time_taken : List Takes → Var → ℕ → ℕ
time_taken takes v call = or_time (said_time takes v (Some call)) (said_time takes v None)

-- the callback of a handle takes time, and that of a request; that of a close takes none
abbrev pub takes_time : Callback → Bool
takes_time callback.Handle = true
takes_time callback.After = true
takes_time callback.Close = false

-- the time of a callback goes by at its end, in this state
abbrev pub time_at_end : List Takes → State → Callback × Var → ℕ
time_at_end takes s b = if takes_time b.0 && is_over s.place then time_taken takes b.1 (count_of b.0 (named s b.1).calls) else 0

abbrev pub owed_in : List Takes → ℕ → State → Option (Callback × Var) → ℕ
owed_in takes owed s None = owed
owed_in takes owed s (Some b) = time_at_end takes s b

-- the ms that the callback still takes which has ended, after a step with this line that led to this state: none once the clock has gone on
abbrev pub owed_by : List Takes → ℕ → State → Seen → ℕ
owed_by takes owed s (seen.Tick ms) = 0
owed_by takes owed s l = owed_in takes owed s (caller l)

abbrev pub owed_after : List Takes → ℕ → State → Option Seen → ℕ
owed_after takes owed s None = owed
owed_after takes owed s (Some l) = owed_by takes owed s l

-- ---- how far an order is along the recording

-- behind the place of a recorded event, where these are behind it, the first of them of this number: the place of one that is no poll and no
-- step away is here, too
abbrev pub onward : List Recorded → ℕ → ℕ → Along
onward [] next spare = record { next = next; polls = 0; steps = 0; spare = spare }
onward (e ∷ es) next spare =
    if e.polls == 0 && e.steps == 0 then onward es (next + 1) spare else record { next = next; polls = e.polls; steps = e.steps; spare = spare }

-- behind the place of the recorded event of this number
abbrev pub behind : List Recorded → ℕ → ℕ → Along
behind recorded number spare = onward (drop (number + 1) recorded) (number + 1) spare

abbrev pub is_poll : Option Seen → Bool
is_poll (Some (seen.Poll timeout)) = true
is_poll _ = false

-- a step of the loop is one of those to the next event's place: first the polls, and then the steps behind the last of them. A poll more is
-- beyond that place
abbrev pub nearer : Along → Bool → Along
nearer a true = record a { polls = a.polls - 1; steps = if a.polls == 0 then 0 else a.steps }
nearer a false = record a { steps = if a.polls == 0 then a.steps - 1 else a.steps }

abbrev pub arrived : List Recorded → Along → Along
arrived recorded a = if nat_lt a.next (length recorded) && (a.polls == 0 && a.steps == 0) then behind recorded a.next a.spare else a

-- behind an event with this line
abbrev pub along_after : List Recorded → Along → Event → Option Seen → Along
along_after recorded a event.Loop line = arrived recorded (nearer a (is_poll line))
along_after recorded a e line = a

-- so many recorded events may still come at another place
abbrev pub with_spare : Kept → ℕ → Kept
with_spare k spare = record k { along = record k.along { spare = spare } }

-- where the loop has waited: that is one of those steps
abbrev pub waited : List Recorded → Kept → Kept
waited recorded k = record k { along = arrived recorded (nearer k.along false) }

-- ---- the whole

-- where a search begins
abbrev pub none_kept : List Recorded → Option ℕ → Kept
none_kept recorded differ = record { due = 0; owed = 0; along = onward recorded 0 (unwrap_or differ 0) }

-- what is kept after an event with this line that led to this state
abbrev pub kept_after : List Recorded → List Takes → Question → Kept → Event → State → Option Seen → Kept
kept_after recorded takes question k e s line = record {
  due = kept_due question s k.due;
  owed = owed_after takes k.owed s line;
  along = along_after recorded k.along e line;
}

-- a callback's time is still to go by
abbrev pub owes : Kept → Bool
owes k = nat_lt 0 k.owed
