-- What is asked of a step.
use Rattle.std.specs.Prelude.{ℕ, zero, suc, ◌-◌, ◌==◌, ◌&&◌, not, Bool, true, false, nat_le, is_none, Option, Some, None, slice_get, if◌then◌else◌}
use Rattle.uv_ids.specs.declared.id.Var.{Var}
use Rattle.uv_ids.specs.declared.seen.Callback.{Callback}
use Rattle.uv_ids.specs.declared.seen.Callback.TheVariants as callback
use Rattle.uv_ids.specs.declared.seen.Seen.{Seen}
use Rattle.uv_ids.specs.declared.seen.Seen.TheVariants as seen
use Rattle.uv_records.specs.Names.{count_of}
use Rattle.uv_script.specs.declared.op.Op.{Op}
use Rattle.uv_script.specs.Program.{Program, op_at, op_name, is_for}
use Rattle.uv_model.specs.declared.place.Place as loop
use Rattle.uv_model.specs.declared.place.Place.TheVariants.{Main, Running}
use Rattle.uv_model.specs.State.{State, named}
use Rattle.uv_session.specs.Breaks.{answers_code, begins_section, begins_poll}
use Rattle.uv_asking.specs.declared.asking.Which.{Which}
use Rattle.uv_asking.specs.declared.asking.Which.TheVariants as which
use Rattle.uv_asking.specs.declared.asking.Question.{Question}
use Rattle.uv_asking.specs.declared.asking.Question.TheVariants as asks
use Rattle.uv_find.specs.Kept.{takes_time}
use Rattle.uv_find.specs.Orders.{Rules, Place, Led, led, is_blocked, move_count}

-- ---- what a line says, and the state after it

-- the callback that a line begins: which one, and of which name
abbrev pub begun : Seen → Option (Callback × Var)
begun (seen.Call v id) = Some (callback.Handle, v)
begun (seen.Io v id) = Some (callback.Handle, v)
begun (seen.After digest v id) = Some (callback.After, v)
begun (seen.Closed v id) = Some (callback.Close, v)
begun l = None

-- it is one of those that are meant
abbrev pub is_which : Which → Callback → Bool
is_which which.Any c = true
is_which which.Handle callback.Handle = true
is_which which.After callback.After = true
is_which which.Close callback.Close = true
is_which w c = false

-- it is such a one of this name, and with a number that one
abbrev pub is_call : Which → Var → Option ℕ → State → Option (Callback × Var) → Bool
is_call w name n s None = false
is_call w name n s (Some b) = is_which w b.0 && (b.1.0 == name.0) && is_for (count_of b.0 (named s name).calls) n

-- no callback of this name was called
abbrev pub is_uncalled : State → Var → Bool
is_uncalled s name =
    let calls = (named s name).calls in
    (calls.handle == 0) && (calls.after == 0) && (calls.close == 0)

-- the name that an op names, if there is one
abbrev pub name_in : Option Op → Option Var
name_in None = None
name_in (Some o) = op_name o

-- the name of which a line tells what was answered: to an op, a cancel or a send, or by its after callback
abbrev pub answered_name : Program → Seen → Option Var
answered_name p (seen.Op site answer) = name_in (op_at p site)
answered_name p (seen.After digest v id) = Some v
answered_name p (seen.Cancel v answer) = Some v
answered_name p (seen.Send v code) = Some v
answered_name p l = None

abbrev pub is_name : Var → Option Var → Bool
is_name name None = false
is_name name (Some v) = v.0 == name.0

-- of this name, or of any
abbrev pub is_of : Option Var → Option Var → Bool
is_of None v = true
is_of (Some name) v = is_name name v

-- the callback of this name's handle or request
abbrev pub is_awaited : Var → Option (Callback × Var) → Bool
is_awaited name None = false
is_awaited name (Some b) = takes_time b.0 && (b.1.0 == name.0)

-- the line begins that, so many ms after this time or later: that is when the timer was due, the request was queued, or the first send came that
-- the call answers
abbrev pub is_late : Var → ℕ → ℕ → State → Seen → Bool
is_late name ms due s l = is_awaited name (begun l) && nat_le ms (s.clock - due)

-- a line answers the question, in the state after it; the timer that is asked about was due then
abbrev pub answers_line : Program → Question → ℕ → State → Seen → Bool
answers_line p (asks.Call w name n) due s l = is_call w name n s (begun l)
answers_line p (asks.Code code name) due s l = answers_code code l && is_of name (answered_name p l)
answers_line p (asks.Section word) due s l = begins_section word l
answers_line p asks.Poll due s l = begins_poll l
answers_line p (asks.Never name) due s l = false
answers_line p asks.Stuck due s l = false
answers_line p (asks.Late name ms) due s l = is_late name ms due s l
answers_line p (asks.Before name other) due s l = is_call which.Any name None s (begun l) && is_uncalled s other
answers_line p (asks.Behind name other) due s l = is_call which.Any name None s (begun l) && not (is_uncalled s other)

abbrev pub line_answers : Program → Question → ℕ → State → Option Seen → Bool
line_answers p q due s None = false
line_answers p q due s (Some l) = answers_line p q due s l

-- ---- what a place says

-- the main program is at its end
abbrev pub has_ended : Program → loop.Place → Bool
has_ended p (Main line) = is_none (slice_get p.main line)
has_ended p (Running run) = false

-- none of the first offers leads on
abbrev pub none_leads : Rules → Place → ℕ → Bool
none_leads r p zero = true
none_leads r p (suc n) = none_leads r p n && is_none (led r p n)

abbrev pub place_answers : Rules → Place → Question → Bool
place_answers r p (asks.Never name) = has_ended r.program p.state.place && is_uncalled p.state name
place_answers r p asks.Stuck = is_blocked r.program p.state && none_leads r p (move_count r p)
place_answers r p _ = false

-- a step with this line that led here answers the question, where that was kept of a due time before it
abbrev pub step_answers : Rules → ℕ → Place → Option Seen → Bool
step_answers r due p line = if line_answers r.program r.question due p.state line then true else place_answers r p r.question

-- from this place, an event that led on answers the question
abbrev pub answers : Rules → Place → Led → Bool
answers r p l = step_answers r p.kept.due l.place l.line
