-- When timers are due, by the lines of a trace: which line starts a timer, and with which timeout. It is due so long behind the loop's time at
-- which that line came, which the documented order carries from line to line (uv_timer_start, uv_timer_again). What a handle says of it isn't
-- asked.
use Rattle.std.specs.Prelude.{◌≡◌, ℕ, ◌+◌, ◌-◌, ◌^◌, ◌==◌, List, [], ◌∷◌, Option, Some, None, option_and_then, min, if◌then◌else◌}
use Rattle.uv_ids.specs.declared.id.Id.{Id}
use Rattle.uv_ids.specs.declared.due.Due.{Due}
use Rattle.uv_ids.specs.declared.seen.Seen.{Seen}
use Rattle.uv_ids.specs.declared.seen.Seen.TheVariants as seen
use Rattle.uv_script.specs.declared.op.Op.{Op}
use Rattle.uv_script.specs.declared.op.Op.TheVariants as op
use Rattle.uv_script.specs.Program.{Program}
use Rattle.uv_model.specs.Ids.{same_id}
use Rattle.uv_model.specs.State.{State}
use Rattle.uv_order.specs.Line.{Line}
use Rattle.uv_order.specs.Active.{IsTimer}
use Rattle.uv_order.specs.Once.{Activity, Answered, activity, answered, bound, handle_of, is_success}

-- ---- which lines start a timer

-- a timer is started with this timeout
pub record Starting : Type 0 where
  pub id : Id
  pub timeout : ℕ

-- one that repeats is started anew, with its repeat
abbrev pub starts_anew : Activity → Id → Option Starting
starts_anew x id = if x.repeat == 0 then None else Some (record { id = id; timeout = x.repeat })

-- by an op that is accepted
abbrev pub starts_by : Op → Activity → Id → Option Starting
starts_by (op.Start v timeout repeat) x id = Some (record { id = id; timeout = timeout })
starts_by (op.Again v) x id = starts_anew x id
starts_by o x id = None

abbrev pub starts_op : Program → List Seen → Op → Option Id → Option Starting
starts_op p past o None = None
starts_op p past o (Some id) = starts_by o (activity p past id) id

abbrev pub starts_answered : Program → List Seen → Option Answered → Option Starting
starts_answered p past None = None
starts_answered p past (Some d) = if is_success d.answer then starts_op p past d.op (option_and_then (bound p past) (handle_of d.op)) else None

-- by a call
abbrev pub starts_called : Activity → Id → Option Starting
starts_called x id = if x.timer then starts_anew x id else None

-- by a line, behind these, the last one first
abbrev pub starting : Program → List Seen → Seen → Option Starting
starting p past (seen.Call v id) = starts_called (activity p past id) id
starting p past l = starts_answered p past (answered p l)

-- how many lines start a timer
abbrev pub one_more : Option Starting → ℕ → ℕ
one_more None n = n
one_more (Some x) n = n + 1

abbrev pub starts : Program → List Seen → ℕ
starts p [] = 0
starts p (l ∷ past) = one_more (starting p past l) (starts p past)

-- ---- when they are due

-- the lines alone
abbrev pub seens : List Line → List Seen
seens [] = []
seens (l ∷ past) = l.seen ∷ seens past

-- so long behind a time, and no later than the largest one
abbrev pub behind : ℕ → ℕ → ℕ
behind time timeout = min (time + timeout) (2 ^ 64 - 1)

-- a start at this time, the one of this number, says when its timer is due
abbrev pub due_by : Option Starting → ℕ → ℕ → Id → Due → Due
due_by None time number id before = before
due_by (Some x) time number id before = if same_id x.id id then record { at = behind time x.timeout; start = number } else before

-- when a timer is due, as its last start says, with the number of that start
abbrev pub due_told : Program → List Line → Id → Due
due_told p [] id = record { at = 0; start = 0 }
due_told p (l ∷ past) id = due_by (starting p (seens past) l.seen) l.before.time (starts p (seens past)) id (due_told p past id)

-- these lines behind those, the last one first
abbrev pub lines_onto : List Line → List Line → List Line
lines_onto past [] = past
lines_onto past (l ∷ ls) = lines_onto (l ∷ past) ls

-- each active timer is due as the lines tell, and so in the order in which they started: by this the documented order calls timers
abbrev pub AreDueTold : Program → List Line → State → Type 0
AreDueTold p ls s = (due : Due) (id : Id) → IsTimer s due id → due ≡ due_told p (lines_onto [] ls) id
