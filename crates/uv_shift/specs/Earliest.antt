-- The earliest form of a state: all its times as early as they can be, and its numbers of starts as small. States that have it in common
-- differ in nothing else.
use Rattle.std.specs.Prelude.{ℕ, ◌-◌, List, [], ◌∷◌, Some, min}
use Rattle.uv_ids.specs.declared.id.Id.{Id}
use Rattle.uv_ids.specs.declared.due.Due.{Due}
use Rattle.uv_ids.specs.declared.seen.Seen.{Seen}
use Rattle.uv_script.specs.Program.{Program}
use Rattle.uv_model.specs.declared.place.Place.{Place}
use Rattle.uv_model.specs.declared.place.Place.TheVariants.{Main, Running}
use Rattle.uv_model.specs.declared.place.Stage.{Stage}
use Rattle.uv_model.specs.declared.place.Stage.TheVariants.{Poll}
use Rattle.uv_model.specs.State.{State}
use Rattle.uv_order.specs.Active.{AreTimers}
use Rattle.uv_shift.specs.Retimed.{Retiming, retimed, retimed_line}
use Rattle.uv_shift.specs.Shift.{By, TimesFit}

abbrev pub earlier : By → Retiming
earlier d = record { time = λ at. at - d.ms; start = λ n. n - d.starts }

abbrev pub back : By → State → State
back d s = retimed (earlier d) s

-- ---- the least of the times, and of the numbers of starts

-- when the first active timer is due, if that is earlier than this
abbrev pub or_first : List (Due × Id) → ℕ → ℕ
or_first [] at = at
or_first (t ∷ ts) at = min t.0.at at

-- when a poll is over, if that is earlier than this
abbrev pub or_deadline : Stage → ℕ → ℕ
or_deadline (Poll (Some deadline)) at = min deadline at
or_deadline stage at = at

abbrev pub or_over : Place → ℕ → ℕ
or_over (Main line) at = at
or_over (Running run) at = or_deadline run.stage at

-- the least start number of the active timers, and of this one
abbrev pub least_start : List (Due × Id) → ℕ → ℕ
least_start [] start = start
least_start (t ∷ ts) start = min t.0.start (least_start ts start)

-- by how much a state is later than its earliest form
abbrev pub base : State → By
base s = record {
  ms = or_over s.place (or_first s.timers (min s.time s.clock));
  starts = least_start s.timers s.next_start;
}

abbrev pub earliest : State → State
earliest s = back (base s) s

-- ---- what holds of each state that steps lead to, where the script's numbers are small

-- the order of timers is that of the active timers, and no due time that the next step sets is cut at the largest number
pub record IsTimed (p : Program) (s : State) : Type 0 where
  pub timers : AreTimers s s.timers
  pub fits : TimesFit p s

-- ---- steps that are the same except for the times

abbrev pub untimed : Retiming
untimed = record { time = λ at. 0; start = λ n. 0 }

-- a line without the time that the op `now` answers
abbrev pub untimed_line : Program → Seen → Seen
untimed_line p line = retimed_line p untimed line
