-- A list of events, one step after another.
use Rattle.std.specs.Prelude.{◌≡◌, ℕ, List, [], ◌∷◌, ◌++◌, ◌<◌, ◌≤◌, ◌-◌, length, take, Bool, true, false, Option, Some, None, Result, Ok, Err, option_to_list}
use Rattle.std.specs.List.{flat_map}
use Rattle.uv_ids.specs.Limits.{MOST_STEPS}
use Rattle.uv_ids.specs.declared.event.Event.{Event}
use Rattle.uv_ids.specs.declared.seen.Seen.{Seen}
use Rattle.uv_ids.specs.declared.fault.Fault.{Fault}
use Rattle.uv_ids.specs.declared.fault.Fault.TheVariants as fault
use Rattle.uv_ids.specs.declared.fault.Why.{Why}
use Rattle.uv_script.specs.Program.{Program}
use Rattle.uv_model.specs.declared.machine.Outcome.{Outcome}
use Rattle.uv_model.specs.State.{State, fresh}
use Rattle.uv_model.specs.Next.{Next, Moves, Refuses, next}

-- the state that a step leaves; a refused one changes nothing
abbrev pub state_of : State → Next → State
state_of s (Moves t seen) = t
state_of s (Refuses why) = s

-- the line that a step appends
abbrev pub seen_of : Next → Option Seen
seen_of (Moves t seen) = seen
seen_of (Refuses why) = None

-- the state after these events, from a state
abbrev pub goes_on : Program → State → List Event → State
goes_on p s [] = s
goes_on p s (e ∷ es) = goes_on p (state_of s (next p s e)) es

-- the state after these events, from the beginning
unfoldable pub after : Program → List Event → State
after p es = goes_on p (fresh p) es

-- what each of these events appends, from a state
abbrev pub seen_from : Program → State → List Event → List (Option Seen)
seen_from p s [] = []
seen_from p s (e ∷ es) = seen_of (next p s e) ∷ seen_from p (state_of s (next p s e)) es

-- what each of these events appends, from the beginning
unfoldable pub seen_by : Program → List Event → List (Option Seen)
seen_by p es = seen_from p (fresh p) es

-- the trace: the lines that these events append, in order
abbrev pub lines : Program → List Event → List Seen
lines p es = flat_map option_to_list (seen_by p es)

-- the step is taken
abbrev pub IsMove : Next → Type 0
IsMove (Moves t seen) = Unit {0}
IsMove (Refuses why) = ⊥

-- each of these events is accepted, from a state
abbrev pub AcceptsFrom : Program → State → List Event → Type 0
AcceptsFrom p s [] = Unit {0}
AcceptsFrom p s (e ∷ es) = IsMove (next p s e) × AcceptsFrom p (state_of s (next p s e)) es

-- each of these events is accepted, from the beginning
unfoldable pub Accepts : Program → List Event → Type 0
Accepts p es = AcceptsFrom p (fresh p) es

-- the most steps that a machine takes
abbrev pub STEPS : ℕ
STEPS = MOST_STEPS

-- why a step is refused, if it is
abbrev pub refusal_of : Next → Option Why
refusal_of (Moves t seen) = None
refusal_of (Refuses why) = Some why

-- what may be answered to an event after these steps, of which there may be so many, and the steps that stand then: an accepted
-- event is one more step and says what it appended, a refused one is none. A step that is to be refused is refused, whether there
-- is memory or not
abbrev pub Answers : ℕ → Program → List Event → Event → Result Outcome Fault → List Event → Type 0
Answers limit p es e (Ok outcome) fs = (length es < limit) × (fs ≡ es ++ e ∷ []) × (next p (after p es) e ≡ Moves (after p fs) outcome.seen)
Answers limit p es e (Err fault.Memory) fs = (length es < limit) × (fs ≡ es) × IsMove (next p (after p es) e)
Answers limit p es e (Err (fault.Refused why)) fs = (length es < limit) × (fs ≡ es) × (next p (after p es) e ≡ Refuses why)
Answers limit p es e (Err fault.StepsFull) fs = (limit ≤ length es) × (fs ≡ es)
Answers limit p es e (Err _) fs = ⊥

-- what may be answered to back, and the steps that stand then
abbrev pub GoesBack : List Event → Result Bool Fault → List Event → Type 0
GoesBack es (Ok true) fs = (0 < length es) × (fs ≡ take (length es - 1) es)
GoesBack es (Ok false) fs = (es ≡ []) × (fs ≡ es)
GoesBack es (Err fault.Memory) fs = (0 < length es) × (fs ≡ es)
GoesBack es (Err _) fs = ⊥
