-- Breaks: where a run is to stop. A step matches a break by the line that it appended.
use Rattle.std.specs.Prelude.{◌==◌, Bool, true, false, List, Option, Some, None, Result, Ok, Err}
use Rattle.std.specs.List.{list_any}
use Rattle.uv_ids.specs.declared.id.Var.{Var}
use Rattle.uv_ids.specs.declared.code.Code.{Code}
use Rattle.uv_ids.specs.declared.code.Code.TheVariants as code
use Rattle.uv_ids.specs.declared.code.Answer.{Answer}
use Rattle.uv_ids.specs.declared.code.Answer.TheVariants as answer
use Rattle.uv_ids.specs.declared.fault.Fault.{Fault}
use Rattle.uv_ids.specs.declared.fault.Fault.TheVariants as fault
use Rattle.uv_ids.specs.declared.phase.Phase.{Phase}
use Rattle.uv_ids.specs.declared.phase.Phase.TheVariants as phase
use Rattle.uv_ids.specs.declared.seen.Seen.{Seen}
use Rattle.uv_ids.specs.declared.seen.Seen.TheVariants as seen
use Rattle.uv_session.specs.declared.breaks.Break.{Break}
use Rattle.uv_session.specs.declared.breaks.Break.TheVariants as at
use Rattle.uv_session.specs.declared.breaks.Stop.{Stop}
use Rattle.uv_session.specs.declared.breaks.Stop.TheVariants as stop

abbrev pub same_code : Code → Code → Bool
same_code code.Ok code.Ok = true
same_code code.Einval code.Einval = true
same_code code.Ebusy code.Ebusy = true
same_code code.Ecanceled code.Ecanceled = true
same_code code.Ebound code.Ebound = true
same_code code.Efull code.Efull = true
same_code code.Estale code.Estale = true
same_code code.Ekind code.Ekind = true
same_code a b = false

abbrev pub same_phase : Phase → Phase → Bool
same_phase phase.Pending phase.Pending = true
same_phase phase.Idle phase.Idle = true
same_phase phase.Prepare phase.Prepare = true
same_phase phase.Done phase.Done = true
same_phase phase.Async phase.Async = true
same_phase phase.Check phase.Check = true
same_phase phase.Closing phase.Closing = true
same_phase phase.Timers phase.Timers = true
same_phase a b = false

-- the line begins a callback of this name
abbrev pub calls_name : Var → Seen → Bool
calls_name v (seen.Call u id) = u.0 == v.0
calls_name v (seen.Io u id) = u.0 == v.0
calls_name v (seen.After digest u id) = u.0 == v.0
calls_name v (seen.Closed u id) = u.0 == v.0
calls_name v l = false

-- the answer is printed as this code; a cancel that succeeds is printed as `ok`
abbrev pub is_code : Code → Answer → Bool
is_code c (answer.Code d) = same_code d c
is_code c (answer.Cancelled id) = same_code code.Ok c
is_code c a = false

-- the line answers this code: to an op, to a step from outside, or to the after callback of a request
abbrev pub answers_code : Code → Seen → Bool
answers_code c (seen.Op place a) = is_code c a
answers_code c (seen.After (Some digest) v id) = same_code code.Ok c
answers_code c (seen.After None v id) = same_code code.Ecanceled c
answers_code c (seen.Cancel v a) = is_code c a
answers_code c (seen.Send v d) = same_code d c
answers_code c l = false

-- the line begins this section
abbrev pub begins_section : Phase → Seen → Bool
begins_section word (seen.Section x) = same_phase x word
begins_section word l = false

-- the line begins the poll
abbrev pub begins_poll : Seen → Bool
begins_poll (seen.Poll timeout) = true
begins_poll l = false

-- a line matches a break
abbrev pub matches : Break → Seen → Bool
matches (at.Call v) l = calls_name v l
matches (at.Code c) l = answers_code c l
matches (at.Section word) l = begins_section word l
matches at.Poll l = begins_poll l

-- a step matches one of these
abbrev pub stops : List Break → Option Seen → Bool
stops breaks None = false
stops breaks (Some l) = list_any (λ (b : Break). matches b l) breaks

-- how a run ends whose next step isn't taken: a refusal is an answer of the run, anything else its fault
abbrev pub stop_of : Fault → Result Stop Fault
stop_of (fault.Refused why) = Ok (stop.Refused why)
stop_of f = Err f
