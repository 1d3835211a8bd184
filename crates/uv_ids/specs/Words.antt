-- The words that scripts, traces, states and answers share, a byte a character.
use Rattle.std.specs.Prelude.{◌≡◌, ℕ, List, Option, Some, None, if◌then◌else◌, codes}
use Rattle.std.specs.Str.{bytes_eq}
use Rattle.uv_ids.specs.declared.phase.Kind.{Kind}
use Rattle.uv_ids.specs.declared.phase.Kind.TheVariants as kind
use Rattle.uv_ids.specs.declared.phase.Mode.{Mode}
use Rattle.uv_ids.specs.declared.phase.Mode.TheVariants as mode
use Rattle.uv_ids.specs.declared.order.Order.{Order}
use Rattle.uv_ids.specs.declared.order.Order.TheVariants as order
use Rattle.uv_ids.specs.declared.phase.Phase.{Phase}
use Rattle.uv_ids.specs.declared.phase.Phase.TheVariants as phase
use Rattle.uv_ids.specs.declared.code.Code.{Code}
use Rattle.uv_ids.specs.declared.code.Code.TheVariants as code
use Rattle.uv_ids.specs.declared.fault.Why.{Why}
use Rattle.uv_ids.specs.declared.fault.Why.TheVariants as why

-- a kind of handle
abbrev pub kind_word : Kind → List ℕ
kind_word kind.Timer = codes "timer"
kind_word kind.Idle = codes "idle"
kind_word kind.Prepare = codes "prepare"
kind_word kind.Check = codes "check"
kind_word kind.Async = codes "async"
kind_word kind.Io = codes "io"

-- the word names no kind
abbrev pub IsNoKind : List ℕ → Type 0
IsNoKind word = (k : Kind) → word ≡ kind_word k → ⊥

-- a mode of a run
abbrev pub mode_word : Mode → List ℕ
mode_word mode.Default = codes "default"
mode_word mode.Once = codes "once"
mode_word mode.Nowait = codes "nowait"

-- the word names no mode
abbrev pub IsNoMode : List ℕ → Type 0
IsNoMode word = (mode : Mode) → word ≡ mode_word mode → ⊥

-- the order of a run's phases, by the version of libuv that has it
abbrev pub order_word : Order → List ℕ
order_word order.V144 = codes "1.44"
order_word order.V145 = codes "1.45"

-- the word names no order
abbrev pub IsNoOrder : List ℕ → Type 0
IsNoOrder word = (o : Order) → word ≡ order_word o → ⊥

-- a section of an iteration
abbrev pub phase_word : Phase → List ℕ
phase_word phase.Pending = codes "pending"
phase_word phase.Idle = codes "idle"
phase_word phase.Prepare = codes "prepare"
phase_word phase.Done = codes "done"
phase_word phase.Async = codes "async"
phase_word phase.Check = codes "check"
phase_word phase.Closing = codes "closing"
phase_word phase.Timers = codes "timers"

-- the section that a word names, if it names one
unfoldable pub phase_named : List ℕ → Option Phase
phase_named word =
    if bytes_eq word (codes "pending") then Some phase.Pending
    else if bytes_eq word (codes "idle") then Some phase.Idle
    else if bytes_eq word (codes "prepare") then Some phase.Prepare
    else if bytes_eq word (codes "done") then Some phase.Done
    else if bytes_eq word (codes "async") then Some phase.Async
    else if bytes_eq word (codes "check") then Some phase.Check
    else if bytes_eq word (codes "closing") then Some phase.Closing
    else if bytes_eq word (codes "timers") then Some phase.Timers
    else None

-- what an op answers
abbrev pub code_word : Code → List ℕ
code_word code.Ok = codes "ok"
code_word code.Einval = codes "EINVAL"
code_word code.Ebusy = codes "EBUSY"
code_word code.Ecanceled = codes "ECANCELED"
code_word code.Ebound = codes "EBOUND"
code_word code.Efull = codes "EFULL"
code_word code.Estale = codes "ESTALE"
code_word code.Ekind = codes "EKIND"

-- the code that a word names, if it names one
unfoldable pub code_named : List ℕ → Option Code
code_named word =
    if bytes_eq word (codes "ok") then Some code.Ok
    else if bytes_eq word (codes "EINVAL") then Some code.Einval
    else if bytes_eq word (codes "EBUSY") then Some code.Ebusy
    else if bytes_eq word (codes "ECANCELED") then Some code.Ecanceled
    else if bytes_eq word (codes "EBOUND") then Some code.Ebound
    else if bytes_eq word (codes "EFULL") then Some code.Efull
    else if bytes_eq word (codes "ESTALE") then Some code.Estale
    else if bytes_eq word (codes "EKIND") then Some code.Ekind
    else None

-- why a step was refused
abbrev pub why_word : Why → List ℕ
why_word why.Blocked = codes "blocked"
why_word why.Ended = codes "ended"
why_word why.NoWork = codes "nowork"
why_word why.BusyWorker = codes "busyworker"
why_word why.IdleWorker = codes "idleworker"
why_word why.NoWorker = codes "noworker"
why_word why.Range = codes "range"
