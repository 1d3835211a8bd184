-- A state that counts no further than to a number: how often the callbacks of each name were called, and which call the body under way
-- belongs to. Whatever else a state has stays.
use Rattle.std.specs.Prelude.{◌≡◌, ℕ, ◌+◌, ◌<◌, min, max, map, List, [], ◌∷◌, Option, Some, None, option_map, slice_get}
use Rattle.uv_ids.specs.declared.id.Var.{Var}
use Rattle.uv_ids.specs.declared.seen.Callback.{Callback}
use Rattle.uv_records.specs.declared.named.Calls.{Calls}
use Rattle.uv_records.specs.declared.named.Named.{Named}
use Rattle.uv_script.specs.declared.op.CallbackLine.{CallbackLine}
use Rattle.uv_script.specs.Program.{Program, Callbacks, lines_in}
use Rattle.uv_model.specs.declared.place.Body.{Body}
use Rattle.uv_model.specs.declared.place.Run.{Run}
use Rattle.uv_model.specs.declared.place.Place.{Place}
use Rattle.uv_model.specs.declared.place.Place.TheVariants.{Main, Running}
use Rattle.uv_model.specs.State.{State}

-- how often each callback was called, or n where it was called more often
abbrev pub capped_calls : ℕ → Calls → Calls
capped_calls n c = record { handle = min c.handle n; after = min c.after n; close = min c.close n }

abbrev pub capped_name : ℕ → Named → Named
capped_name n x = record x { calls = capped_calls n x.calls }

-- which call a body belongs to, or n where that is a later one
abbrev pub capped_body : ℕ → Body → Body
capped_body n body = record body { call = min body.call n }

abbrev pub capped_run : ℕ → Run → Run
capped_run n run = record run { body = option_map (capped_body n) run.body }

abbrev pub capped_place : ℕ → Place → Place
capped_place n (Main line) = Main line
capped_place n (Running run) = Running (capped_run n run)

abbrev pub capped : ℕ → State → State
capped n s = record s { place = capped_place n s.place; names = map (capped_name n) s.names }

-- ---- scripts that tell no call from later ones

-- a line is for every call, or for one before the n-th
abbrev pub IsBefore : ℕ → Option ℕ → Type 0
IsBefore n None = Unit {0}
IsBefore n (Some call) = call < n

-- so is each line of a script's callbacks
abbrev pub AreBefore : ℕ → Program → Type 0
AreBefore n p = (kind : Callback) (v : Var) (i : ℕ) (line : CallbackLine) → slice_get (lines_in p kind v) i ≡ Some line → IsBefore n line.call

-- behind the number of the call that a line is for
abbrev pub call_end : Option ℕ → ℕ
call_end None = 0
call_end (Some call) = call + 1

-- behind that of each of these lines
abbrev pub lines_end : List CallbackLine → ℕ
lines_end [] = 0
lines_end (line ∷ lines) = max (call_end line.call) (lines_end lines)

abbrev pub callbacks_end : Callbacks → ℕ
callbacks_end c = max (lines_end c.handle) (max (lines_end c.after) (lines_end c.close))

abbrev pub all_end : List Callbacks → ℕ
all_end [] = 0
all_end (c ∷ cs) = max (callbacks_end c) (all_end cs)

-- the least number that each line for one call of a script is before
abbrev pub script_end : Program → ℕ
script_end p = all_end p.callbacks
