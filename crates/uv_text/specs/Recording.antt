-- The text of a recording: a script, the steps that stand, and the callbacks that they called.
use Rattle.std.specs.Prelude.{ℕ, ◌+◌, ◌-◌, ◌*◌, ◌==◌, ◌||◌, nat_le, List, [], ◌∷◌, ◌++◌, length, map, Bool, true, false, Option, Some, None, slice_get, if◌then◌else◌, codes, decimal}
use Rattle.std.specs.List.{filter}
use Rattle.uv_ids.specs.declared.event.Event.{Event}
use Rattle.uv_ids.specs.declared.event.Event.TheVariants.{Loop, Take, Finish, Cancel, Send, Io, Tick}
use Rattle.uv_ids.specs.declared.seen.Seen.{Seen}
use Rattle.uv_ids.specs.declared.seen.Seen.TheVariants as seen
use Rattle.uv_script.specs.Program.{Program, has_io, from_heap}
use Rattle.uv_script.specs.Text.{name_text, script_lines, lines_text, script_text}
use Rattle.uv_model.specs.After.{lines, seen_by}
use Rattle.uv_text.specs.Trace.{line_text, seen_text}

-- a step, as a recording has it
abbrev pub step_line : List (List ℕ) → Event → List ℕ
step_line names Loop = codes "loop"
step_line names (Take worker) = codes "take " ++ decimal worker
step_line names (Finish worker) = codes "finish " ++ decimal worker
step_line names (Cancel v) = codes "cancel " ++ name_text names v
step_line names (Send v) = codes "send " ++ name_text names v
step_line names (Io v) = codes "io " ++ name_text names v
step_line names (Tick ms) = codes "tick " ++ decimal ms

-- a callback begins with this line
abbrev pub is_callback : Seen → Bool
is_callback (seen.Call v id) = true
is_callback (seen.Io v id) = true
is_callback (seen.After digest v id) = true
is_callback (seen.Closed v id) = true
is_callback l = false

-- the callbacks of the steps, in the order in which they were called
abbrev pub callbacks : Program → List Event → List Seen
callbacks p es = filter is_callback (lines p es)

-- their lines
abbrev pub callback_lines : Program → List Event → List (List ℕ)
callback_lines p es = map (line_text p) (callbacks p es)

-- the first line: the version is 3 where the script says that it may have handles of I/O, or that timers are called from their heap, else 2
abbrev pub first_line : Program → List ℕ
first_line p = if has_io p || from_heap p then codes "uvt 3" else codes "uvt 2"

-- the lines of a recording
abbrev pub recording_lines : Program → List Event → List (List ℕ)
recording_lines p es =
    first_line p ∷ script_lines p ++ codes "begin" ∷ map (step_line p.names) es
    ++ codes "calls" ∷ callback_lines p es ++ codes "end" ∷ []

-- the text of a recording
unfoldable pub recording_text : Program → List Event → List ℕ
recording_text p es = lines_text (recording_lines p es)

-- ---- the same in parts, as it is written: the script, a line for each step, the line `calls`, the line of each step that called a callback,
-- and the line `end`

-- the first line, the script and the line `begin`
unfoldable pub script_part : Program → List ℕ
script_part p = first_line p ++ codes "\n" ++ script_text p ++ codes "begin\n"

abbrev pub step_part : List (List ℕ) → Option Event → List ℕ
step_part names (Some e) = step_line names e ++ codes "\n"
step_part names None = []

-- the line of a callback, if the step called one
abbrev pub called_text : Program → Option Seen → List ℕ
called_text p None = []
called_text p (Some l) = if is_callback l then seen_text p l else []

abbrev pub called_part : Program → Option (Option Seen) → List ℕ
called_part p (Some l) = called_text p l
called_part p None = []

unfoldable pub recording_part : Program → List Event → ℕ → List ℕ
recording_part p es n =
    if n == 0 then script_part p
    else if nat_le n (length es) then step_part p.names (slice_get es (n - 1))
    else if n == length es + 1 then codes "calls\n"
    else if nat_le n (2 * length es + 1) then called_part p (slice_get (seen_by p es) (n - 2 - length es))
    else codes "end\n"

abbrev pub recording_parts : List Event → ℕ
recording_parts es = 2 * length es + 3
