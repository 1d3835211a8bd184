-- The text of a trace line.
use Rattle.std.specs.Prelude.{ℕ, suc, List, [], ◌++◌, true, false, Option, Some, None, slice_get, codes, decimal}
use Rattle.hex.specs.Hex.{encode_lower}
use Rattle.uv_ids.specs.Words.{mode_word, phase_word, code_word}
use Rattle.uv_ids.specs.declared.id.Id.{Id}
use Rattle.uv_ids.specs.declared.id.Var.{Var}
use Rattle.uv_ids.specs.declared.code.Code.TheVariants as code
use Rattle.uv_ids.specs.declared.code.Answer.{Answer}
use Rattle.uv_ids.specs.declared.code.Answer.TheVariants as answer
use Rattle.uv_ids.specs.declared.seen.Site.{Site}
use Rattle.uv_ids.specs.declared.seen.Seen.{Seen}
use Rattle.uv_ids.specs.declared.seen.Seen.TheVariants as seen
use Rattle.uv_ids.specs.declared.event.Event.{Event}
use Rattle.uv_script.specs.declared.op.Op.{Op}
use Rattle.uv_script.specs.Program.{Program, op_at}
use Rattle.uv_script.specs.Text.{op_text, name_text}
use Rattle.uv_model.specs.After.{seen_by}

-- an id: `SLOT.GENERATION`
abbrev pub id_text : Id → List ℕ
id_text id = decimal id.slot ++ codes "." ++ decimal id.generation

-- a poll timeout in ms
abbrev pub timeout_text : Option ℕ → List ℕ
timeout_text (Some ms) = decimal ms
timeout_text None = codes "infinite"

-- what an op answered
abbrev pub answer_text : Answer → List ℕ
answer_text (answer.Code code) = code_word code
answer_text (answer.Id id) = id_text id
answer_text (answer.Cancelled id) = code_word code.Ok
answer_text (answer.Number number) = decimal number
answer_text (answer.Flag true) = codes "1"
answer_text (answer.Flag false) = codes "0"
answer_text (answer.Timeout timeout) = timeout_text timeout

-- an op, as the script has it
abbrev pub op_or_none : Program → Option Op → List ℕ
op_or_none p (Some op) = op_text p.names op
op_or_none p None = []

-- the op at a place of the script
abbrev pub site_text : Program → Site → List ℕ
site_text p site = op_or_none p (op_at p site)

-- a handle or a request, as its lines name it: `NAME ID`
abbrev pub handle_text : Program → Var → Id → List ℕ
handle_text p v id = name_text p.names v ++ codes " " ++ id_text id

-- how a request ended: its digest, each byte as two lower case hexadecimal digits, or that it was cancelled
abbrev pub end_text : Option (List ℕ) → List ℕ
end_text (Some digest) = code_word code.Ok ++ codes " " ++ encode_lower digest
end_text None = code_word code.Ecanceled

-- what a worker did with a request: `K NAME ID`
abbrev pub worker_text : Program → ℕ → Var → Id → List ℕ
worker_text p worker v id = decimal worker ++ codes " " ++ handle_text p v id

-- what a step from outside answered of a name: `NAME = ANSWER`
abbrev pub outside_text : Program → Var → Answer → List ℕ
outside_text p v answer = name_text p.names v ++ codes " = " ++ answer_text answer

abbrev pub line_text : Program → Seen → List ℕ
line_text p (seen.Op site answer) = site_text p site ++ codes " = " ++ answer_text answer
line_text p (seen.Run mode) = codes "run " ++ mode_word mode
line_text p (seen.Section phase) = phase_word phase
line_text p (seen.Poll timeout) = codes "poll " ++ timeout_text timeout
line_text p (seen.Call v id) = codes "call " ++ handle_text p v id
line_text p (seen.Io v id) = codes "call " ++ handle_text p v id
line_text p (seen.After digest v id) = codes "after " ++ handle_text p v id ++ codes " " ++ end_text digest
line_text p (seen.Closed v id) = codes "closed " ++ handle_text p v id
line_text p (seen.End true) = codes "end 1"
line_text p (seen.End false) = codes "end 0"
line_text p (seen.Take worker v id) = codes "out take " ++ worker_text p worker v id
line_text p (seen.Finish worker v id) = codes "out finish " ++ worker_text p worker v id
line_text p (seen.Cancel v answer) = codes "out cancel " ++ outside_text p v answer
line_text p (seen.Send v code) = codes "out send " ++ outside_text p v (answer.Code code)
line_text p (seen.Tick ms) = codes "out tick " ++ decimal ms

-- a line with its line feed
abbrev pub seen_text : Program → Seen → List ℕ
seen_text p seen = line_text p seen ++ codes "\n"

-- the line that a step appended, if it appended one
abbrev pub appended_text : Program → Option Seen → List ℕ
appended_text p None = []
appended_text p (Some seen) = seen_text p seen

-- ---- a trace in parts, as it is written: what each standing step appended

abbrev pub appended_part : Program → Option (Option Seen) → List ℕ
appended_part p (Some seen) = appended_text p seen
appended_part p None = []

unfoldable pub trace_part : Program → List Event → ℕ → List ℕ
trace_part p es n = appended_part p (slice_get (seen_by p es) n)

-- ---- the same with the number of its step in front of each line

abbrev pub numbered_part : Program → ℕ → Option (Option Seen) → List ℕ
numbered_part p step (Some (Some seen)) = decimal step ++ codes " " ++ seen_text p seen
numbered_part p step _ = []

unfoldable pub walk_part : Program → List Event → ℕ → List ℕ
walk_part p es n = numbered_part p (suc n) (slice_get (seen_by p es) n)
