-- The bytes that name what is told of a state: each part after the other, by a code that tells where it ends. Names stand by their numbers.
-- The digest of a finished request is that of its task.
use Rattle.std.specs.Prelude.{ℕ, ◌+◌, ◌*◌, ◌&&◌, List, ◌++◌, Bool, Option, Some, None, nat_lt, if◌then◌else◌}
use Rattle.uv_ids.specs.declared.id.Id.{Id}
use Rattle.uv_records.specs.declared.handle.HandleRecord.{HandleRecord}
use Rattle.uv_records.specs.declared.named.Calls.{Calls}
use Rattle.uv_records.specs.Walks.{Walk}
use Rattle.uv_work.specs.declared.content.Content.TheVariants as content
use Rattle.uv_work.specs.declared.request.Request.{Request}
use Rattle.uv_work.specs.Tasks.{text_of}
use Rattle.uv_model.specs.State.{State}
use Rattle.uv_tale.specs.Tale.{Bound, Nothing, Gone, Holds, Told, Tale, tale}
use Rattle.uv_key.specs.Codes.{number_code, byte_code, bytes_code, list_code, option_code}
use Rattle.uv_state_key.specs.Key.{kind_number, flags_of, outcome_number, calls_code, place_code, numbers_code, state_code}

-- ---- names

-- the byte of a handle, from 2 to 193, with its kind and its flags
abbrev pub handle_number : HandleRecord → ℕ
handle_number h = 2 + flags_of h + 32 * kind_number h.kind

-- that of a request, from 194 to 196
abbrev pub request_number : Request → ℕ
request_number r = 194 + outcome_number r.outcome

unfoldable pub told_handle_code : HandleRecord → List ℕ
told_handle_code h =
    byte_code (handle_number h) ++ number_code h.due.at ++ number_code h.due.start ++ number_code h.repeat ++ number_code h.name.0

unfoldable pub told_request_code : Request → List ℕ
told_request_code r = byte_code (request_number r) ++ number_code r.name.0 ++ number_code r.task.rounds ++ bytes_code (text_of r.task)

abbrev pub bound_code : Bound → List ℕ
bound_code Nothing = byte_code 0
bound_code Gone = byte_code 1
bound_code (Holds (content.Handle h)) = told_handle_code h
bound_code (Holds (content.Request r)) = told_request_code r

-- three counts below 6 are one byte, below 216
abbrev pub are_few : Calls → Bool
are_few c = nat_lt c.handle 6 && nat_lt c.after 6 && nat_lt c.close 6

abbrev pub few_number : Calls → ℕ
few_number c = c.handle + 6 * c.after + 36 * c.close

unfoldable pub counts_code : Calls → List ℕ
counts_code c = if are_few c then byte_code (few_number c) else byte_code 255 ++ calls_code c

unfoldable pub told_code : Told → List ℕ
told_code t = bound_code t.bound ++ counts_code t.calls

-- ---- lists

unfoldable pub names_code : List ℕ → List ℕ
names_code names = list_code number_code names

abbrev pub names_walk_code : Walk ℕ → List ℕ
names_walk_code w = names_code w.list ++ names_code w.yet

-- what a worker runs is the name of a request, or nothing
abbrev pub run_name_code : Option Id → List ℕ
run_name_code run = option_code (λ (id : Id). number_code id.slot) run

-- ---- the whole

unfoldable pub told_watchers_code : Tale → List ℕ
told_watchers_code t = names_walk_code t.idle ++ names_walk_code t.prepare ++ names_walk_code t.check ++ names_walk_code t.async

unfoldable pub told_requests_code : Tale → List ℕ
told_requests_code t = names_code t.waiting ++ list_code run_name_code t.running ++ names_walk_code t.done

-- all lists
unfoldable pub told_lists_code : Tale → List ℕ
told_lists_code t = names_code t.ready ++ told_watchers_code t ++ names_walk_code t.closing ++ told_requests_code t

unfoldable pub tale_code : Tale → List ℕ
tale_code t =
    place_code t.place ++ list_code told_code t.names ++ number_code t.used ++ number_code t.unused ++ told_lists_code t ++ numbers_code t.numbers

-- the bytes of a state, or of what is told of it with counts up to a number
abbrev pub key_code : Option ℕ → State → List ℕ
key_code None s = state_code s
key_code (Some n) s = tale_code (tale n s)
