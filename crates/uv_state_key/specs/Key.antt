-- The bytes that name a state of the loop: each part after the other, by a code that tells where it ends. When the active timers are due
-- stands with their handles.
use Rattle.std.specs.Prelude.{ℕ, ◌+◌, ◌*◌, List, ◌++◌, Bool, true, false, Option, Some, None}
use Rattle.uv_ids.specs.declared.id.Id.{Id}
use Rattle.uv_ids.specs.declared.phase.Kind.{Kind}
use Rattle.uv_ids.specs.declared.phase.Kind.TheVariants as kind
use Rattle.uv_ids.specs.declared.phase.Mode.{Mode}
use Rattle.uv_ids.specs.declared.phase.Mode.TheVariants.{Default, Once, Nowait}
use Rattle.uv_ids.specs.declared.seen.Callback.{Callback}
use Rattle.uv_ids.specs.declared.seen.Callback.TheVariants as callback
use Rattle.uv_records.specs.declared.handle.HandleRecord.{HandleRecord}
use Rattle.uv_records.specs.declared.named.Calls.{Calls}
use Rattle.uv_records.specs.declared.named.Named.{Named}
use Rattle.uv_records.specs.declared.slot.Slot.{Slot}
use Rattle.uv_records.specs.declared.lists.WatcherKind.TheVariants as watcher
use Rattle.uv_records.specs.Slots.{Slots}
use Rattle.uv_records.specs.Walks.{Walk}
use Rattle.uv_work.specs.declared.content.Content.{Content}
use Rattle.uv_work.specs.declared.content.Content.TheVariants as content
use Rattle.uv_work.specs.declared.outcome.Outcome.{Outcome}
use Rattle.uv_work.specs.declared.outcome.Outcome.TheVariants.{Open, Finished, Cancelled}
use Rattle.uv_work.specs.declared.request.Request.{Request}
use Rattle.uv_work.specs.Tasks.{text_of}
use Rattle.uv_model.specs.declared.numbers.Numbers.{Numbers}
use Rattle.uv_model.specs.declared.place.Body.{Body}
use Rattle.uv_model.specs.declared.place.Place.{Place}
use Rattle.uv_model.specs.declared.place.Place.TheVariants.{Main, Running}
use Rattle.uv_model.specs.declared.place.Run.{Run}
use Rattle.uv_model.specs.declared.place.Stage.{Stage}
use Rattle.uv_model.specs.declared.place.Stage.TheVariants as stage
use Rattle.uv_model.specs.declared.place.TimersOf.TheVariants.{Entry, Iteration}
use Rattle.uv_model.specs.declared.place.Timing.TheVariants.{Collecting, Firing}
use Rattle.uv_model.specs.Queries.{numbers}
use Rattle.uv_model.specs.State.{State}
use Rattle.uv_key.specs.Codes.{number_code, byte_code, bytes_code, list_code, option_code}

abbrev pub id_code : Id → List ℕ
id_code id = number_code id.slot ++ number_code id.generation

abbrev pub ids_code : List Id → List ℕ
ids_code ids = list_code id_code ids

abbrev pub bit : Bool → ℕ
bit true = 1
bit false = 0

-- ---- where the loop stands

abbrev pub mode_number : Mode → ℕ
mode_number Default = 0
mode_number Once = 1
mode_number Nowait = 2

abbrev pub callback_number : Callback → ℕ
callback_number callback.Handle = 0
callback_number callback.After = 1
callback_number callback.Close = 2

-- a stage's number, and the deadline of a poll
abbrev pub stage_part : Stage → ℕ × Option ℕ
stage_part stage.Entry = (0, None)
stage_part stage.Pending = (1, None)
stage_part (stage.Walking watcher.Idle) = (2, None)
stage_part (stage.Walking watcher.Prepare) = (3, None)
stage_part (stage.Poll deadline) = (4, deadline)
stage_part stage.Done = (5, None)
stage_part (stage.Walking watcher.Async) = (6, None)
stage_part (stage.Walking watcher.Check) = (7, None)
stage_part stage.Closing = (8, None)
stage_part (stage.Timers Entry Collecting) = (9, None)
stage_part (stage.Timers Entry Firing) = (10, None)
stage_part (stage.Timers Iteration Collecting) = (11, None)
stage_part (stage.Timers Iteration Firing) = (12, None)
stage_part (stage.Polled false) = (13, None)
stage_part (stage.Polled true) = (14, None)
stage_part stage.DoneUnwoken = (15, None)

abbrev pub stage_code : Stage → List ℕ
stage_code s = byte_code (stage_part s).0 ++ option_code number_code (stage_part s).1

unfoldable pub body_code : Body → List ℕ
body_code b = byte_code (callback_number b.callback) ++ number_code b.name.0 ++ number_code b.call ++ number_code b.next

unfoldable pub run_code : Run → List ℕ
run_code r = byte_code (mode_number r.mode) ++ number_code r.line ++ stage_code r.stage ++ option_code body_code r.body

abbrev pub place_code : Place → List ℕ
place_code (Main line) = byte_code 0 ++ number_code line
place_code (Running run) = byte_code 1 ++ run_code run

-- ---- names

unfoldable pub calls_code : Calls → List ℕ
calls_code c = number_code c.handle ++ number_code c.after ++ number_code c.close

unfoldable pub named_code : Named → List ℕ
named_code n = option_code id_code n.id ++ calls_code n.calls

-- ---- slots

abbrev pub kind_number : Kind → ℕ
kind_number kind.Timer = 0
kind_number kind.Idle = 1
kind_number kind.Prepare = 2
kind_number kind.Check = 3
kind_number kind.Async = 4
kind_number kind.Io = 5

-- the flags of a handle, a bit each
abbrev pub flags_of : HandleRecord → ℕ
flags_of h = bit h.referenced + 2 * bit h.active + 4 * bit h.closing + 8 * bit h.begun + 16 * bit h.pending

unfoldable pub handle_code : HandleRecord → List ℕ
handle_code h =
    byte_code (kind_number h.kind) ++ byte_code (flags_of h) ++ number_code h.name.0
    ++ number_code h.due.at ++ number_code h.due.start ++ number_code h.repeat

-- the digest of a finished request is that of its task
abbrev pub outcome_number : Outcome → ℕ
outcome_number Open = 0
outcome_number (Finished digest) = 1
outcome_number Cancelled = 2

unfoldable pub request_code : Request → List ℕ
request_code r =
    byte_code (outcome_number r.outcome) ++ number_code r.name.0 ++ number_code r.task.rounds ++ bytes_code (text_of r.task)

abbrev pub content_code : Option Content → List ℕ
content_code None = byte_code 0
content_code (Some (content.Handle h)) = byte_code 1 ++ handle_code h
content_code (Some (content.Request r)) = byte_code 2 ++ request_code r

unfoldable pub slot_code : Slot Content → List ℕ
slot_code slot = number_code slot.generation ++ content_code slot.content

unfoldable pub arena_code : Slots Content → List ℕ
arena_code a = list_code slot_code a.slots ++ list_code number_code a.free ++ number_code a.unused

-- ---- lists

abbrev pub walk_code : Walk Id → List ℕ
walk_code w = ids_code w.list ++ ids_code w.yet

unfoldable pub watchers_code : State → List ℕ
watchers_code s =
    walk_code s.watchers.idle ++ walk_code s.watchers.prepare ++ walk_code s.watchers.check ++ walk_code s.watchers.async

unfoldable pub requests_code : State → List ℕ
requests_code s = ids_code s.waiting ++ list_code (option_code id_code) s.running ++ walk_code s.done

-- ---- the whole

unfoldable pub numbers_code : Numbers → List ℕ
numbers_code n =
    number_code n.time ++ number_code n.clock ++ number_code n.next_start ++ byte_code (bit n.stop_flag) ++ byte_code (bit n.idled)

unfoldable pub state_code : State → List ℕ
state_code s =
    place_code s.place ++ list_code named_code s.names ++ arena_code s.arena
    ++ ids_code s.ready ++ watchers_code s ++ walk_code s.closing ++ requests_code s ++ numbers_code (numbers s)
