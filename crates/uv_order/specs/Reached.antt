-- What holds of every state that steps lead to: its lists and its slots agree, and a section that begins finds none of its list yet to run.
use Rattle.std.specs.Prelude.{◌≡◌, ◌<◌, ◌++◌, List, [], true, false, Option, Some, None}
use Rattle.uv_ids.specs.declared.id.Id.{Id}
use Rattle.uv_ids.specs.declared.due.Due.{Due}
use Rattle.uv_ids.specs.declared.phase.Kind.TheVariants as kind
use Rattle.uv_records.specs.declared.handle.HandleRecord.{HandleRecord}
use Rattle.uv_records.specs.declared.lists.WatcherKind.{WatcherKind}
use Rattle.uv_records.specs.declared.lists.WatcherKind.TheVariants as watcher
use Rattle.uv_model.specs.declared.place.Body.{Body}
use Rattle.uv_model.specs.declared.place.Stage.{Stage}
use Rattle.uv_model.specs.declared.place.Stage.TheVariants.{Pending, Walking, Poll, Polled, Done, DoneUnwoken}
use Rattle.uv_model.specs.declared.place.Place.{Place}
use Rattle.uv_model.specs.declared.place.Place.TheVariants.{Main, Running}
use Rattle.uv_model.specs.State.{State, handle, kind_as, watched}
use Rattle.uv_order.specs.Active.{has_id, AreDistinct, AreActive, AreClosing, AreEnded, AreOpened, IsActive, run_ids, AreTimers, Has}

-- where the section behind a stage may begin with the next step, none of its list is yet to run
abbrev pub BeginsBehind : Stage → State → Type 0
BeginsBehind Pending s = s.watchers.idle.yet ≡ []
BeginsBehind (Walking watcher.Idle) s = s.watchers.prepare.yet ≡ []
BeginsBehind (Poll deadline) s = s.done.yet ≡ []
BeginsBehind (Polled woken) s = s.done.yet ≡ []
BeginsBehind Done s = s.watchers.async.yet ≡ []
BeginsBehind DoneUnwoken s = s.watchers.async.yet ≡ []
BeginsBehind (Walking watcher.Async) s = s.watchers.check.yet ≡ []
BeginsBehind (Walking watcher.Check) s = s.closing.yet ≡ []
BeginsBehind stage s = Unit {0}

-- no section begins while a body is under way
abbrev pub BeginsIn : Option Body → Stage → State → Type 0
BeginsIn None stage s = BeginsBehind stage s
BeginsIn (Some body) stage s = Unit {0}

abbrev pub BeginsAt : Place → State → Type 0
BeginsAt (Main line) s = Unit {0}
BeginsAt (Running run) s = BeginsIn run.body run.stage s

-- the id is that of a timer that is set aside to be called: it isn't active any more, and doesn't close
pub record IsSetAside (s : State) (id : Id) : Type 0 where
  pub its : HandleRecord
  pub holds : handle s id ≡ Some its
  pub kind : its.kind ≡ kind.Timer
  pub inactive : its.active ≡ false
  pub stays : its.closing ≡ false

-- these are such timers, and none stands twice
pub record AreSetAside (s : State) (ids : List Id) : Type 0 where
  pub each : (id : Id) → has_id ids id ≡ true → IsSetAside s id
  pub distinct : AreDistinct ids

pub record IsReached (s : State) : Type 0 where
  pub begins : BeginsAt s.place s
  -- the active watchers of a kind are those on its list and those of it that are yet to run, and no others
  pub watchers : (q : WatcherKind) → AreActive s (kind_as q) ((watched s q).list ++ (watched s q).yet)
  -- so are the active timers those of the order of timers, and those that close, or are done, those of their lists
  pub timers : AreTimers s s.timers
  -- each of them drew its start number before the next one
  pub drawn : (due : Due) (id : Id) → Has s.timers due id → due.start < s.next_start
  pub closing : AreClosing s (s.closing.list ++ s.closing.yet)
  pub done : AreEnded s (s.done.list ++ s.done.yet)
  pub ready : AreSetAside s s.ready
  -- a handle that closes isn't active
  pub shut : (id : Id) (h : HandleRecord) → handle s id ≡ Some h → h.closing ≡ true → h.active ≡ false
  -- the open requests are those that wait and those that workers run
  pub opened : AreOpened s (s.waiting ++ run_ids s.running)
  -- a handle that was sent to, and not called since, is an active async one
  pub pending : (id : Id) (h : HandleRecord) → handle s id ≡ Some h → h.pending ≡ true → IsActive s kind.Async id
