-- The lists that a slot can be on, and the kinds of handle that a section walks.
use Rattle.std.specs.Prelude.{ℕ, List, [], ◌∷◌, Option, Some, None}
use Rattle.uv_ids.specs.declared.phase.Kind.{Kind}
use Rattle.uv_ids.specs.declared.phase.Kind.TheVariants as kind
use Rattle.uv_ids.specs.declared.phase.Phase.{Phase}
use Rattle.uv_ids.specs.declared.phase.Phase.TheVariants as phase
use Rattle.uv_records.specs.declared.lists.ListName.{ListName}
use Rattle.uv_records.specs.declared.lists.ListName.TheVariants as name
use Rattle.uv_records.specs.declared.lists.WatcherKind.{WatcherKind}
use Rattle.uv_records.specs.declared.lists.WatcherKind.TheVariants as watcher

-- a list's number
abbrev pub number : ListName → ℕ
number name.Ready = 0
number name.Idle = 1
number name.IdleYet = 2
number name.Prepare = 3
number name.PrepareYet = 4
number name.Check = 5
number name.CheckYet = 6
number name.Async = 7
number name.AsyncYet = 8
number name.Closing = 9
number name.ClosingYet = 10
number name.Waiting = 11
number name.Done = 12
number name.DoneYet = 13

-- all of them, by number
abbrev pub all_lists : List ListName
all_lists =
    name.Ready ∷ name.Idle ∷ name.IdleYet ∷ name.Prepare ∷ name.PrepareYet ∷ name.Check ∷ name.CheckYet ∷ name.Async ∷ name.AsyncYet
    ∷ name.Closing ∷ name.ClosingYet ∷ name.Waiting ∷ name.Done ∷ name.DoneYet ∷ []

-- the kind as one of these, unless it is a timer or a handle of I/O
abbrev pub watcher_kind : Kind → Option WatcherKind
watcher_kind kind.Timer = None
watcher_kind kind.Idle = Some watcher.Idle
watcher_kind kind.Prepare = Some watcher.Prepare
watcher_kind kind.Check = Some watcher.Check
watcher_kind kind.Async = Some watcher.Async
watcher_kind kind.Io = None

-- the list of them
abbrev pub list_of : WatcherKind → ListName
list_of watcher.Idle = name.Idle
list_of watcher.Prepare = name.Prepare
list_of watcher.Check = name.Check
list_of watcher.Async = name.Async

-- the list of those that the section under way has yet to run
abbrev pub yet_of : WatcherKind → ListName
yet_of watcher.Idle = name.IdleYet
yet_of watcher.Prepare = name.PrepareYet
yet_of watcher.Check = name.CheckYet
yet_of watcher.Async = name.AsyncYet

-- the section that calls them
abbrev pub phase_of : WatcherKind → Phase
phase_of watcher.Idle = phase.Idle
phase_of watcher.Prepare = phase.Prepare
phase_of watcher.Check = phase.Check
phase_of watcher.Async = phase.Async
