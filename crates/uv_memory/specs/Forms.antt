-- In which form the change of a step is kept.
use Rattle.std.specs.Prelude.{Some, None}
use Rattle.uv_handle.specs.declared.undo.RecordUndo.{RecordUndo}
use Rattle.uv_heap.specs.declared.undo.HeapRemoveUndo.{HeapRemoveUndo}
use Rattle.uv_timer.specs.declared.undo.TimerUndo.{TimerUndo}
use Rattle.uv_memory.specs.Change.{Change}
use Rattle.uv_memory.specs.Change as change
use Rattle.uv_memory.specs.declared.small.Small.{Small}
use Rattle.uv_memory.specs.declared.small.Small.TheVariants as small
use Rattle.uv_memory.specs.declared.medium.Medium.{Medium}
use Rattle.uv_memory.specs.declared.medium.Medium.TheVariants as medium
use Rattle.uv_memory.specs.declared.large.Large.{Large}
use Rattle.uv_memory.specs.declared.large.Large.TheVariants as large
use Rattle.uv_memory.specs.declared.row.Row.{Row}
use Rattle.uv_memory.specs.declared.row.Row.TheVariants as row
use Rattle.uv_memory.specs.declared.kept.Form.{Form}
use Rattle.uv_memory.specs.declared.kept.Form.TheVariants as form
use Rattle.uv_memory.specs.declared.kept.KeptRecord.{KeptRecord}
use Rattle.uv_memory.specs.Record.{Record}

-- the change that a small one is
abbrev pub smaller : Small → Change
smaller small.Nothing = change.Nothing
smaller (small.Time n) = change.Time n
smaller (small.Clock n) = change.Clock n
smaller (small.Stop b) = change.Stop b
smaller (small.Idled b) = change.Idled b
smaller (small.Iterated n b) = change.Iterated n b
smaller (small.Added u) = change.Added u
smaller (small.Begun u) = change.Begun u
smaller (small.Polled u) = change.Polled u
smaller (small.Passed kind) = change.Walked (record { kind = kind; woken = None })
smaller (small.Queued u) = change.Queued u
smaller (small.Taken u) = change.Taken u
smaller (small.Finished u) = change.Finished u

-- a timer that was on no list was taken off the heap
abbrev pub taken_off : HeapRemoveUndo → RecordUndo → TimerUndo
taken_off r u = record { removed = Some r; delisted = record { unlinked = None; changed = u }; set = None }

-- the change that a medium one is
abbrev pub change_of : Medium → Change
change_of (medium.Edited u) = change.Edited u
change_of (medium.Enlisted u) = change.Enlisted u
change_of (medium.Delisted u) = change.Delisted u
change_of (medium.Reset u) = change.Timer (record { removed = None; delisted = u; set = None })
change_of (medium.Fired place u set) =
    change.Timer (record { removed = None; delisted = record { unlinked = Some place; changed = u }; set = Some set })
change_of (medium.Started u set) = change.Timer (record { removed = None; delisted = record { unlinked = None; changed = u }; set = Some set })
change_of (medium.Stopped r u) = change.Timer (taken_off r u)
change_of (medium.Collected put r u) = change.Moved put (taken_off r u)
change_of (medium.Woken kind u) = change.Walked (record { kind = kind; woken = Some u })
change_of (medium.Closed u h) = change.Closed u h
change_of (medium.Cancelled u) = change.Cancelled u

-- the change that a large one is
abbrev pub larger : Large → Change
larger (large.Timer u) = change.Timer u
larger (large.Moved put u) = change.Moved put u
larger (large.Ended u r) = change.Ended u r

-- that of these three which lies in its row
abbrev pub change_at : Row → Small → Medium → Large → Change
change_at row.Smalls s m l = smaller s
change_at row.Mediums s m l = change_of m
change_at row.Larges s m l = larger l

-- the change of any form
abbrev pub change_in : Form → Change
change_in (form.Small s) = smaller s
change_in (form.Medium m) = change_of m
change_in (form.Large l) = larger l

-- the record that is kept so
abbrev pub record_of : {P : Type 0} → KeptRecord P → Record P
record_of k = record { place = k.place; naming = k.naming; change = change_in k.form }
