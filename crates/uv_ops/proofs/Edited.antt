-- Ops that give a handle another record and touch no list.
use Rattle.uv_ops.proofs.Names.{◌≡◌, Some, sym, subst, Id, HandleRecord, record_at, IsChanged, Place, State, with_handle, Handle, Record, handle_of, By, Held, counted_of, OnlyHandles, StandsFor, changed_stands}
use Rattle.uv_memory.specs.Change as change

-- each state has the other record, too
pub edited_stands : (r : Record Place) (h w : Held Place) → OnlyHandles h.image w.image → (d : Id) (from to : HandleRecord)
    → record_at handle_of h.image.arena d ≡ Some from
    → By change.Edited (λ u. IsChanged handle_of Handle (counted_of h.image) (counted_of w.image) d from to u) r.change
    → (s : State) → StandsFor h.image s → StandsFor w.image (with_handle s d to)
edited_stands r h w frame d from to there by s stands =
    subst (λ q. StandsFor q (with_handle s d to)) (sym frame)
    (changed_stands h.image s w.image.arena w.image.active d from to by.undo stands there by.does)
