use Rattle.uv_stands.proofs.ProofNames.{◌≡◌, take}
use Rattle.uv_stands.proofs.Ordered.{ids_of}
use Rattle.uv_stands.proofs.order.ids_of.Given as goal

-- those before this one
abbrev pub invariant-loop-entry : goal.invariant-loop-entry
invariant-loop-entry l = l.ids.items ≡ ids_of l.slots.image (take l.entry-index l.entries)
