use Rattle.uv_loop.proofs.Names.{◌-◌, length, plain_slots}
use Rattle.uv_loop.proofs.Walked.{IsFreeWalked}
use Rattle.uv_loop.proofs.listing.free_slots.Given as goal

abbrev pub invariant-loop-next : goal.invariant-loop-next
invariant-loop-next l = IsFreeWalked l.slots.image l.free.items l.next

-- those that are yet to be walked
abbrev pub decreases-loop-next : goal.decreases-loop-next
decreases-loop-next l = length (plain_slots l.slots.image).free - length l.free.items
