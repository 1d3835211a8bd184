use Rattle.uv_loop.proofs.Names.{◌-◌, length, IsWalked}
use Rattle.uv_arena.specs.Image.{members}
use Rattle.uv_loop.proofs.listing.listed_ids.Given as goal

abbrev pub invariant-loop-next : goal.invariant-loop-next
invariant-loop-next l = IsWalked l.slots.image l.fn.list l.ids.items l.next

-- those that are yet to be walked
abbrev pub decreases-loop-next : goal.decreases-loop-next
decreases-loop-next l = length (members l.slots.image l.fn.list) - length l.ids.items
