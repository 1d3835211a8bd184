use Rattle.uv_loop.proofs.Names.{◌≡◌, map, take, all_lists, shown_ends}
use Rattle.uv_loop.proofs.laying.laid_lists.Given as goal

abbrev pub invariant-loop-list : goal.invariant-loop-list
invariant-loop-list l = (l.list-items ≡ all_lists) × (l.lists.items ≡ map (shown_ends l.slots.image) (take l.list-index l.list-items))
