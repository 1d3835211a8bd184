use Rattle.uv_heap.proofs.Names.{sym, arith}
use Rattle.uv_heap.proofs.MoveLemmas.{lowered_more, lowered_end, length-lowered}
use Rattle.uv_heap.proofs.sift.+lower.Goals as goal

pub swap-requires-clause-a_within : goal.swap-requires-clause-a_within
swap-requires-clause-a_within t c = rw c.lower.ensures.array
    (omega (
      arith,
      c.requires,
      c.parent-above.ensures,
      length-lowered c.parent-above.result c.args.entries.now.array c.args.from
          c.parent-above.result,
    ))

pub swap-requires-clause-b_within : goal.swap-requires-clause-b_within
swap-requires-clause-b_within t c = rw c.lower.ensures.array
    (omega (arith, c.requires, length-lowered c.parent-above.result c.args.entries.now.array c.args.from c.parent-above.result))

pub returns-then-from-to-clause-array : goal.returns-then-from-to-clause-array
returns-then-from-to-clause-array t c = grind (arith, lowered_more)

pub returns-else-from-to-clause-array : goal.returns-else-from-to-clause-array
returns-else-from-to-clause-array t c = sym (lowered_end c.args.entries.now.array c.args.from c.args.to (omega arith))
