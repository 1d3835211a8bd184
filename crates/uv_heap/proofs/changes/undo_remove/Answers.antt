use Rattle.uv_heap.proofs.Names.{◌≡◌, ℕ, ◌<◌, ◌++◌, ◌∷◌, [], List, length, ◌∙◌, ap, arith, swap, length_push, Entry, returned}
use Rattle.uv_heap.proofs.UndoLemmas.{removal_undone_last, removal_undone_inner, avoids_from, avoids_is, avoids_returned, length-returned}
use Rattle.uv_heap.proofs.changes.undo_remove.Goals as goal

pub returns-then-place-last-clause-array : goal.returns-then-place-last-clause-array
returns-then-place-last-clause-array c = grind (arith, removal_undone_last)

pub push-requires-2-clause-absent : goal.push-requires-2-clause-absent
push-requires-2-clause-absent c =
    let long = ap length c.as_slice-last.ensures.array in
    let within : c.args.undo.place < length c.args.entries.now.array = omega (arith, c.requires.place_within) in
    let xs = c.args.entries.now.array in
    rw c.go_back.ensures.array
    (avoids_is (returned xs c.args.undo.rest c.args.undo.place) c.args.undo.entry.slot
    (avoids_returned xs c.args.undo.rest c.args.undo.place c.args.undo.entry.slot (c.requires.rest_within within) within
    (avoids_from xs c.args.undo.entry.slot c.requires.absent)))

-- the length after the entry is there again
long_after : (xs ys zs : List Entry) (rest place : ℕ) (e : Entry) → ys ≡ returned xs rest place → zs ≡ ys ++ e ∷ [] → length xs < length zs
long_after xs ys zs rest place e p q = grind (arith, length_push, length-returned)

pub swap-requires-clause-a_within : goal.swap-requires-clause-a_within
swap-requires-clause-a_within c =
    omega (
      arith,
      c.requires.place_within,
      long_after c.args.entries.now.array c.go_back.new.entries.array c.push-2.new.self.array c.args.undo.rest
          c.args.undo.place c.args.undo.entry c.go_back.ensures.array c.push-2.ensures.array,
    )

pub swap-requires-clause-b_within : goal.swap-requires-clause-b_within
swap-requires-clause-b_within c =
    let long = ap length c.as_slice-last.ensures.array in
    omega (
      arith,
      long_after c.args.entries.now.array c.go_back.new.entries.array c.push-2.new.self.array c.args.undo.rest c.args.undo.place
          c.args.undo.entry c.go_back.ensures.array c.push-2.ensures.array,
    )

pub returns-clause-array : goal.returns-clause-array
returns-clause-array c = grind (arith, removal_undone_inner)
