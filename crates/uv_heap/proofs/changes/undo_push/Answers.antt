use Rattle.uv_heap.proofs.Names.{◌≡◌, ℕ, ◌-◌, List, length, take, sym, ◌∙◌, ap, Entry}
use Rattle.uv_heap.specs.Undo.{lowered}
use Rattle.uv_heap.proofs.MoveLemmas.{length-lowered}
use Rattle.uv_heap.proofs.UndoLemmas.{push_undone_is}
use Rattle.uv_heap.proofs.changes.undo_push.Goals as goal

pub returns-clause-array : goal.returns-clause-array
returns-clause-array c =
    let last = length c.as_slice.result.now - 1 in
    let is : last ≡ length c.args.entries.now.array - 1 = ap (λ (xs : List Entry). length xs - 1) c.as_slice.ensures.array in
    let sunk = lowered last c.args.entries.now.array c.args.place last in
    c.pop.ensures.array
    ∙ ap (λ (xs : List Entry). take (length xs - 1) xs) c.lower.ensures.array
    ∙ ap (λ (n : ℕ). take (n - 1) sunk) (length-lowered last c.args.entries.now.array c.args.place last)
    ∙ ap (λ (n : ℕ). take n sunk) (sym is)
    ∙ push_undone_is c.args.entries.now.array c.args.place last is
