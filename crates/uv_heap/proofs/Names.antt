-- The names that proofs of this crate bring in.
pub use Rattle.std.proofs.Common.{Bool, IfSome, List, None, Option, Some, [], ap, arith, cond, count_by, eqb, false, get_or, inl, inr, leb, length, ltb, refl, replicate, set, suc, sym, take, true, zero, ℕ, ◌&&◌, ◌*◌, ◌++◌, ◌+◌, ◌-◌, ◌<◌, ◌^◌, ◌∙◌, ◌∷◌, ◌≡◌, ◌≤◌, ◌⊎◌}
pub use Rattle.std.proofs.lemmas.Bool.{and_cases, and_from, and_left, and_parts, cases_Bool, cases_eq, cases_lt, eq-eqb, eqb-false, eqb-true, false_from_ne_true, false≢true, le-leb, le-ltb, lt-leb, lt-ltb, ltb-false, ltb-true, ne_eqb}
pub use Rattle.std.proofs.lemmas.Cmp.{nat_cmp_total, on_total, then_total}
pub use Rattle.std.proofs.lemmas.List.{ext_get_or, get_or-append_right, get_or-set_other, get_or-set_same, get_or-take, get_or_append_left, get_or_past, get_or_push, get_or_read, length-append, length-replicate, length-set, length-take-le, length_push, take_all, take_at, take_more}
pub use Rattle.std.proofs.lemmas.List.Edits.{Swapped, length-swap, swapped_from_swap}
pub use Rattle.std.proofs.lemmas.List.Sorted.{IsPermutation-swap, ranks_by, sum_by-IsPermutation}
pub use Rattle.std.proofs.lemmas.List.Sums.{count_by-le-length, fails_before_first, position_or_len_is, sum_by-append, sum_by-cons, sum_by-set, sum_by_push}
pub use Rattle.std.specs.Cmp.{IsStrictWeakOrder, IsTotalOrder}
pub use Rattle.std.specs.List.{position_or_len, slice_get, swap}
pub use Rattle.std.specs.Option.{is_some}
pub use Rattle.uv_heap.specs.Array.{Heap, IsHeap, SlotsDiffer, entry_at, no_entry, parent, place_in}
pub use Rattle.uv_heap.specs.Moves.{Moved, lesser_child, must_rise, must_sink}
pub use Rattle.uv_heap.specs.Order.{IsBeforeAll, IsInOrder, IsOrdered, NoneBefore, inserted, is_before, is_same, without}
pub use Rattle.uv_heap.specs.Places.{ArePlaces}
pub use Rattle.uv_heap.specs.Undo.{returned}
pub use Rattle.uv_heap.specs.declared.entry.Entry.{Entry}
pub use Rattle.uv_heap.specs.declared.undo.HeapRemoveUndo.{HeapRemoveUndo}
pub use Rattle.uv_ids.specs.Due.{due_cmp}
pub use Rattle.uv_ids.specs.declared.due.Due.{Due}
