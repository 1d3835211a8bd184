-- The names that proofs of this crate bring in.
pub use Rattle.std.proofs.Common.{Bool, IfNone, IfSome, List, None, Option, Some, [], ap, append-nil, append_assoc, arith, cond, eq-eqb, eqb, ext_get_or, false, if◌then◌else◌, inl, inr, is_some, length, length-append, map, nat_lt, not, option_and_then, option_map, refl, replicate, set, slice_get, slice_index_or, slice_set, subst, suc, sym, take, true, zero, ℕ, ◌&&◌, ◌++◌, ◌+◌, ◌-◌, ◌<◌, ◌==◌, ◌^◌, ◌||◌, ◌∙◌, ◌∷◌, ◌≡◌, ◌≢◌, ◌≤◌, ◌⊎◌}
pub use Rattle.std.proofs.lemmas.Bool.{and_parts, false_from_ne_true}
pub use Rattle.std.proofs.lemmas.Bool.Decides.{eqb_tells}
pub use Rattle.std.proofs.lemmas.Grind.{elements}
pub use Rattle.std.proofs.lemmas.List.{length-map, map-append, map-set}
pub use Rattle.std.proofs.lemmas.Option.{slice_get-get_or, slice_get-map, slice_get_past, slice_get_within}
pub use Rattle.std.specs.List.{AllByRecursion, list_any, swap}
pub use Rattle.uv_arena.specs.Calls.{IsFirst, IsInserted, IsLast, IsListed, IsPushed, IsRemoved, IsRotated, IsSet, IsSpliced, IsUnlinked, slot_of}
pub use Rattle.uv_arena.specs.Chains.{Chains, IsApart, IsIn, IsList, IsSegment, Stands, each, ends_of, first, head_of, is_at, last, link, linked, loose, new_ends, new_links, next_of, none_or, relinked, tail_of, unlinked}
pub use Rattle.uv_arena.specs.Holding.{count_of, one_of}
pub use Rattle.uv_arena.specs.Image.{AreFit, AreNames, Arena, Fits, Image, IsBelow, IsLinked, IsSound, IsWithin, Memory, back_place, chain, chains, edit_at, edited, fresh_image, front_place, grown, head_at, held, held_slots, in_memory, links_at, links_in, list_or_first, members, memory_of, name_at, no_ends, on_list, place_at, plain_slots, put_in, relinked_cells, relinked_memory, shrunk, slot_at, slot_in, tail_at, taken_out, with_cells, with_ends, with_links}
pub use Rattle.uv_arena.specs.Undo.{CanUndoUnlink, front_again, insert_undone, push_undone, remove_undone, rotate_undone, set_undone, slot_or_first, splice_undone, spliced, unlink_undone}
pub use Rattle.uv_arena.specs.declared.links.Cell.{Cell}
pub use Rattle.uv_arena.specs.declared.links.ChainPlace.{ChainPlace}
pub use Rattle.uv_arena.specs.declared.links.Links.{Links}
pub use Rattle.uv_arena.specs.declared.links.TheConstants.{CHAIN_COUNT, FREE}
pub use Rattle.uv_ids.specs.declared.id.Id.{Id}
pub use Rattle.uv_raw.specs.Row.{row}
pub use Rattle.uv_records.specs.Count.{Fits32, one_if, pends_in}
pub use Rattle.uv_records.specs.Lists.{number}
pub use Rattle.uv_records.specs.Walks.{without}
pub use Rattle.uv_records.specs.declared.lists.Ends.{Ends}
pub use Rattle.uv_records.specs.declared.lists.ListName.{ListName}
pub use Rattle.uv_records.specs.declared.lists.TheConstants.{LIST_COUNT}
pub use Rattle.uv_records.specs.declared.slot.Slot.{Slot}
