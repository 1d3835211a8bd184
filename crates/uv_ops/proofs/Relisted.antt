-- A handle gets another record, and is on other lists: what the memory stands for then.
use Rattle.uv_ops.proofs.Names.{◌≡◌, ℕ, List, map, Some, sym, ap, ◌∙◌, Id, HandleRecord, ListName, Walk, plain_slots, record_at, Entry, id_in, Place, State, Watchers, with_handle, Content, Handle, handle_of, Image, StandsFor, timer_in, slots_set, ids_kept, map_same, Listed}
use Rattle.uv_records.specs.Slots as plain
use Rattle.uv_arena.specs.Image as arena
use Rattle.uv_handle.proofs.Counts as handles

-- a list of ids is that list of the arena
abbrev pub IsList : arena.Image Content → List Id → ListName → Type 0
IsList k xs l = xs ≡ map (id_in k) (arena.members k l)

module _ (i : Image Place) (s : State) (h : StandsFor i s) (k : arena.Image Content) (m : ℕ) (d : Id) (from to : HandleRecord)
    (there : record_at handle_of i.arena d ≡ Some from)
    (set : plain_slots k ≡ record (plain_slots i.arena) { slots = plain.with_held (plain_slots i.arena).slots d (Handle to) }) where
  -- each slot's id is as it was
  pub same_ids : (x : ℕ) → id_in k x ≡ id_in i.arena x
  same_ids = let was = handles.content_of handle_of i.arena d from there in ids_kept i.arena k d (Handle to) was.0 was.1 set

  slots : plain_slots k ≡ (with_handle s d to).arena
  slots = slots_set i s k d (Handle to) h set

  module _ (ready : List Id) (watchers : Watchers) (closing : Walk Id) where
    abbrev pub relisted : State
    relisted = record (with_handle s d to) { ready = ready; watchers = watchers; closing = closing }

    pub relisted_stands : ((l : ListName) → Listed k relisted l) → StandsFor (record i { arena = k; active = m }) relisted
    relisted_stands lists = record {
      values = h.values;
      slots = slots;
      lists = lists;
      timers = record {
        entries = h.timers.entries;
        ordered = h.timers.ordered;
        same = h.timers.same
            ∙ sym (map_same (timer_in k) (timer_in i.arena) (λ (e : Entry). ap (λ z. (e.due, z)) (same_ids e.slot)) h.timers.entries);
      };
    }
