-- A handle gets another record: what the memory stands for then.
use Rattle.uv_stands.proofs.ProofNames.{◌≡◌, ℕ, map, Some, sym, ap, ◌∙◌, Id, HandleRecord, RecordUndo, counted, record_at, IsChanged, Entry, id_in, Place, State, with_handle, Content, Handle, handle_of, Image, counted_of, StandsFor, timer_in}
use Rattle.uv_arena.specs.Image as arena
use Rattle.uv_handle.proofs.Counts as handles
use Rattle.uv_stands.proofs.Holding.{slots_set, ids_kept, map_same}
use Rattle.uv_stands.proofs.Lists.{beside_lists}

-- ---- a handle gets another record

pub changed_stands : (i : Image Place) (s : State) (k : arena.Image Content) (m : ℕ) (d : Id) (from to : HandleRecord) (u : RecordUndo)
    → StandsFor i s → record_at handle_of i.arena d ≡ Some from
    → IsChanged handle_of Handle (counted_of i) (counted k m) d from to u
    → StandsFor (record i { arena = k; active = m }) (with_handle s d to)
changed_stands i s k m d from to u h there c =
    let was = handles.content_of handle_of i.arena d from there in
    let ids = ids_kept i.arena k d (Handle to) was.0 was.1 c.set.plain in
    record {
      values = h.values;
      slots = slots_set i s k d (Handle to) h c.set.plain;
      lists = λ l. beside_lists s s.place s.names (with_handle s d to).arena s.timers s.running s.time s.clock s.next_start s.stop_flag s.idled l
          ∙ h.lists l ∙ sym (map_same (id_in k) (id_in i.arena) ids (arena.members i.arena l))
          ∙ ap (map (id_in k)) (sym (c.set.lists l));
      timers = record {
        entries = h.timers.entries;
        ordered = h.timers.ordered;
        same = h.timers.same
            ∙ sym (map_same (timer_in k) (timer_in i.arena) (λ (e : Entry). ap (λ z. (e.due, z)) (ids e.slot)) h.timers.entries);
      };
    }
