-- The first timer is collected, if it is due.
use Rattle.uv_sections.proofs.Names.{◌≡◌, ◌≢◌, ℕ, List, [], ◌∷◌, ◌++◌, map, drop, Some, refl, sym, ap, ◌∙◌, map-append, Id, HandleRecord, ListName, without_none, record_at, CollectUndo, Entry, cleared, id_in, Place, collected, members, State, IsReached, Record, handle_of, By, moved_by, IsFit, Image, Held, timed_of, OnlyTimed, StandsFor, timer_in, slots_set, ids_kept, map_same, all_but_one, Listed, IsOn, held_handle, own_id, absent_active, start_is, time_is, OfEach, first_due, cleared_first, retimed, AreRetimed, stands_then, timers_are}
use Rattle.uv_work.specs.declared.content.Content.TheVariants.{Handle}
use Rattle.uv_timer.specs.Timers.{IsCollected}
use Rattle.uv_records.specs.declared.lists.ListName.TheVariants as name
use Rattle.uv_records.specs.Handles as records
use Rattle.uv_arena.specs.Image as arena
use Rattle.uv_sections.proofs.DueFirst.{begun, begins_with, its, due_first}

-- the first timer is due, and is set aside
abbrev pub Collects : Image Place → Image Place → Id → Type 0
Collects i j d = OfEach i (λ s. (h : HandleRecord) × (first_due s s.timers ≡ Some (d, h)) × StandsFor j (collected s d h))

-- ---- it is collected

module _ (i j : Image Place) (room : ℕ) (d : Id) (u : CollectUndo) (c : IsCollected handle_of Handle room (timed_of i) (timed_of j) d u)
    (there : record_at handle_of i.arena d ≡ Some c.from) (s : State) (stands : StandsFor i s) (reached : IsReached s) (fit : IsFit i) where
  abbrev h : HandleRecord
  h = c.from

  abbrev t : State
  t = collected s d h

  abbrev rest : List Entry
  rest = (begun i d h c.is_due s stands reached).rest

  ids : (y : ℕ) → id_in j.arena y ≡ id_in i.arena y
  ids = ids_kept i.arena j.arena d (Handle (records.stopped h)) (Handle h) (held_handle i d h there) c.plain

  absent : (l : ListName) → IsOn i l d → ⊥
  absent = let mine = its i d h c.is_due s stands reached in absent_active i d h there fit s stands reached mine.kind mine.active

  stays : (l : ListName) → l ≢ name.Ready → arena.members j.arena l ≡ arena.members i.arena l
  stays l ne = c.others l ne ∙ without_none (arena.members i.arena l) d.slot (absent l)

  others : (l : ListName) → l ≢ name.Ready → members t l ≡ members s l
  others name.Ready ne = absurd (ne refl)
  others l ne = refl

  -- it is at the end of those that are set aside
  last : Listed j.arena t name.Ready
  last =
      let ready = arena.members i.arena name.Ready in
      (λ l. stands.lists name.Ready l ++ sym (own_id i d h there) l ∷ [])
      ∙ sym (map-append (id_in i.arena) ready (d.slot ∷ []))
      ∙ sym (map_same (id_in j.arena) (id_in i.arena) ids (ready ++ d.slot ∷ []))
      ∙ ap (map (id_in j.arena)) (ap (λ xs. xs ++ d.slot ∷ []) (sym (without_none ready d.slot (absent name.Ready))) ∙ sym c.ready)

  left : t.timers ≡ map (timer_in i.arena) (cleared d.slot stands.timers.entries)
  left =
      ap (drop 1) (begins_with i d h c.is_due s stands reached)
      ∙ ap (map (timer_in i.arena)) (sym (ap (cleared d.slot) (begun i d h c.is_due s stands reached).is
      ∙ cleared_first i.arena c.is_due.entry rest d.slot (sym c.is_due.slot)))

  pub collected_retimed : AreRetimed (retimed i (timed_of j)) s t
  collected_retimed = record {
    slots = slots_set i s j.arena d (Handle (records.stopped h)) stands c.plain;
    lists = all_but_one i s stands j.arena t ids name.Ready stays others last;
    timers = timers_are i s stands j.arena d ids j.heap (cleared d.slot stands.timers.entries) t.timers
        (c.timers stands.timers.entries stands.timers.ordered) left;
    time = ap (λ z. z.time) c.times ∙ (time_is stands);
    next_start = ap (λ z. z.next_start) c.times ∙ (start_is stands);
  }

pub timer_collects : (r : Record Place) (h w : Held Place) (d : Id) → IsFit h.image → OnlyTimed h.image w.image
    → By moved_by (λ u. IsCollected handle_of Handle w.room (timed_of h.image) (timed_of w.image) d u) r.change → Collects h.image w.image d
timer_collects r h w d fit frame by s stands reached =
    let c = by.does in (
      c.from,
      due_first h.image d c.from c.is_due s stands reached,
      stands_then h.image w.image s (collected s d c.from) frame stands refl
          (collected_retimed h.image w.image w.room d by.undo c c.is_due.handle s stands reached fit),
    )
