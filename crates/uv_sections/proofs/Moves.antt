-- The front of those that a section has yet to run moves to the end of its list: what the memory stands for then.
use Rattle.uv_sections.proofs.Names.{◌≡◌, ◌≢◌, ◌++◌, ◌∷◌, [], ℕ, Bool, true, false, map, drop, Some, None, refl, sym, ap, ◌∙◌, map-append, Id, HandleRecord, WatcherKind, ListName, woken, list_of, yet_of, Walk, moved_on, plain_slots, record_at, id_in, listed_id, WalkUndo, IsMovedOn, pending_of, Place, State, front, watched, with_handle, members, front_moved, Content, handle_of, NoHandleFirst, Image, counted_of, OnlyHandles, StandsFor, slots_set, ids_kept, Listed, all_but_two, beside_lists, ids_moved, front_there, HandleMoved, moved_state, time_is}
use Rattle.uv_records.specs.declared.lists.WatcherKind.TheVariants as watcher
use Rattle.uv_records.specs.Slots as plain
use Rattle.uv_arena.specs.Image as arena
use Rattle.uv_handle.proofs.Counts as handles
use Rattle.uv_work.specs.declared.content.Content.TheVariants.{Handle}
use Rattle.uv_sections.proofs.Firsts.{front_is, none_first}
use Rattle.uv_sections.proofs.Keeping.{KeepsState, all_timers, listed_as, stands_then}
use Rattle.uv_sections.proofs.Watched.{list_is, yet_is, list_now, yet_now, others_stay, arena_stays, time_stays, state_stays}

-- a handle that isn't an async one isn't woken
pub calls_all : (w : WatcherKind) (r : HandleRecord) → w ≢ watcher.Async → pending_of w (Some r) ≡ false
calls_all watcher.Async r ne = absurd (ne refl)
calls_all each r ne = refl

-- none is yet to run
pub none_moves : (i : Image Place) (s : State) → StandsFor i s → (w : WatcherKind) → NoHandleFirst i.arena (yet_of w)
    → front s (watched s w).yet ≡ None
none_moves i s h w none = ap (front s) (sym (yet_is s w)) ∙ none_first i s h (yet_of w) none

module _ (i j : Image Place) (frame : OnlyHandles i j) (w : WatcherKind) (d : Id) (pending : Bool)
    (u : WalkUndo) (c : IsMovedOn handle_of Handle (counted_of i) (counted_of j) w d pending u) where
  module _ (q : HandleRecord) (holds : record_at handle_of i.arena d ≡ Some q) where
    pub pends : pending ≡ pending_of w (Some q)
    pends = c.was ∙ ap (pending_of w) holds

    module _ (s : State) (st : StandsFor i s) where
      abbrev walk : Walk Id
      walk = moved_on (watched s w) d (drop 1 (watched s w).yet)

      -- the two lists, where each id stays
      module _ (ids : (x : ℕ) → id_in j.arena x ≡ id_in i.arena x) (t : State)
          (lists : (l : ListName) → members t l ≡ members (front_moved s w d) l) where
        here : Listed j.arena t (list_of w)
        here =
            let old = arena.members i.arena (list_of w) in
            let same : id_in i.arena d.slot ≡ d = listed_id i.arena d c.first.listed.held in
            let was : (watched s w).list ≡ map (id_in i.arena) old = sym (list_is s w) ∙ st.lists (list_of w) in
            listed_as i.arena j.arena t (list_of w) walk.list (old ++ d.slot ∷ []) ids
            ((λ l. was l ++ sym same l ∷ []) ∙ sym (map-append (id_in i.arena) old (d.slot ∷ [])))
            (lists (list_of w) ∙ list_now s w walk) (ap (λ (x : Walk ℕ). x.list) c.walk)

        there : Listed j.arena t (yet_of w)
        there =
            let front = front_there i s (yet_of w) d st c.first in
            listed_as i.arena j.arena t (yet_of w) walk.yet c.first.rest ids (ap (drop 1) (sym (yet_is s w) ∙ front))
            (lists (yet_of w) ∙ yet_now s w walk) (ap (λ (x : Walk ℕ). x.yet) c.walk)

        all_lists : (l : ListName) → Listed j.arena t l
        all_lists = all_but_two i s st j.arena t ids (list_of w) (yet_of w) c.others (λ l a b. lists l ∙ others_stay s w walk l a b) here there

      asleep_stands : pending ≡ false → StandsFor j (front_moved s w d)
      asleep_stands off =
          let ids = ids_moved i.arena j.arena (c.asleep off) in
          let t = front_moved s w d in
          stands_then i j s t st frame (state_stays s w walk)
          ((time_is st) ∙ sym (time_stays s w walk))
          (c.asleep off ∙ st.slots ∙ sym (arena_stays s w walk))
          (all_lists ids t (λ l. refl)) (all_timers i.arena j.arena s.timers ids)

      awake_stands : pending ≡ true → StandsFor j (with_handle (front_moved s w d) d (woken q))
      awake_stands on =
          let m = front_moved s w d in
          let t = with_handle m d (woken q) in
          let set : plain_slots j.arena ≡ record (plain_slots i.arena) { slots = plain.with_held (plain_slots i.arena).slots d (Handle (woken q)) } =
          c.awake q holds on in
          let was = handles.content_of handle_of i.arena d q holds in
          let ids = ids_kept i.arena j.arena d (Handle (woken q)) was.0 was.1 set in
          let slots : plain_slots j.arena ≡ t.arena =
          slots_set i s j.arena d (Handle (woken q)) st set
          ∙ ap (λ (a : plain.Slots Content). (let x : plain.Slots Content = record a { slots = plain.with_held a.slots d (Handle (woken q)) } in x))
          (sym (arena_stays s w walk)) in
          let stays = state_stays s w walk in
          let kept : KeepsState s t = record { values = stays.values; timers = stays.timers } in
          let lists : (l : ListName) → members t l ≡ members m l =
          beside_lists m m.place m.names t.arena m.timers m.running m.time m.clock m.next_start m.stop_flag m.idled in
          stands_then i j s t st frame kept ((time_is st) ∙ sym (time_stays s w walk))
          slots (all_lists ids t lists) (all_timers i.arena j.arena s.timers ids)

      pub handle_moved : HandleMoved w j s d q pending
      handle_moved = record {
        front = ap (front s) (sym (yet_is s w)) ∙ front_is i s st (yet_of w) d (Some q) c.first holds;
        was = pends;
        stands = at pending refl;
      } where
        at : (b : Bool) → pending ≡ b → StandsFor j (moved_state b s w d q)
        at true on = awake_stands on
        at false off = asleep_stands off
