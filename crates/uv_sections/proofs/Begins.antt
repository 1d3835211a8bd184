-- A section begins: what the memory stands for then.
use Rattle.uv_sections.proofs.Names.{◌≡◌, ℕ, [], refl, sym, ap, ◌∙◌, WatcherKind, list_of, yet_of, Walk, all_yet, SpliceUndo, IsSpliced, Place, State, watched, with_watched, refreshed, request_of, Image, working_of, OnlySlots, StandsFor, Listed, all_but_two, ids_moved, clock_is, time_is}
use Rattle.uv_records.specs.declared.lists.ListName.TheVariants as name
use Rattle.uv_arena.specs.Image as arena
use Rattle.uv_handle.specs.Watch as watch
use Rattle.uv_requests.specs.Calls as work
use Rattle.uv_sections.proofs.Keeping.{sections_kept, all_timers, listed_as, stands_then}
use Rattle.uv_sections.proofs.Watched.{list_is, list_now, yet_now, others_stay, arena_stays, time_stays, state_stays, beside_closing, beside_done}

module _ (i j : Image Place) where
  -- a section of watchers
  pub walk_begun : OnlySlots i j → (w : WatcherKind) (u : SpliceUndo) → watch.IsBegun i.arena j.arena w u
      → (s : State) → StandsFor i s → StandsFor j (with_watched s w (all_yet (watched s w)))
  walk_begun frame w u b s st =
      let q = all_yet (watched s w) in
      let t = with_watched s w q in
      let ids = ids_moved i.arena j.arena b.slots.plain in
      let here : Listed j.arena t (list_of w) =
      listed_as i.arena j.arena t (list_of w) [] [] ids refl (list_now s w q) (ap (λ (x : Walk ℕ). x.list) b.walk) in
      let there : Listed j.arena t (yet_of w) =
      listed_as i.arena j.arena t (yet_of w) (watched s w).list (arena.members i.arena (list_of w)) ids
      (sym (list_is s w) ∙ st.lists (list_of w)) (yet_now s w q) (ap (λ (x : Walk ℕ). x.yet) b.walk) in
      stands_then i j s t st frame (state_stays s w q) ((time_is st) ∙ sym (time_stays s w q))
      (b.slots.plain ∙ st.slots ∙ sym (arena_stays s w q))
      (all_but_two i s st j.arena t ids (list_of w) (yet_of w) b.others (others_stay s w q) here there)
      (all_timers i.arena j.arena s.timers ids)

  -- the closing section
  pub closing_begun : OnlySlots i j → (u : SpliceUndo) → IsSpliced i.arena j.arena name.Closing name.ClosingYet u
      → (s : State) → StandsFor i s → StandsFor j (record s { closing = all_yet s.closing })
  closing_begun frame u b s st =
      let q = all_yet s.closing in
      let t : State = record s { closing = q } in
      let ids = ids_moved i.arena j.arena b.slots.plain in
      let here : Listed j.arena t name.Closing = listed_as i.arena j.arena t name.Closing [] [] ids refl refl (b.rest (λ e. cc)) in
      let there : Listed j.arena t name.ClosingYet =
      listed_as i.arena j.arena t name.ClosingYet s.closing.list (arena.members i.arena name.Closing) ids (st.lists name.Closing) refl b.moved in
      stands_then i j s t st frame (sections_kept s s.arena s.watchers q s.done s.time)
      (time_is st) (b.slots.plain ∙ st.slots)
      (all_but_two i s st j.arena t ids name.Closing name.ClosingYet b.others (beside_closing s s.arena s.time q) here there)
      (all_timers i.arena j.arena s.timers ids)

  -- the requests that are done are yet to call back, and this is the loop's time
  done_at : (now time : ℕ) → j ≡ record i { arena = j.arena; times = record i.times { time = now } } → (u : SpliceUndo)
      → work.IsBegun request_of (working_of i) (working_of j) u
      → (s : State) → StandsFor i s → now ≡ time → StandsFor j (record s { time = time; done = all_yet s.done })
  done_at now time frame u b s st same =
      let q = all_yet s.done in
      let t : State = record s { time = time; done = q } in
      let ids = ids_moved i.arena j.arena b.slots.plain in
      let here : Listed j.arena t name.Done = listed_as i.arena j.arena t name.Done [] [] ids refl refl b.done in
      let there : Listed j.arena t name.DoneYet =
      listed_as i.arena j.arena t name.DoneYet s.done.list (arena.members i.arena name.Done) ids (st.lists name.Done) refl b.yet in
      stands_then i j s t st frame (sections_kept s s.arena s.watchers s.closing q time)
      same (b.slots.plain ∙ st.slots)
      (all_but_two i s st j.arena t ids name.Done name.DoneYet b.others (beside_done s s.arena time q) here there)
      (all_timers i.arena j.arena s.timers ids)

  -- the done section
  pub done_begun : OnlySlots i j → (u : SpliceUndo) → work.IsBegun request_of (working_of i) (working_of j) u
      → (s : State) → StandsFor i s → StandsFor j (record s { done = all_yet s.done })
  done_begun frame u b s st = done_at i.times.time s.time frame u b s st (time_is st)

  -- at the end of a poll the loop's time is that of the clock
  pub poll_left : j ≡ record i { arena = j.arena; times = record i.times { time = i.clock } } → (u : SpliceUndo)
      → work.IsBegun request_of (working_of i) (working_of j) u
      → (s : State) → StandsFor i s → StandsFor j (record (refreshed s) { done = all_yet s.done })
  poll_left frame u b s st = done_at i.clock s.clock frame u b s st (clock_is st)
