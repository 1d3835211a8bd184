-- The front of those that end is gone, and its slot is free: what the memory stands for then.
use Rattle.uv_sections.proofs.Names.{◌≡◌, ◌++◌, ◌∷◌, ℕ, eqb, Bool, ◌||◌, List, [], map, drop, Some, inl, inr, true, false, refl, sym, ap, ◌∙◌, subst, eq-eqb, Id, Due, HandleRecord, ListName, freed, without, plain_slots, TakeUndo, IsTaken, Request, CollectWorkUndo, IsCollected, Working, id_in, Place, same_id, State, with_id, front_request, IsTimer, has_id, IsReached, Content, Asked, handle_of, request_of, Image, counted_of, working_of, OnlyHandles, OnlyWork, StandsFor, list_is, asked_there, front_there, RequestGone, HandleGone, time_is, option_and_then}
use Rattle.uv_records.specs.declared.lists.ListName.TheVariants as name
use Rattle.uv_arena.specs.Image as arena
use Rattle.uv_model.specs.Content as model
use Rattle.uv_work.specs.declared.content.Content.TheVariants.{Handle}
use Rattle.uv_sections.proofs.Keeping.{touched, sections_kept, stands_then}
use Rattle.uv_sections.proofs.Frees.{freed_slots, freed_lists, freed_timers}
use Rattle.uv_sections.proofs.Firsts.{front_is}
use Rattle.uv_sections.proofs.Watched.{beside_closing_yet, beside_done_yet}

-- an id in the middle of a list is on it
itself : (d : Id) → same_id d d ≡ true
itself d = rw (eq-eqb d.slot d.slot refl, eq-eqb d.generation d.generation refl) refl

in_middle : (xs ys : List Id) (d : Id) → has_id (xs ++ d ∷ ys) d ≡ true
in_middle [] ys d = rw (itself d) refl
in_middle (x ∷ xs) ys d = at (same_id x d) (in_middle xs ys d) where
  at : (b : Bool) → has_id (xs ++ d ∷ ys) d ≡ true → (b || has_id (xs ++ d ∷ ys) d) ≡ true
  at true on = refl
  at false on = on

module _ (i j : Image Place) (last : ℕ) (so : i.arena.last ≡ last) (d : Id) where
  -- ---- a request

  module _ (frame : OnlyWork i j) (q : Request) (u : CollectWorkUndo)
      (c : IsCollected request_of Asked (working_of i) (working_of j) d q u) where
    off_done : (l : ListName) → arena.members j.arena l ≡ without eqb (arena.members i.arena l) d.slot
    off_done l = elim (list_is l name.DoneYet) [
      | inl e ↦ subst (λ x. arena.members j.arena x ≡ without eqb (arena.members i.arena x) d.slot) (sym e) (c.yet ∙ sym c.first.after)
      | inr ne ↦ c.others l ne ∙ sym (c.first.others l ne)
    ]

    freed_done : plain_slots j.arena ≡ freed last d (plain_slots i.arena)
    freed_done = c.plain ∙ ap (λ n. freed n d (plain_slots i.arena)) so

    kept : j ≡ touched i j.arena i.active j.running.count i.times.time
    kept =
        let workers : j.running.workers ≡ i.running.workers = ap (λ (z : Working Content). z.running.workers) c.undone in
        frame ∙ (λ l. record i { arena = j.arena; running = record { workers = workers l; count = j.running.count } })

    pub request_gone : (s : State) → StandsFor i s → IsReached s → RequestGone last j s d q
    request_gone s st reached =
        let asks = asked_there i s d q st c.was in
        let a = freed last d s.arena in
        let t : State = record s { arena = a; done = record s.done { yet = drop 1 s.done.yet } } in
        let no_timer : (due : Due) → IsTimer s due d → ⊥ = λ due timer.
        (let none = sym (ap model.handle_in asks) ∙ timer.holds in cc) in
        record {
          front = ap (front_request s) (front_there i s name.DoneYet d st c.first) ∙ ap (λ o. with_id d (model.request_in o)) asks;
          stands = stands_then i j s t st kept
              (sections_kept s a s.watchers s.closing (record s.done { yet = drop 1 s.done.yet }) s.time)
              (time_is st)
              (freed_slots i s st j.arena last d name.DoneYet c.first freed_done off_done)
              (freed_lists i s st j.arena last d name.DoneYet c.first freed_done off_done t (beside_done_yet s a (drop 1 s.done.yet)) refl)
              (freed_timers i s st j.arena last d name.DoneYet c.first freed_done off_done reached no_timer);
        }

  -- ---- a handle

  module _ (frame : OnlyHandles i j) (q : HandleRecord) (u : TakeUndo)
      (c : IsTaken handle_of Handle (counted_of i) (counted_of j) d (Handle q) u) where
    freed_closing : plain_slots j.arena ≡ freed last d (plain_slots i.arena)
    freed_closing = c.plain ∙ ap (λ n. freed n d (plain_slots i.arena)) so

    -- it closes, so it is no active timer
    no_timer : (s : State) → StandsFor i s → IsReached s → (due : Due) → IsTimer s due d → ⊥
    no_timer s st reached due timer =
        let front = front_there i s name.ClosingYet d st c.first in
        let on : has_id (s.closing.list ++ s.closing.yet) d ≡ true =
        ap (λ ids. has_id (s.closing.list ++ ids) d) front ∙ in_middle s.closing.list (map (id_in i.arena) c.first.rest) d in
        let closes = reached.closing.each d on in
        let off : closes.its.active ≡ false = reached.shut d closes.its closes.holds closes.closing in
        let same : Some closes.its ≡ Some timer.its = sym closes.holds ∙ timer.holds in
        let active = timer.active in
        cc

    pub handle_gone : (s : State) → StandsFor i s → IsReached s → HandleGone last j s d q
    handle_gone s st reached =
        let a = freed last d s.arena in
        let t : State = record s { arena = a; closing = record s.closing { yet = drop 1 s.closing.yet } } in
        record {
          front = front_is i s st name.ClosingYet d (Some q) c.first (ap (option_and_then handle_of) c.was);
          stands = stands_then i j s t st frame
              (sections_kept s a s.watchers (record s.closing { yet = drop 1 s.closing.yet }) s.done s.time)
              (time_is st)
              (freed_slots i s st j.arena last d name.ClosingYet c.first freed_closing c.lists)
              (freed_lists i s st j.arena last d name.ClosingYet c.first freed_closing c.lists t
              (beside_closing_yet s a (drop 1 s.closing.yet)) refl)
              (freed_timers i s st j.arena last d name.ClosingYet c.first freed_closing c.lists reached (no_timer s st reached));
        }
