-- The lists that a handle isn't on, as the memory and the states that it stands for say.
use Rattle.uv_stands.proofs.ProofNames.{◌≡◌, inl, inr, ℕ, ◌||◌, Bool, true, false, List, [], ◌∷◌, ◌++◌, map, Some, refl, sym, ap, ◌∙◌, subst, both_ways, Id, Kind, HandleRecord, ListName, is_timer, same_itself, IsIn, without_none, record_at, id_in, IsHeld, id_is, content_of, Place, same_id, without_id, members, State, handle, has_id, IsActive, AreActive, IsClosing, IsReached, IsSetAside, Handle, handle_of, request_of, only_handle, IsFit, Image, StandsFor, WatcherKind, kind_as, list_of, yet_of}
use Rattle.uv_ids.specs.declared.phase.Kind.TheVariants as kind
use Rattle.uv_records.specs.declared.lists.ListName.TheVariants as name
use Rattle.uv_records.specs.declared.lists.WatcherKind.TheVariants as watcher
use Rattle.uv_arena.specs.Image as arena
use Rattle.uv_handle.proofs.Counts as handles
use Rattle.uv_model.specs.Content as model
use Rattle.uv_stands.proofs.Naming.{record_there}
use Rattle.uv_stands.proofs.Without.{without_ids}

-- ---- lists of ids

has_map : (f : ℕ → Id) (d : Id) → f d.slot ≡ d → (xs : List ℕ) → IsIn d.slot xs → has_id (map f xs) d ≡ true
has_map f d one [] h = absurd h
has_map f d one (x ∷ xs) (inl e) = ap (λ b. b || has_id (map f xs) d) (ap (λ z. same_id z d) (ap f (sym e) ∙ one) ∙ same_itself d)
has_map f d one (x ∷ xs) (inr h) = at (same_id (f x) d) (has_map f d one xs h) where
  at : (b : Bool) → has_id (map f xs) d ≡ true → (b || has_id (map f xs) d) ≡ true
  at true e = refl
  at false e = e

-- a member of one of two lists
pub has_first : (xs ys : List Id) (d : Id) → has_id xs d ≡ true → has_id (xs ++ ys) d ≡ true
has_first [] ys d e = cc e
has_first (x ∷ xs) ys d e = at (same_id x d) e (has_first xs ys d) where
  at : (b : Bool) → (b || has_id xs d) ≡ true → (has_id xs d ≡ true → has_id (xs ++ ys) d ≡ true) → (b || has_id (xs ++ ys) d) ≡ true
  at true e rest = refl
  at false e rest = rest e

pub has_second : (xs ys : List Id) (d : Id) → has_id ys d ≡ true → has_id (xs ++ ys) d ≡ true
has_second [] ys d e = e
has_second (x ∷ xs) ys d e = at (same_id x d) (has_second xs ys d e) where
  at : (b : Bool) → has_id (xs ++ ys) d ≡ true → (b || has_id (xs ++ ys) d) ≡ true
  at true k = refl
  at false k = k

-- ---- kinds

pub timer_kind : (k : Kind) → is_timer k ≡ true → k ≡ kind.Timer
timer_kind kind.Timer e = refl
timer_kind each e = cc e

-- the slot of an id is on this list
abbrev pub IsOn : Image Place → ListName → Id → Type 0
IsOn i l d = IsIn d.slot (arena.members i.arena l)

module _ (i : Image Place) (d : Id) (h : HandleRecord) (there : record_at handle_of i.arena d ≡ Some h) where
  pub held_handle : arena.held i.arena d ≡ Some (Handle h)
  held_handle =
      let c = handles.content_of handle_of i.arena d h there in c.1 ∙ ap Some (only_handle c.0 h c.2)

  pub own_id : id_in i.arena d.slot ≡ d
  own_id = id_is i.arena d (Handle h) held_handle

  -- a handle is no request
  no_request : (b : Bool) → IsHeld request_of i.arena (id_in i.arena d.slot) b → ⊥
  no_request b q =
      let r : IsHeld request_of i.arena d b = subst (λ (z : Id). IsHeld request_of i.arena z b) own_id q in
      let c = content_of request_of i.arena d r.request r.is in
      let one : request_of (Handle h) ≡ Some r.request = ap request_of (let o : Handle h ≡ c.0 = cc (held_handle, c.1) in o) ∙ c.2 in
      cc one

  module _ (fit : IsFit i) where
    pub not_waiting : IsOn i name.Waiting d → ⊥
    not_waiting on = no_request true (fit.work.waiting d.slot on)

    pub not_done : IsOn i name.Done d → ⊥
    not_done on = no_request false (fit.work.done d.slot on)

    pub not_done_yet : IsOn i name.DoneYet d → ⊥
    not_done_yet on = no_request false (fit.work.yet d.slot on)

  module _ (s : State) (stands : StandsFor i s) where
    pub holds_it : handle s d ≡ Some h
    holds_it = ap model.handle_in (record_there i s d h stands there)

    pub has_it : (l : ListName) → IsOn i l d → has_id (members s l) d ≡ true
    has_it l on = ap (λ ids. has_id ids d) (stands.lists l) ∙ has_map (id_in i.arena) d own_id (arena.members i.arena l) on

    -- off a list that it isn't on
    pub stays : (l : ListName) → (IsOn i l d → ⊥) → without_id (members s l) d ≡ members s l
    stays l off =
        ap (λ ids. without_id ids d) (stands.lists l)
        ∙ without_ids (id_in i.arena) d (λ x. refl) own_id (arena.members i.arena l)
        ∙ ap (map (id_in i.arena)) (without_none (arena.members i.arena l) d.slot off)
        ∙ sym (stands.lists l)

    module _ (reached : IsReached s) where
      closes_not : h.closing ≡ false → IsClosing s d → ⊥
      closes_not e c =
          let same : c.its ≡ h = cc (c.holds, holds_it) in
          both_ways h.closing e (ap (λ (z : HandleRecord). z.closing) (sym same) ∙ c.closing)

      pub not_closing : h.closing ≡ false → IsOn i name.Closing d → ⊥
      not_closing e on = closes_not e (reached.closing.each d (has_first s.closing.list s.closing.yet d (has_it name.Closing on)))

      pub not_closing_yet : h.closing ≡ false → IsOn i name.ClosingYet d → ⊥
      not_closing_yet e on = closes_not e (reached.closing.each d (has_second s.closing.list s.closing.yet d (has_it name.ClosingYet on)))

      aside : IsOn i name.Ready d → IsSetAside s d
      aside on = reached.ready.each d (has_it name.Ready on)

      pub ready_inactive : h.active ≡ true → IsOn i name.Ready d → ⊥
      ready_inactive e on =
          let a = aside on in
          let same : a.its ≡ h = cc (a.holds, holds_it) in
          both_ways h.active (ap (λ (z : HandleRecord). z.active) (sym same) ∙ a.inactive) e

      pub ready_stays : h.closing ≡ true → IsOn i name.Ready d → ⊥
      ready_stays e on =
          let a = aside on in
          let same : a.its ≡ h = cc (a.holds, holds_it) in
          both_ways h.closing (ap (λ (z : HandleRecord). z.closing) (sym same) ∙ a.stays) e

      -- an active handle doesn't close
      pub active_open : h.active ≡ true → h.closing ≡ false
      active_open active = at h.closing refl where
        at : (b : Bool) → h.closing ≡ b → b ≡ false
        at true e = absurd (both_ways h.active (reached.shut d h holds_it e) active)
        at false e = refl

      kind_of : (k : Kind) → IsActive s k d → h.kind ≡ k
      kind_of k a = let same : a.its ≡ h = cc (a.holds, holds_it) in ap (λ (z : HandleRecord). z.kind) (sym same) ∙ a.kind

      -- on neither list of another kind of watchers
      off_both : (k : Kind) (a b : ListName) → AreActive s k (members s a ++ members s b) → (h.kind ≡ k → ⊥) → (IsOn i a d → ⊥) × (IsOn i b d → ⊥)
      off_both k a b act other = (
        (λ on. other (kind_of k (act.each d (has_first (members s a) (members s b) d (has_it a on))))),
        (λ on. other (kind_of k (act.each d (has_second (members s a) (members s b) d (has_it b on))))),
      )

      module _ (timer : h.kind ≡ kind.Timer) where
        pub not_of : (q : WatcherKind) → (IsOn i (list_of q) d → ⊥) × (IsOn i (yet_of q) d → ⊥)
        not_of watcher.Idle = off_both kind.Idle name.Idle name.IdleYet (reached.watchers watcher.Idle) (λ e. cc (e, timer))
        not_of q = off_both (kind_as q) (list_of q) (yet_of q) (reached.watchers q) (λ e. cc (e, timer))

        -- nor is it on any list, where it isn't set aside and doesn't close
        pub not_watched : (l : ListName) → (IsOn i name.Ready d → ⊥) → (IsOn i name.Closing d → ⊥) → (IsOn i name.ClosingYet d → ⊥) → IsFit i
            → IsOn i l d → ⊥
        not_watched name.Ready ready closing yet fit on = ready on
        not_watched name.Idle ready closing yet fit on = (not_of watcher.Idle).0 on
        not_watched name.IdleYet ready closing yet fit on = (not_of watcher.Idle).1 on
        not_watched name.Prepare ready closing yet fit on = (not_of watcher.Prepare).0 on
        not_watched name.PrepareYet ready closing yet fit on = (not_of watcher.Prepare).1 on
        not_watched name.Check ready closing yet fit on = (not_of watcher.Check).0 on
        not_watched name.CheckYet ready closing yet fit on = (not_of watcher.Check).1 on
        not_watched name.Async ready closing yet fit on = (not_of watcher.Async).0 on
        not_watched name.AsyncYet ready closing yet fit on = (not_of watcher.Async).1 on
        not_watched name.Closing ready closing yet fit on = closing on
        not_watched name.ClosingYet ready closing yet fit on = yet on
        not_watched name.Waiting ready closing yet fit on = not_waiting fit on
        not_watched name.Done ready closing yet fit on = not_done fit on
        not_watched name.DoneYet ready closing yet fit on = not_done_yet fit on

-- an active timer is on no list
pub absent_active : (i : Image Place) (d : Id) (h : HandleRecord) (there : record_at handle_of i.arena d ≡ Some h) → IsFit i → (s : State)
    → StandsFor i s → IsReached s → h.kind ≡ kind.Timer → h.active ≡ true → (l : ListName) → IsOn i l d → ⊥
absent_active i d h there fit s stands reached timer active l =
    let unclosed = active_open i d h there s stands reached active in
    not_watched i d h there s stands reached timer l (ready_inactive i d h there s stands reached active)
    (not_closing i d h there s stands reached unclosed) (not_closing_yet i d h there s stands reached unclosed) fit
