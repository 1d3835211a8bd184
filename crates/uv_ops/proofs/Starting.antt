-- A watcher is started.
use Rattle.uv_ops.proofs.Names.{◌≡◌, ◌≢◌, ℕ, None, Some, false, ◌∷◌, map, if◌then◌else◌, refl, sym, ap, ◌∙◌, subst, Id, HandleRecord, ListName, WatcherKind, activated, list_of, watcher_kind, ListUndo, counted, record_at, IsEnlisted, IsStarted, id_in, id_is, Place, found_or, State, with_handle, succeeds, start_watcher, watcher_started, members, Content, Handle, Record, handle_of, By, Image, Held, counted_of, OnlyHandles, Does, StandsFor, map_same, Listed, all_but_one}
use Rattle.uv_ids.specs.declared.code.Code.TheVariants as code
use Rattle.uv_ids.specs.declared.code.Answer.TheVariants as answer
use Rattle.uv_records.specs.declared.lists.ListName.TheVariants as name
use Rattle.uv_records.specs.declared.lists.WatcherKind.TheVariants as watcher
use Rattle.uv_arena.specs.Image as arena
use Rattle.uv_handle.proofs.Counts as handles
use Rattle.uv_memory.specs.Change as change
use Rattle.uv_ops.proofs.Relisted.{same_ids, relisted_stands}

-- ---- the watcher was inactive

module _ (i : Image Place) (s : State) (h : StandsFor i s) (k : arena.Image Content) (m : ℕ) (d : Id) (from : HandleRecord) where
  module _ (l : ListName) (u : ListUndo) (c : IsEnlisted handle_of Handle (counted_of i) (counted k m) d from (activated from) l u) where
    ids : (x : ℕ) → id_in k x ≡ id_in i.arena x
    ids = same_ids i s h k m d from (activated from) c.there c.plain

    first : d ∷ members s l ≡ map (id_in k) (arena.members k l)
    first =
        let was = handles.content_of handle_of i.arena d from c.there in
        (λ j. (sym (id_is i.arena d was.0 was.1) ∙ sym (ids d.slot)) j ∷ h.lists l j)
        ∙ ap (λ xs. id_in k d.slot ∷ xs) (sym (map_same (id_in k) (id_in i.arena) ids (arena.members i.arena l)))
        ∙ ap (map (id_in k)) (sym c.lists)

    -- a state that differs in this list alone
    relisted : (t : State) → ((b : ListName) → b ≢ l → members t b ≡ members s b) → members t l ≡ d ∷ members s l → (b : ListName) → Listed k t b
    relisted t same here = all_but_one i s h k t ids l c.others same (here ∙ first)

  started_others : (kind : WatcherKind) (b : ListName) → b ≢ list_of kind → members (watcher_started s kind d from) b ≡ members s b
  started_others watcher.Idle name.Idle ne = absurd (ne refl)
  started_others watcher.Idle b ne = refl
  started_others watcher.Prepare name.Prepare ne = absurd (ne refl)
  started_others watcher.Prepare b ne = refl
  started_others watcher.Check name.Check ne = absurd (ne refl)
  started_others watcher.Check b ne = refl
  started_others watcher.Async name.Async ne = absurd (ne refl)
  started_others watcher.Async b ne = refl

  started_list : (kind : WatcherKind) → members (watcher_started s kind d from) (list_of kind) ≡ d ∷ members s (list_of kind)
  started_list watcher.Idle = refl
  started_list each = refl

  started_stands : (kind : WatcherKind) (u : ListUndo)
      → IsEnlisted handle_of Handle (counted_of i) (counted k m) d from (activated from) (list_of kind) u
      → StandsFor (record i { arena = k; active = m }) (watcher_started s kind d from)
  started_stands kind u c =
      relisted_stands i s h k m d from (activated from) c.there c.plain s.ready (watcher_started s kind d from).watchers s.closing
      (relisted (list_of kind) u c (watcher_started s kind d from) (started_others kind) (started_list kind))

-- ---- what the call does

pub starts : (r : Record Place) (h w : Held Place) → OnlyHandles h.image w.image → (d : Id) (from : HandleRecord)
    → record_at handle_of h.image.arena d ≡ Some from
    → By change.Enlisted (λ u. IsStarted handle_of Handle (counted_of h.image) (counted_of w.image) d u) r.change
    → Does (λ s. start_watcher s d from) h.image w.image (answer.Code code.Ok)
starts r h w frame d from there by s stands reached =
    let a = by.does in
    let one : a.from ≡ from = cc (a.enlisted.there, there) in
    let alone : State = with_handle s d (activated a.from) in (
      watcher_started s a.kind d a.from,
      ap (start_watcher s d) (sym one)
          ∙ ap (λ b. succeeds (if b then s else found_or (watcher_kind a.from.kind) (λ kind. watcher_started s kind d a.from) alone)) a.inactive
          ∙ ap (λ o. succeeds (found_or o (λ kind. watcher_started s kind d a.from) alone)) a.is_kind,
      subst (λ q. StandsFor q (watcher_started s a.kind d a.from)) (sym frame)
          (started_stands h.image s stands w.image.arena w.image.active d a.from a.kind by.undo a.enlisted),
    )

-- a handle of I/O is on no list
pub activates : (i j : Image Place) (d : Id) (from : HandleRecord) → from.active ≡ false → watcher_kind from.kind ≡ None
    → ((s : State) → StandsFor i s → StandsFor j (with_handle s d (activated from)))
    → Does (λ s. start_watcher s d from) i j (answer.Code code.Ok)
activates i j d from inactive none stands s h reached =
    let alone : State = with_handle s d (activated from) in (
      alone,
      ap (λ b. succeeds (if b then s else found_or (watcher_kind from.kind) (λ kind. watcher_started s kind d from) alone)) inactive
          ∙ ap (λ o. succeeds (found_or o (λ kind. watcher_started s kind d from) alone)) none,
      stands s h,
    )
