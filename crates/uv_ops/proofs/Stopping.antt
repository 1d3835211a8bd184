-- A watcher is stopped. The memory takes its slot off the list that it is on, unless it is closing; the state takes its id off each list that it
-- could be called from.
use Rattle.uv_ops.proofs.Names.{◌≡◌, ℕ, ◌++◌, ◌&&◌, true, false, if◌then◌else◌, eqb, List, map, Some, refl, sym, ap, ◌∙◌, subst, Id, Kind, HandleRecord, ListName, is_timer, without, DelistUndo, counted, record_at, IsStopped, id_in, Place, without_id, watchers_without_id, State, with_handle, without_timer, stop, succeeds, members, has_id, AreActive, IsReached, Content, Handle, Record, handle_of, By, IsFit, Image, Held, counted_of, OnlyHandles, Does, StandsFor, map_same, IsOn, has_first, has_second, own_id, holds_it, has_it, ready_stays, not_waiting, not_done, not_done_yet, not_closing, not_closing_yet, without_ids, Listed}
use Rattle.uv_ids.specs.declared.code.Code.TheVariants as code
use Rattle.uv_ids.specs.declared.code.Answer.TheVariants as answer
use Rattle.uv_ids.specs.declared.phase.Kind.TheVariants as kind
use Rattle.uv_records.specs.declared.lists.ListName.TheVariants as name
use Rattle.uv_records.specs.declared.lists.WatcherKind.TheVariants as watcher
use Rattle.uv_records.specs.Handles as records
use Rattle.uv_arena.specs.Image as arena
use Rattle.uv_memory.specs.Change as change
use Rattle.uv_ops.proofs.Relisted.{IsList, same_ids, relisted_stands}
use Rattle.uv_ops.proofs.Leaving.{gone, kept}

module _ (i : Image Place) (s : State) (h : StandsFor i s) (d : Id) (from : HandleRecord) (there : record_at handle_of i.arena d ≡ Some from) where
  -- a handle that closes isn't active
  idle_closing : IsReached s → (k : Kind) (ids : List Id) → AreActive s k ids → from.closing ≡ true → has_id ids d ≡ true → ⊥
  idle_closing reached k ids a closing on =
      let its = a.each d on in
      let holds = holds_it i d from there s h in
      let off = reached.shut d from holds closing in
      cc (its.holds, holds, its.active, off)

  -- ---- the lists afterwards

  module _ (reached : IsReached s) (fit : IsFit i) (k : arena.Image Content) (m : ℕ) (u : DelistUndo)
      (c : IsStopped handle_of Handle (counted_of i) (counted k m) d from u) where
    ids : (x : ℕ) → id_in k x ≡ id_in i.arena x
    ids = same_ids i s h k m d from (records.stopped from) c.there c.plain

    map_ids : (xs : List ℕ) → map (id_in i.arena) xs ≡ map (id_in k) xs
    map_ids xs = sym (map_same (id_in k) (id_in i.arena) ids xs)

    -- a list that the state takes it off
    off : (l : ListName) → (from.closing ≡ true → IsOn i l d → ⊥) → IsList k (without_id (members s l) d) l
    off l none =
        let was = arena.members i.arena l in
        ap (λ xs. without_id xs d) (h.lists l)
        ∙ without_ids (id_in i.arena) d (λ x. refl) (own_id i d from there) was
        ∙ map_ids (without eqb was d.slot)
        ∙ ap (map (id_in k)) (sym (gone from.closing was (arena.members k l) d.slot none (c.lists l)))

    -- a list that it isn't taken off
    stays : (l : ListName) → (from.closing ≡ false → IsOn i l d → ⊥) → IsList k (members s l) l
    stays l none =
        let was = arena.members i.arena l in
        h.lists l ∙ map_ids was ∙ ap (map (id_in k)) (sym (kept from.closing was (arena.members k l) d.slot none (c.lists l)))

    off_both : (x : Kind) (a b : ListName) → AreActive s x (members s a ++ members s b)
        → IsList k (without_id (members s a) d) a × IsList k (without_id (members s b) d) b
    off_both x a b act =
        let none = idle_closing reached x (members s a ++ members s b) act in
        let has = has_it i d from there s h in (
          off a (λ e on. none e (has_first (members s a) (members s b) d (has a on))),
          off b (λ e on. none e (has_second (members s a) (members s b) d (has b on))),
        )

    abbrev pub state_after : State
    state_after = record (with_handle s d (records.stopped from)) {
      ready = without_id s.ready d;
      watchers = watchers_without_id s.watchers d;
    }

    listed : (l : ListName) → Listed k state_after l
    listed name.Ready = off name.Ready (ready_stays i d from there s h reached)
    listed name.Idle = (off_both kind.Idle name.Idle name.IdleYet (reached.watchers watcher.Idle)).0
    listed name.IdleYet = (off_both kind.Idle name.Idle name.IdleYet (reached.watchers watcher.Idle)).1
    listed name.Prepare = (off_both kind.Prepare name.Prepare name.PrepareYet (reached.watchers watcher.Prepare)).0
    listed name.PrepareYet = (off_both kind.Prepare name.Prepare name.PrepareYet (reached.watchers watcher.Prepare)).1
    listed name.Check = (off_both kind.Check name.Check name.CheckYet (reached.watchers watcher.Check)).0
    listed name.CheckYet = (off_both kind.Check name.Check name.CheckYet (reached.watchers watcher.Check)).1
    listed name.Async = (off_both kind.Async name.Async name.AsyncYet (reached.watchers watcher.Async)).0
    listed name.AsyncYet = (off_both kind.Async name.Async name.AsyncYet (reached.watchers watcher.Async)).1
    listed name.Closing = stays name.Closing (not_closing i d from there s h reached)
    listed name.ClosingYet = stays name.ClosingYet (not_closing_yet i d from there s h reached)
    listed name.Waiting = stays name.Waiting (λ e. not_waiting i d from there fit)
    listed name.Done = stays name.Done (λ e. not_done i d from there fit)
    listed name.DoneYet = stays name.DoneYet (λ e. not_done_yet i d from there fit)

    pub stopped_stands : StandsFor (record i { arena = k; active = m }) state_after
    stopped_stands = relisted_stands i s h k m d from (records.stopped from) c.there c.plain (without_id s.ready d)
        (watchers_without_id s.watchers d) s.closing listed

    -- it is no timer
    pub stop_is : is_timer from.kind ≡ false → stop s d from ≡ record { state = state_after; answer = answer.Code code.Ok }
    stop_is no_timer =
        ap (λ b. succeeds (record state_after { timers = if b && from.active then without_timer s.timers from.due else s.timers })) no_timer

-- ---- what the call does

pub stops : (r : Record Place) (h w : Held Place) → OnlyHandles h.image w.image → IsFit h.image → (d : Id) (from : HandleRecord)
    → is_timer from.kind ≡ false → By change.Delisted (λ u. IsStopped handle_of Handle (counted_of h.image) (counted_of w.image) d from u) r.change
    → Does (λ s. stop s d from) h.image w.image (answer.Code code.Ok)
stops r h w frame fit d from no_timer by s stands reached =
    let c = by.does in
    let t = state_after h.image s stands d from c.there reached fit w.image.arena w.image.active by.undo c in (
      t,
      stop_is h.image s stands d from c.there reached fit w.image.arena w.image.active by.undo c no_timer,
      subst (λ q. StandsFor q t) (sym frame)
          (stopped_stands h.image s stands d from c.there reached fit w.image.arena w.image.active by.undo c),
    )
