-- A watcher that isn't active is on no list.
use Rattle.uv_stands.proofs.ProofNames.{◌≡◌, Bool, true, false, Some, None, refl, ap, ◌∙◌, Id, Kind, HandleRecord, ListName, start_watcher_refusal, only_if, invalid_if, is_startable, IsSound, on_list, record_at, Place, State, handle, members, has_id, IsActive, IsReached, handle_of, IsFit, Image, StandsFor, WatcherKind, kind_as, watched, ◌++◌}
use Rattle.uv_ids.specs.declared.phase.Kind.TheVariants as kind
use Rattle.uv_records.specs.declared.lists.ListName.TheVariants as name
use Rattle.uv_records.specs.declared.lists.WatcherKind.TheVariants as watcher
use Rattle.uv_stands.proofs.Onto.{listed_somewhere}
use Rattle.uv_stands.proofs.Absent.{IsOn, has_first, has_second, holds_it, has_it, not_waiting, not_done, not_done_yet}

-- ---- who may be started

no_timer : (k : Kind) (b : Bool) → k ≡ kind.Timer → only_if (is_startable k) (invalid_if b) ≡ None → ⊥
no_timer k b e r = cc

none_closes : (w b : Bool) → b ≡ true → only_if w (invalid_if b) ≡ None → ⊥
none_closes true true e r = cc
none_closes false true e r = cc
none_closes w false e r = cc

module _ (i : Image Place) (s : State) (stands : StandsFor i s) (reached : IsReached s) (fit : IsFit i) (d : Id) (h : HandleRecord)
    (there : record_at handle_of i.arena d ≡ Some h) where
  mine : handle s d ≡ Some h
  mine = holds_it i d h there s stands

  has : (l : ListName) → IsOn i l d → has_id (members s l) d ≡ true
  has l on = has_it i d h there s stands l on

  idles : (k : Kind) → h.active ≡ false → IsActive s k d → ⊥
  idles k rests a = let same : h ≡ a.its = cc (mine, a.holds) in let on = ap (λ (z : HandleRecord). z.active) same in cc (rests, on, a.active)

  watches : (q : WatcherKind) → h.active ≡ false → has_id ((watched s q).list ++ (watched s q).yet) d ≡ true → ⊥
  watches q rests on = idles (kind_as q) rests ((reached.watchers q).each d on)

  on_none : start_watcher_refusal h ≡ None → h.active ≡ false → (l : ListName) → IsOn i l d → ⊥
  on_none may rests name.Ready on =
      let a = reached.ready.each d (has name.Ready on) in
      let same : h ≡ a.its = cc (mine, a.holds) in no_timer h.kind h.closing (ap (λ (z : HandleRecord). z.kind) same ∙ a.kind) may
  on_none may rests name.Idle on = watches watcher.Idle rests (has_first s.watchers.idle.list s.watchers.idle.yet d (has name.Idle on))
  on_none may rests name.IdleYet on = watches watcher.Idle rests (has_second s.watchers.idle.list s.watchers.idle.yet d (has name.IdleYet on))
  on_none may rests name.Prepare on = watches watcher.Prepare rests (has_first s.watchers.prepare.list s.watchers.prepare.yet d (has name.Prepare on))
  on_none may rests name.PrepareYet on =
      watches watcher.Prepare rests (has_second s.watchers.prepare.list s.watchers.prepare.yet d (has name.PrepareYet on))
  on_none may rests name.Check on = watches watcher.Check rests (has_first s.watchers.check.list s.watchers.check.yet d (has name.Check on))
  on_none may rests name.CheckYet on = watches watcher.Check rests (has_second s.watchers.check.list s.watchers.check.yet d (has name.CheckYet on))
  on_none may rests name.Async on = watches watcher.Async rests (has_first s.watchers.async.list s.watchers.async.yet d (has name.Async on))
  on_none may rests name.AsyncYet on = watches watcher.Async rests (has_second s.watchers.async.list s.watchers.async.yet d (has name.AsyncYet on))
  on_none may rests name.Closing on =
      let a = reached.closing.each d (has_first s.closing.list s.closing.yet d (has name.Closing on)) in
      let same : h ≡ a.its = cc (mine, a.holds) in
      none_closes (is_startable h.kind) h.closing (ap (λ (z : HandleRecord). z.closing) same ∙ a.closing) may
  on_none may rests name.ClosingYet on =
      let a = reached.closing.each d (has_second s.closing.list s.closing.yet d (has name.ClosingYet on)) in
      let same : h ≡ a.its = cc (mine, a.holds) in
      none_closes (is_startable h.kind) h.closing (ap (λ (z : HandleRecord). z.closing) same ∙ a.closing) may
  on_none may rests name.Waiting on = not_waiting i d h there fit on
  on_none may rests name.Done on = not_done i d h there fit on
  on_none may rests name.DoneYet on = not_done_yet i d h there fit on

  pub idle_loose : IsSound i.arena → start_watcher_refusal h ≡ None → h.active ≡ false → on_list i.arena d ≡ false
  idle_loose sound may rests = at (on_list i.arena d) refl where
    at : (b : Bool) → on_list i.arena d ≡ b → b ≡ false
    at true e = let l = listed_somewhere i.arena sound d e in absurd (on_none may rests l.0 l.1)
    at false e = refl
