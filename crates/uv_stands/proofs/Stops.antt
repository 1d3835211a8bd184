-- A timer is stopped.
use Rattle.uv_stands.proofs.ProofNames.{◌≡◌, ℕ, Bool, true, false, not, if◌then◌else◌, eqb, Some, refl, ap, ◌∙◌, subst, Id, success, HandleRecord, ListName, is_timer, without, record_at, TimerChange, TimerUndo, stopping, Timed, IsRescheduled, cleared, id_in, Place, without_id, stop, members, State, taken_off, stopped, IsReached, Content, Handle, Record, handle_of, By, IsFit, Image, Held, timed_of, OnlyTimed, Does, StandsFor}
use Rattle.uv_stands.proofs.Absent.{IsOn, timer_kind, held_handle, own_id, stays, ready_stays, not_of}
use Rattle.uv_stands.proofs.Holding.{slots_set, ids_kept}
use Rattle.uv_stands.proofs.Lists.{Listed, beside_lists, list_stays}
use Rattle.uv_stands.proofs.Single.{start_is, time_is}
use Rattle.uv_ids.specs.declared.code.Answer.TheVariants as answer
use Rattle.uv_ids.specs.declared.phase.Kind.TheVariants as kind
use Rattle.uv_records.specs.declared.lists.ListName.TheVariants as name
use Rattle.uv_records.specs.declared.lists.WatcherKind.TheVariants as watcher
use Rattle.uv_arena.specs.Image as arena
use Rattle.uv_memory.specs.Change as change
use Rattle.uv_stands.proofs.Retimed.{retimed, AreRetimed, stands_then, list_left, timers_are}
use Rattle.uv_stands.proofs.TakenOff.{timers_left, lists_left}

-- ids stay where one handle is rescheduled
pub ids_rescheduled : (i : Image Place) (n : Timed Content) (room : ℕ) (d : Id) (c : TimerChange) (u : TimerUndo)
    → IsRescheduled handle_of Handle room (timed_of i) n d c u → (x : ℕ) → id_in n.handles.arena x ≡ id_in i.arena x
ids_rescheduled i n room d c u x = search (ids_kept, held_handle)

module _ (i : Image Place) (n : Timed Content) (room : ℕ) (d : Id) (h : HandleRecord) (u : TimerUndo)
    (x : IsRescheduled handle_of Handle room (timed_of i) n d (stopping h) u) (s : State) (stands : StandsFor i s) (reached : IsReached s)
    (fit : IsFit i) (timer : is_timer h.kind ≡ true) where
  abbrev t : State
  t = stopped s d h

  there : record_at handle_of i.arena d ≡ Some h
  there = x.handles.there

  ids : (y : ℕ) → id_in n.handles.arena y ≡ id_in i.arena y
  ids = ids_rescheduled i n room d (stopping h) u x

  same_off : (l : ListName) → members t l ≡ members (taken_off s d h) l
  same_off l =
      let q = taken_off s d h in
      beside_lists q q.place q.names t.arena q.timers q.running q.time q.clock q.next_start q.stop_flag q.idled l

  -- one that doesn't close leaves its list
  left : h.closing ≡ false → (l : ListName) → Listed n.handles.arena t l
  left unclosed l = list_left i s stands n.handles.arena d ids t l (own_id i d h there)
      (x.handles.lists l
      ∙ ap (λ (b : Bool). if not b then without eqb (arena.members i.arena l) d.slot else arena.members i.arena l) unclosed)
      (same_off l ∙ lists_left i s stands reached d h there fit unclosed l)

  module _ (closing : h.closing ≡ true) where
    -- one that closes is on no list that it is taken off
    here : (l : ListName) → members t l ≡ members s l → Listed n.handles.arena t l
    here l same = list_stays i s stands n.handles.arena t l ids
        (x.handles.lists l
        ∙ ap (λ (b : Bool). if not b then without eqb (arena.members i.arena l) d.slot else arena.members i.arena l) closing)
        same

    off : (l : ListName) → (IsOn i l d → ⊥) → without_id (members s l) d ≡ members s l
    off l absent = stays i d h there s stands l absent

    of_timer : h.kind ≡ kind.Timer
    of_timer = timer_kind h.kind timer

    stayed : (l : ListName) → Listed n.handles.arena t l
    stayed name.Ready = here name.Ready (off name.Ready (ready_stays i d h there s stands reached closing))
    stayed name.Idle = here name.Idle (off name.Idle (not_of i d h there s stands reached of_timer watcher.Idle).0)
    stayed name.IdleYet = here name.IdleYet (off name.IdleYet (not_of i d h there s stands reached of_timer watcher.Idle).1)
    stayed name.Prepare = here name.Prepare (off name.Prepare (not_of i d h there s stands reached of_timer watcher.Prepare).0)
    stayed name.PrepareYet = here name.PrepareYet (off name.PrepareYet (not_of i d h there s stands reached of_timer watcher.Prepare).1)
    stayed name.Check = here name.Check (off name.Check (not_of i d h there s stands reached of_timer watcher.Check).0)
    stayed name.CheckYet = here name.CheckYet (off name.CheckYet (not_of i d h there s stands reached of_timer watcher.Check).1)
    stayed name.Async = here name.Async (off name.Async (not_of i d h there s stands reached of_timer watcher.Async).0)
    stayed name.AsyncYet = here name.AsyncYet (off name.AsyncYet (not_of i d h there s stands reached of_timer watcher.Async).1)
    stayed l = here l refl

  listed : (b : Bool) → h.closing ≡ b → (l : ListName) → Listed n.handles.arena t l
  listed true e = stayed e
  listed false e = left e

  pub stopped_retimed : AreRetimed (retimed i n) s t
  stopped_retimed = record {
    slots = slots_set i s n.handles.arena d (Handle (stopping h).to) stands x.handles.plain;
    lists = listed h.closing refl;
    timers = timers_are i s stands n.handles.arena d ids n.heap (cleared d.slot stands.timers.entries) t.timers
        (x.timers stands.timers.entries stands.timers.ordered) (timers_left i s stands reached d h there);
    time = ap (λ z. z.time) x.times ∙ (time_is stands);
    next_start = ap (λ z. z.next_start) x.times ∙ (start_is stands);
  }

pub stop_does : (r : Record Place) (h w : Held Place) (d : Id) (from : HandleRecord) (c : TimerChange) → IsFit h.image → is_timer from.kind ≡ true
    → OnlyTimed h.image w.image → c ≡ stopping from
    → By change.Timer (λ u. IsRescheduled handle_of Handle w.room (timed_of h.image) (timed_of w.image) d c u) r.change
    → Does (λ s. stop s d from) h.image w.image (answer.Code success)
stop_does r h w d from c fit timer frame is by s stands reached =
    let i = h.image in
    let n = timed_of w.image in
    let changed = subst (λ z. IsRescheduled handle_of Handle w.room (timed_of i) n d z by.undo) is by.does in (
      stopped s d from,
      refl,
      stands_then i w.image s (stopped s d from) frame stands refl
          (stopped_retimed i n w.room d from by.undo changed s stands reached fit timer),
    )
