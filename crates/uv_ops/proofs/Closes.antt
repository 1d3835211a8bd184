-- A handle is closed.
use Rattle.uv_ops.proofs.Names.{◌≡◌, ◌≢◌, ℕ, Bool, true, false, ◌∷◌, map, Some, None, refl, sym, ap, ◌∙◌, subst, inl, inr, Id, success, HandleRecord, ListName, close_refusal, invalid_if, IsPushed, record_at, TimerUndo, becoming, Timed, with_arena, IsRescheduled, cleared, id_in, Place, close, closed, members, State, taken_off, IsReached, Content, Handle, Record, handle_of, By, IsShut, moved_by, IsFit, Image, Held, timed_of, OnlyTimed, Does, StandsFor, slots_set, map_same, Listed, list_is, ids_moved, own_id, start_is, time_is, ids_rescheduled}
use Rattle.uv_ids.specs.declared.code.Answer.TheVariants as answer
use Rattle.uv_records.specs.declared.lists.ListName.TheVariants as name
use Rattle.uv_records.specs.Handles as records
use Rattle.uv_arena.specs.Image as arena
use Rattle.uv_stands.proofs.Retimed.{retimed, AreRetimed, stands_then, list_left, timers_are}
use Rattle.uv_stands.proofs.TakenOff.{timers_left, lists_left}

-- except the closing list a handle that is closed is off its lists, and no more
closed_lists : (s : State) (d : Id) (h : HandleRecord) (l : ListName) → l ≢ name.Closing → members (closed s d h) l ≡ members (taken_off s d h) l
closed_lists s d h name.Closing ne = absurd (ne refl)
closed_lists s d h l ne = refl

unclosed_if : (b : Bool) → invalid_if b ≡ None → b ≡ false
unclosed_if true e = cc e
unclosed_if false e = refl

module _ (i : Image Place) (n : Timed Content) (mid : arena.Image Content) (room : ℕ) (d : Id) (h : HandleRecord) (u : TimerUndo)
    (x : IsRescheduled handle_of Handle room (timed_of i) (with_arena mid n) d (becoming h (records.closed h) None) u)
    (p : IsPushed mid n.handles.arena name.Closing d (d.slot ∷ arena.members mid name.Closing))
    (s : State) (stands : StandsFor i s) (reached : IsReached s) (fit : IsFit i) (unclosed : h.closing ≡ false) where
  abbrev t : State
  t = closed s d h

  there : record_at handle_of i.arena d ≡ Some h
  there = x.handles.there

  own : id_in i.arena d.slot ≡ d
  own = own_id i d h there

  ids_mid : (y : ℕ) → id_in mid y ≡ id_in i.arena y
  ids_mid = ids_rescheduled i (with_arena mid n) room d (becoming h (records.closed h) None) u x

  moved : (y : ℕ) → id_in n.handles.arena y ≡ id_in mid y
  moved = ids_moved mid n.handles.arena p.slots.plain

  ids : (y : ℕ) → id_in n.handles.arena y ≡ id_in i.arena y
  ids y = moved y ∙ ids_mid y

  off : (l : ListName) → Listed mid (taken_off s d h) l
  off l = list_left i s stands mid d ids_mid (taken_off s d h) l own (x.handles.lists l) (lists_left i s stands reached d h there fit unclosed l)

  -- it is at the front of those that close
  front : Listed n.handles.arena t name.Closing
  front =
      (λ l. sym (ids d.slot ∙ own) l ∷ off name.Closing l)
      ∙ ap (λ xs. id_in n.handles.arena d.slot ∷ xs) (sym (map_same (id_in n.handles.arena) (id_in mid) moved (arena.members mid name.Closing)))
      ∙ ap (map (id_in n.handles.arena)) (sym p.lists)

  other : (l : ListName) → l ≢ name.Closing → Listed n.handles.arena t l
  other l ne = closed_lists s d h l ne ∙ off l
      ∙ sym (map_same (id_in n.handles.arena) (id_in mid) moved (arena.members mid l))
      ∙ ap (map (id_in n.handles.arena)) (sym (p.others l ne))

  listed : (l : ListName) → Listed n.handles.arena t l
  listed l = elim (list_is l name.Closing) [ inl e ↦ subst (λ z. Listed n.handles.arena t z) (sym e) front | inr ne ↦ other l ne ]

  pub closed_retimed : AreRetimed (retimed i n) s t
  closed_retimed = record {
    slots = slots_set i s n.handles.arena d (Handle (records.closed h)) stands (p.slots.plain ∙ x.handles.plain);
    lists = listed;
    timers = timers_are i s stands n.handles.arena d ids n.heap (cleared d.slot stands.timers.entries) t.timers
        (x.timers stands.timers.entries stands.timers.ordered) (timers_left i s stands reached d h there);
    time = ap (λ z. z.time) x.times ∙ (time_is stands);
    next_start = ap (λ z. z.next_start) x.times ∙ (start_is stands);
  }

pub close_does : (r : Record Place) (h w : Held Place) (d : Id) (from : HandleRecord) → IsFit h.image → close_refusal from ≡ None
    → OnlyTimed h.image w.image → By moved_by (λ u. IsShut w.room (timed_of h.image) (timed_of w.image) d from u) r.change
    → Does (λ s. close s d from) h.image w.image (answer.Code success)
close_does r h w d from fit allowed frame by s stands reached =
    let x = by.does in (
      closed s d from,
      refl,
      stands_then h.image w.image s (closed s d from) frame stands refl
          (closed_retimed h.image (timed_of w.image) x.mid w.room d from by.undo.timer x.changed x.listed s stands reached fit
          (unclosed_if from.closing allowed)),
    )
