-- The front of the timers that are set aside is called: it is off their list, and set again if it repeats.
use Rattle.uv_sections.proofs.Names.{◌≡◌, ◌≢◌, inl, inr, ℕ, ◌+◌, ◌==◌, ◌&&◌, Bool, true, false, if◌then◌else◌, eqb, List, ◌∷◌, map, drop, slice_get, Option, Some, None, option_and_then, refl, sym, ap, ◌∙◌, subst, both_ways, eqb-true, set-set, same_Some, Id, Due, HandleRecord, ListName, Slot, is_timer, begun_at, without, IsFirst, IsIn, record_at, inserted, Times, TimerUndo, becoming, set_at, starting, firing, Timed, IsRescheduled, IsFired, NoneIsReady, cleared, id_in, set_back, Place, members, State, front, with_id, taken_off, with_timer, without_timer, started, restarted, due_after, IsReached, IsSetAside, Content, handle_of, Image, Held, timed_of, OnlyTimed, StandsFor, timer_in, state_handle, slots_set, map_same, Listed, all_but_one, beside_lists, record_there, front_there, FiresNone, IsOn, holds_it, has_it, start_is, time_is, OfEach, Var, entry_of, retimed, OnlyTimers, AreRetimed, stands_then, timers_are, due_same, inert_cleared, timers_set}
use Rattle.uv_work.specs.declared.content.Content.TheVariants.{Handle}
use Rattle.uv_records.specs.declared.lists.ListName.TheVariants as name
use Rattle.uv_records.specs.Slots as plain
use Rattle.uv_arena.specs.Image as arena
use Rattle.uv_stands.proofs.Stops.{ids_rescheduled}

-- the front of those that are set aside, of this name, is called, and set again if it repeats
abbrev pub Fires : Image Place → Image Place → Id → Var → Type 0
Fires i j d v = OfEach i (λ s. (h : HandleRecord) × (front s s.ready ≡ Some (d, h)) × (h.name ≡ v)
    × StandsFor j (restarted (record s { ready = drop 1 s.ready }) d h))

-- ---- what is written again stays

module _ {X : Type 0} where
  content_there : (t : Slot X) (d : Id) (v : X) → plain.held_in d t ≡ Some v → t ≡ record { generation = d.generation; content = Some v }
  content_there t d v = at (t.generation == d.generation) refl where
    at : (b : Bool) → (t.generation == d.generation) ≡ b → (if b then t.content else None) ≡ Some v
        → t ≡ record { generation = d.generation; content = Some v }
    at true e k = let same = eqb-true t.generation d.generation e in λ l. record { generation = same l; content = k l }
    at false e k = cc k

  slot_there : (ss : List (Slot X)) (d : Id) (v : X) → plain.held ss d ≡ Some v
      → slice_get ss d.slot ≡ Some (record { generation = d.generation; content = Some v })
  slot_there ss d v = at (slice_get ss d.slot) refl where
    at : (o : Option (Slot X)) → slice_get ss d.slot ≡ o → option_and_then (plain.held_in d) o ≡ Some v
        → slice_get ss d.slot ≡ Some (record { generation = d.generation; content = Some v })
    at None e k = cc k
    at (Some t) e k = e ∙ ap Some (content_there t d v k)

  pub held_again : (ss : List (Slot X)) (d : Id) (v : X) → plain.held ss d ≡ Some v → plain.with_held ss d v ≡ ss
  held_again ss d v e =
      let t : Slot X = record { generation = d.generation; content = Some v } in
      sym (set-set ss d.slot t t) ∙ set_back ss d.slot t t (slot_there ss d v e)

no_timer : (b : Bool) → (b && false) ≡ false
no_timer true = refl
no_timer false = refl

-- an inactive handle is off the order of timers already
off_inactive : (s : State) (d : Id) (h : HandleRecord) → h.active ≡ false → (taken_off s d h).timers ≡ s.timers
off_inactive s d h e =
    ap (λ (b : Bool). if is_timer h.kind && b then without_timer s.timers h.due else s.timers) e
    ∙ ap (λ (b : Bool). if b then without_timer s.timers h.due else s.timers) (no_timer (is_timer h.kind))

-- ---- the front is called

module _ (i : Image Place) (n : Timed Content) (room : ℕ) (d : Id) (h : HandleRecord) (u : TimerUndo) (first : IsFirst i.arena name.Ready d)
    (there : record_at handle_of i.arena d ≡ Some h) (s : State) (stands : StandsFor i s) (reached : IsReached s) where
  abbrev off : State
  off = record s { ready = drop 1 s.ready }

  ready : s.ready ≡ d ∷ map (id_in i.arena) first.rest
  ready = front_there i s name.Ready d stands first

  pub is_front : front s s.ready ≡ Some (d, h)
  is_front = ap (front s) ready ∙ ap (with_id d) (holds_it i d h there s stands)

  on : IsOn i name.Ready d
  on = subst (λ xs. IsIn d.slot xs) (sym first.is) (inl refl)

  inactive : h.active ≡ false
  inactive =
      let a : IsSetAside s d = reached.ready.each d (has_it i d h there s stands name.Ready on) in
      let same : a.its ≡ h = same_Some a.its h (sym a.holds ∙ holds_it i d h there s stands) in
      ap (λ (z : HandleRecord). z.active) (sym same) ∙ a.inactive

  unlisted : cleared d.slot stands.timers.entries ≡ stands.timers.entries
  unlisted = inert_cleared i s stands reached d h there (λ k a. both_ways h.active inactive a)

  others : (l : ListName) → l ≢ name.Ready → members off l ≡ members s l
  others name.Ready ne = absurd (ne refl)
  others l ne = refl

  module _ (ids : (x : ℕ) → id_in n.handles.arena x ≡ id_in i.arena x)
      (gone : (l : ListName) → arena.members n.handles.arena l ≡ without eqb (arena.members i.arena l) d.slot) where
    behind : Listed n.handles.arena off name.Ready
    behind =
        ap (drop 1) ready
        ∙ sym (map_same (id_in n.handles.arena) (id_in i.arena) ids first.rest)
        ∙ ap (map (id_in n.handles.arena)) (sym (gone name.Ready ∙ first.after))

    fired_lists : (l : ListName) → Listed n.handles.arena off l
    fired_lists = all_but_one i s stands n.handles.arena off ids name.Ready (λ l ne. gone l ∙ first.others l ne) others behind

  -- one that doesn't repeat
  fired_once : IsRescheduled handle_of Handle room (timed_of i) n d (becoming h h None) u → AreRetimed (retimed i n) s off
  fired_once x =
      let ids = ids_rescheduled i n room d (becoming h h None) u x in
      let a = s.arena in
      record {
        slots = slots_set i s n.handles.arena d (Handle h) stands x.handles.plain
            ∙ ap (λ xs. record a { slots = xs }) (held_again a.slots d (Handle h) (record_there i s d h stands there));
        lists = fired_lists ids x.handles.lists;
        timers = timers_are i s stands n.handles.arena d ids n.heap (cleared d.slot stands.timers.entries) s.timers
            (x.timers stands.timers.entries stands.timers.ordered)
            (stands.timers.same ∙ ap (map (timer_in i.arena)) (sym unlisted));
        time = ap (λ z. z.time) x.times ∙ (time_is stands);
        next_start = ap (λ z. z.next_start) x.times ∙ (start_is stands);
      }

  abbrev key : Due
  key = due_after s h.repeat

  abbrev again : State
  again = started off d h h.repeat h.repeat

  -- one that repeats is set again, from now
  fired_again : IsRescheduled handle_of Handle room (timed_of i) n d (starting i.times h h.repeat h.repeat) u → AreRetimed (retimed i n) s again
  fired_again started_so =
      let x = subst (λ (z : Due). IsRescheduled handle_of Handle room (timed_of i) n d (set_at z h h.repeat) u)
      (due_same i s h.repeat stands) started_so in
      let ids = ids_rescheduled i n room d (set_at key h h.repeat) u x in
      record {
        slots = slots_set i s n.handles.arena d (Handle (begun_at key h.repeat h)) stands x.handles.plain;
        lists = λ l. beside_lists off off.place off.names again.arena again.timers off.running off.time off.clock again.next_start off.stop_flag
            off.idled l ∙ fired_lists ids x.handles.lists l;
        timers = timers_are i s stands n.handles.arena d ids n.heap (inserted (entry_of key d.slot) (cleared d.slot stands.timers.entries))
            again.timers (x.timers stands.timers.entries stands.timers.ordered)
            (ap (λ ts. with_timer ts key d) (sym (off_inactive s d h inactive)) ∙ timers_set i s stands reached d h there reached.drawn key refl);
        time = ap (λ z. z.time) x.times ∙ (time_is stands);
        next_start = ap (λ z. z.next_start) x.times ∙ ap (λ z. z + 1) (start_is stands);
      }

  fired_by : (b : Bool)
      → IsRescheduled handle_of Handle room (timed_of i) n d (if b then becoming h h None else starting i.times h h.repeat h.repeat) u
      → AreRetimed (retimed i n) s (if b then off else again)
  fired_by true x = fired_once x
  fired_by false x = fired_again x

  pub fired_retimed : IsRescheduled handle_of Handle room (timed_of i) n d (firing i.times h) u → AreRetimed (retimed i n) s (restarted off d h)
  fired_retimed x = fired_by (h.repeat == 0) x

only_fired : (s : State) (d : Id) (h : HandleRecord) → OnlyTimers s (restarted (record s { ready = drop 1 s.ready }) d h)
only_fired s d h = at (h.repeat == 0) where
  at : (b : Bool)
      → OnlyTimers s (if b then record s { ready = drop 1 s.ready } else started (record s { ready = drop 1 s.ready }) d h h.repeat h.repeat)
  at true = refl
  at false = refl

from_firing : (times : Times) (h : HandleRecord) → (firing times h).from ≡ h
from_firing times h = at (h.repeat == 0) where
  at : (b : Bool) → (if b then becoming h h None else starting times h h.repeat h.repeat).from ≡ h
  at true = refl
  at false = refl

name_firing : (times : Times) (h : HandleRecord) → (firing times h).to.name ≡ h.name
name_firing times h = at (h.repeat == 0) where
  at : (b : Bool) → (if b then becoming h h None else starting times h h.repeat h.repeat).to.name ≡ h.name
  at true = refl
  at false = refl

module _ (h w : Held Place) (d : Id) (u : TimerUndo)
    (c : IsFired handle_of Handle w.room (timed_of h.image) (timed_of w.image) d u) where
  there : record_at handle_of h.image.arena d ≡ Some c.from
  there = c.changed.handles.there ∙ ap Some (from_firing h.image.times c.from)

  -- its name is that of the handle that is there afterwards
  fired_name : (now : HandleRecord) → record_at handle_of w.image.arena d ≡ Some now → c.from.name ≡ now.name
  fired_name now e =
      sym (name_firing h.image.times c.from)
      ∙ ap (λ (z : HandleRecord). z.name) (same_Some (firing h.image.times c.from).to now (sym c.changed.handles.handle ∙ e))

  pub timer_fires : OnlyTimed h.image w.image → (now : HandleRecord)
      → record_at handle_of w.image.arena d ≡ Some now → Fires h.image w.image d now.name
  timer_fires frame now e s stands reached =
      let i = h.image in
      let n = timed_of w.image in (
        c.from,
        is_front i n w.room d c.from u c.first there s stands reached,
        fired_name now e,
        stands_then i w.image s _ frame stands (only_fired s d c.from)
            (fired_retimed i n w.room d c.from u c.first there s stands reached c.changed),
      )

-- ---- none is ready

pub none_fires : (i : Image Place) → NoneIsReady handle_of i.arena → FiresNone i
none_fires i (inl e) s stands reached = ap (front s) (stands.lists name.Ready ∙ ap (map (id_in i.arena)) e)
none_fires i (inr t) s stands reached =
    ap (front s) (front_there i s name.Ready t.0 stands t.1) ∙ ap (with_id t.0) (state_handle i s t.0 stands ∙ t.2)
