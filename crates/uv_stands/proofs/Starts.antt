-- A timer is started, and started again.
use Rattle.uv_stands.proofs.ProofNames.{◌≡◌, ℕ, ◌+◌, ◌==◌, ◌||◌, Bool, true, false, not, if◌then◌else◌, Option, Some, None, refl, sym, ap, ◌∙◌, subst, set-set, Id, Due, Code, success, start, again, Does, HandleRecord, ListName, is_timer, begun_at, invalid_if, only_if, start_timer_refusal, again_refusal, plain_slots, record_at, inserted, TimerChange, TimerUndo, becoming, set_at, starting, stopping, starting_again, Timed, IsRescheduled, cleared, id_in, Place, members, State, taken_off, stopped, started, restarted, due_after, IsReached, Record, Content, Handle, handle_of, By, IsFit, Image, Held, timed_of, OnlyTimed, StandsFor}
use Rattle.uv_stands.proofs.Absent.{own_id}
use Rattle.uv_stands.proofs.Holding.{slots_set}
use Rattle.uv_stands.proofs.Lists.{beside_lists}
use Rattle.uv_stands.proofs.Single.{start_is, time_is}
use Rattle.uv_ids.specs.declared.code.Answer.TheVariants as answer
use Rattle.uv_records.specs.Dues as dues
use Rattle.uv_records.specs.Handles as records
use Rattle.uv_memory.specs.Change as change
use Rattle.uv_stands.proofs.Entries.{entry_of}
use Rattle.uv_stands.proofs.Retimed.{retimed, OnlyTimers, AreRetimed, stands_then, list_left, timers_are}
use Rattle.uv_stands.proofs.Stops.{ids_rescheduled, stopped_retimed}
use Rattle.uv_stands.proofs.TakenOff.{timers_set, lists_left}

-- when a timer is due is the same in the memory and in the state
pub due_same : (i : Image Place) (s : State) (timeout : ℕ) → StandsFor i s
    → dues.due_after i.times.time i.times.next_start timeout ≡ due_after s timeout
due_same i s timeout stands = λ l. dues.due_after (stands.values l).time (stands.values l).next_start timeout

module _ (i : Image Place) (n : Timed Content) (room : ℕ) (d : Id) (h : HandleRecord) (timeout repeat : ℕ) (u : TimerUndo)
    (started_so : IsRescheduled handle_of Handle room (timed_of i) n d (starting i.times h timeout repeat) u) (s : State) (stands : StandsFor i s)
    (reached : IsReached s) (fit : IsFit i) (unclosed : h.closing ≡ false) where
  abbrev key : Due
  key = due_after s timeout

  abbrev t : State
  t = started (stopped s d h) d h timeout repeat

  x : IsRescheduled handle_of Handle room (timed_of i) n d (set_at key h repeat) u
  x = subst (λ (z : Due). IsRescheduled handle_of Handle room (timed_of i) n d (set_at z h repeat) u) (due_same i s timeout stands) started_so

  there : record_at handle_of i.arena d ≡ Some h
  there = x.handles.there

  ids : (y : ℕ) → id_in n.handles.arena y ≡ id_in i.arena y
  ids = ids_rescheduled i n room d (set_at key h repeat) u x

  same_off : (l : ListName) → members t l ≡ members (taken_off s d h) l
  same_off l =
      let q = taken_off s d h in
      beside_lists q q.place q.names t.arena t.timers q.running q.time q.clock t.next_start q.stop_flag q.idled l

  -- the record is written once in the memory, and twice in the state
  slots : plain_slots n.handles.arena ≡ t.arena
  slots =
      slots_set i s n.handles.arena d (Handle (begun_at key repeat h)) stands x.handles.plain
      ∙ ap (λ xs. record s.arena { slots = xs }) (sym (set-set s.arena.slots d.slot _ _))

  pub started_retimed : AreRetimed (retimed i n) s t
  started_retimed = record {
    slots = slots;
    lists = λ l. list_left i s stands n.handles.arena d ids t l (own_id i d h there) (x.handles.lists l)
        (same_off l ∙ lists_left i s stands reached d h there fit unclosed l);
    timers = timers_are i s stands n.handles.arena d ids n.heap (inserted (entry_of key d.slot) (cleared d.slot stands.timers.entries)) t.timers
        (x.timers stands.timers.entries stands.timers.ordered) (timers_set i s stands reached d h there reached.drawn key refl);
    time = ap (λ z. z.time) x.times ∙ (time_is stands);
    next_start = ap (λ z. z.next_start) x.times ∙ ap (λ z. z + 1) (start_is stands);
  }

-- ---- what isn't refused

valid : (b : Bool) → invalid_if b ≡ None → b ≡ false
valid true e = cc e
valid false e = refl

only_so : (b : Bool) (why : Option Code) → only_if b why ≡ None → (b ≡ true) × (why ≡ None)
only_so true why e = (refl, e)
only_so false why e = cc e

either_not : (a b : Bool) → (a || b) ≡ false → a ≡ false
either_not true b e = cc e
either_not false b e = refl

pub start_unclosed : (h : HandleRecord) → start_timer_refusal h ≡ None → h.closing ≡ false
start_unclosed h e = valid h.closing (only_so (is_timer h.kind) (invalid_if h.closing) e).1

pub again_unclosed : (h : HandleRecord) → again_refusal h ≡ None → h.closing ≡ false
again_unclosed h e =
    either_not h.closing (not h.begun) (valid (h.closing || not h.begun) (only_so (is_timer h.kind) (invalid_if (h.closing || not h.begun)) e).1)

again_timer : (h : HandleRecord) → again_refusal h ≡ None → is_timer h.kind ≡ true
again_timer h e = (only_so (is_timer h.kind) (invalid_if (h.closing || not h.begun)) e).0

-- ---- a start of a timer that is stopped

module _ (i : Image Place) (n : Timed Content) (room : ℕ) (d : Id) (h : HandleRecord) (u : TimerUndo) (s : State) (stands : StandsFor i s)
    (reached : IsReached s) (fit : IsFit i) (timer : is_timer h.kind ≡ true) (unclosed : h.closing ≡ false) where
  restarted_by : (b : Bool)
      → IsRescheduled handle_of Handle room (timed_of i) n d
      (if b then becoming h (records.stopped h) None else starting i.times h h.repeat h.repeat) u
      → AreRetimed (retimed i n) s (if b then stopped s d h else started (stopped s d h) d h h.repeat h.repeat)
  restarted_by true x =
      let leaves : becoming h (records.stopped h) None ≡ stopping h =
      ap (λ (b : Bool). (let c : TimerChange = record { from = h; to = records.stopped h; leaves = not b; due = None } in c))
      (sym unclosed) in
      stopped_retimed i n room d h u (subst (λ c. IsRescheduled handle_of Handle room (timed_of i) n d c u) leaves x) s stands reached fit timer
  restarted_by false x = started_retimed i n room d h h.repeat h.repeat u x s stands reached fit unclosed

  pub restarted_retimed : IsRescheduled handle_of Handle room (timed_of i) n d (starting_again i.times h) u
      → AreRetimed (retimed i n) s (restarted (stopped s d h) d h)
  restarted_retimed x = restarted_by (h.repeat == 0) x

only_restarted : (s : State) (d : Id) (h : HandleRecord) → OnlyTimers s (restarted (stopped s d h) d h)
only_restarted s d h = at (h.repeat == 0) where
  at : (b : Bool) → OnlyTimers s (if b then stopped s d h else started (stopped s d h) d h h.repeat h.repeat)
  at true = refl
  at false = refl

-- ---- the ops

module _ (r : Record Place) (h w : Held Place) (d : Id) (from : HandleRecord) (c : TimerChange) (fit : IsFit h.image)
    (frame : OnlyTimed h.image w.image)
    (by : By change.Timer (λ u. IsRescheduled handle_of Handle w.room (timed_of h.image) (timed_of w.image) d c u) r.change) where
  changed : (b : TimerChange) → c ≡ b → IsRescheduled handle_of Handle w.room (timed_of h.image) (timed_of w.image) d b by.undo
  changed b is = subst (λ z. IsRescheduled handle_of Handle w.room (timed_of h.image) (timed_of w.image) d z by.undo) is by.does

  pub start_does : (timeout repeat : ℕ) → start_timer_refusal from ≡ None → c ≡ starting h.image.times from timeout repeat
      → Does (λ s. start s timeout repeat d from) h.image w.image (answer.Code success)
  start_does timeout repeat allowed is s stands reached = (
    started (stopped s d from) d from timeout repeat,
    refl,
    stands_then h.image w.image s _ frame stands refl
        (started_retimed h.image (timed_of w.image) w.room d from timeout repeat by.undo (changed _ is) s stands reached fit
        (start_unclosed from allowed)),
  )

  pub restart_does : c ≡ starting_again h.image.times from → (s : State) → StandsFor h.image s → IsReached s → is_timer from.kind ≡ true
      → from.closing ≡ false → StandsFor w.image (restarted (stopped s d from) d from)
  restart_does is s stands reached timer unclosed = stands_then h.image w.image s _ frame stands (only_restarted s d from)
      (restarted_retimed h.image (timed_of w.image) w.room d from by.undo s stands reached fit timer unclosed (changed _ is))

  pub again_does : again_refusal from ≡ None → c ≡ starting_again h.image.times from
      → Does (λ s. again s d from) h.image w.image (answer.Code success)
  again_does allowed is s stands reached = (
    restarted (stopped s d from) d from,
    refl,
    restart_does is s stands reached (again_timer from allowed) (again_unclosed from allowed),
  )
