-- What every step keeps: the lists and the handles agree. The order of timers has just the active ones, the ready list has inactive
-- timers, and the lists of watchers, async and closing handles have just those of their kind; no id stands twice on a list. A handle that
-- closes is inactive. The free slots are empty.
use Rattle.uv_order.proofs.Names.{◌≡◌, ℕ, zero, suc, ◌+◌, ◌==◌, ◌&&◌, ◌||◌, List, ◌∷◌, ◌++◌, Bool, true, false, Some, None, length, slice_get, slice_set, refl, ap, sym, subst, ◌∙◌, append_assoc, arith, if◌then◌else◌, not, option_and_then, cond_both, and_parts, both_ways, or_parts, eqb-true, eq-eqb, same_Some, filter-append, Id, Var, Due, Kind, HandleRecord, Slot, WatcherKind, inited, activated, begun_at, is_timer, is_async, Slots, held, taken, next_free, next_id, next_unused, id_of, Walk, Content, same_id, walk_without_id, State, handle, with_handle, without_timer, stopped, started, restarted, due_after, has_id, kind_as, Watchers, those_of, with_those_of, watchers_without_id, watched, with_watched, with_first, []}
use Rattle.uv_records.specs.Handles as records
use Rattle.uv_records.specs.Slots as arena
use Rattle.uv_model.specs.Ops as ops
use Rattle.uv_order.proofs.IdLists.{same, other, without_absent, without_itself}
use Rattle.uv_order.proofs.Contents.{slot_with, IsThere, Turns, set_turns, pushed_turns, get_set_other}
use Rattle.uv_order.proofs.Holding.{held_at, is_held, put, slot_of, SameHandles, Grown, grown, Lists, lists_put, lists_without, lists_grown, Everyone, everyone_put, everyone_without, everyone_more, everyone_grown, everyone_listed, IsSet, Times, times_put, times_without, times_with, times_grown, put_same, put_other}
use Rattle.uv_order.proofs.OpCases.{timer_kind}

-- ---- what is kept

-- an inactive timer
pub record Rests (h : HandleRecord) : Type 0 where
  pub kind : h.kind ≡ Kind.Timer
  pub inactive : h.active ≡ false
  pub stays : h.closing ≡ false

-- an active handle of this kind
pub record Watches (k : Kind) (h : HandleRecord) : Type 0 where
  pub kind : h.kind ≡ k
  pub active : h.active ≡ true

-- a handle that closes
abbrev pub Closes : HandleRecord → Type 0
Closes h = h.closing ≡ true

-- one that closes is inactive, and an async one that doesn't is active
pub record IsSound (h : HandleRecord) : Type 0 where
  pub shut : h.closing ≡ true → h.active ≡ false
  pub awake : h.kind ≡ Kind.Async → h.closing ≡ false → h.active ≡ true

abbrev pub AllSound : List (Slot Content) → Type 0
AllSound slots = (id : Id) (h : HandleRecord) → held_at slots id ≡ Some h → IsSound h

-- a slot was used and is empty
pub record IsEmpty (slots : List (Slot Content)) (n : ℕ) : Type 0 where
  pub slot : Slot Content
  pub there : slice_get slots n ≡ Some slot
  pub empty : slot.content ≡ None

abbrev pub has_number : List ℕ → ℕ → Bool
has_number [] n = false
has_number (m ∷ ms) n = (m == n) || has_number ms n

-- the free slots are empty, and none is free twice
abbrev pub AreFree : List (Slot Content) → List ℕ → Type 0
AreFree slots [] = Unit {0}
AreFree slots (n ∷ ns) = IsEmpty slots n × (has_number ns n ≡ false) × AreFree slots ns

abbrev pub members : Walk Id → List Id
members w = w.list ++ w.yet

pub record Agree (slots : Slots Content) (drawn : ℕ) (ts : List (Due × Id)) (resting : List Id) (watching : Watchers) (closers : Walk Id)
    : Type 0 where
  pub sound : AllSound slots.slots
  pub free : AreFree slots.slots slots.free
  pub timers : Times slots.slots drawn ts
  pub ready : Lists slots.slots Rests resting
  pub watchers : (q : WatcherKind) → Everyone slots.slots (Watches (kind_as q)) (members (those_of q watching))
  pub closing : Everyone slots.slots Closes (members closers)

pub kept_all : {slots : Slots Content} {drawn : ℕ} {ts : List (Due × Id)} {resting : List Id} {watching : Watchers} {closers : Walk Id} →
    AllSound slots.slots → AreFree slots.slots slots.free → Times slots.slots drawn ts → Lists slots.slots Rests resting →
    ((q : WatcherKind) → Everyone slots.slots (Watches (kind_as q)) (members (those_of q watching))) →
    Everyone slots.slots Closes (members closers) → Agree slots drawn ts resting watching closers
kept_all a b c d e f = record { sound = a; free = b; timers = c; ready = d; watchers = e; closing = f }

abbrev pub Kept : State → Type 0
Kept s = Agree s.arena s.next_start s.timers s.ready s.watchers s.closing

-- ---- facts of kinds

pub on_off : (h : HandleRecord) → h.active ≡ true → h.active ≡ false → ⊥
on_off h a b = cc (a, b)

pub open_shut : (h : HandleRecord) → h.closing ≡ true → h.closing ≡ false → ⊥
open_shut h a b = cc (a, b)

-- a handle of one kind is none of another
abbrev pub Apart : Kind → Kind → Type 0
Apart a b = a ≡ b → ⊥

-- a watcher is no timer
pub not_timer : (q : WatcherKind) → Apart Kind.Timer (kind_as q)
not_timer q = grind arith

-- a handle of one kind is changed, which the lists of another don't speak of
pub others : (slots : List (Slot Content)) (q r : Kind) (id : Id) (h x : HandleRecord) (ids : List Id) → held_at slots id ≡ Some h → h.kind ≡ q →
    x.kind ≡ q → Apart q r → Everyone slots (Watches r) ids → Everyone (put slots id x) (Watches r) ids
others slots q r id h x ids e t u d k = everyone_put slots (Watches r) id h x ids e (grind arith) (grind arith) k

pub off_list : (slots : List (Slot Content)) (P : HandleRecord → Type 0) (id : Id) (h x : HandleRecord) (ids : List Id) → held_at slots id ≡ Some h →
    has_id ids id ≡ false → Lists slots P ids → Lists (put slots id x) P ids
off_list slots P id h x ids e d k = subst (Lists (put slots id x) P) (without_absent ids id d) (lists_without slots P id h x ids e k)

-- ---- slots

pub sound_put : (slots : List (Slot Content)) (id : Id) (h x : HandleRecord) → held_at slots id ≡ Some h → IsSound x → AllSound slots → AllSound (put
    slots id x)
sound_put slots id h x e f k i y l = grind (arith, same, other, put_same, put_other)

pub empty_held : (slots : List (Slot Content)) (id : Id) (c : Content) (y : Slot Content) (n : ℕ) → held slots id ≡ Some c → IsEmpty slots n →
    IsEmpty (slice_set slots id.slot y) n
empty_held slots id c y n e k = grind (arith, get_set_other)

-- a slot that holds something is changed
pub free_held : (slots : List (Slot Content)) (id : Id) (c : Content) (y : Slot Content) (free : List ℕ) → held slots id ≡ Some c →
    AreFree slots free → AreFree (slice_set slots id.slot y) free
free_held slots id c y [] e k = tt
free_held slots id c y (n ∷ ns) e k = (empty_held slots id c y n e k.0, k.1, free_held slots id c y ns e k.2)

pub free_put : (slots : List (Slot Content)) (id : Id) (h x : HandleRecord) (free : List ℕ) → held_at slots id ≡ Some h → AreFree slots free → AreFree
    (put slots id x) free
free_put slots id h x free e k = free_held slots id (Content.Handle h) (slot_of id x) free (is_held slots id h e) k

-- a slot that isn't one of these is changed
pub free_set : (slots : List (Slot Content)) (i : ℕ) (y : Slot Content) (free : List ℕ) → has_number free i ≡ false → AreFree slots free → AreFree
    (slice_set slots i y) free
free_set slots i y [] d k = tt
free_set slots i y (n ∷ ns) d k =
    let parts = or_parts (n == i) (has_number ns i) d in (
      record {
        slot = k.0.slot;
        there = get_set_other slots i n y (λ g. both_ways (n == i) parts.0 (eq-eqb n i g)) ∙ k.0.there;
        empty = k.0.empty;
      },
      k.1,
      free_set slots i y ns parts.1 k.2,
    )

-- a slot that holds something isn't free
pub not_free : (slots : List (Slot Content)) (id : Id) (c : Content) (free : List ℕ) → held slots id ≡ Some c → AreFree slots free →
    has_number free id.slot ≡ false
not_free slots id c [] e k = refl
not_free slots id c (n ∷ ns) e k = grind (arith, eqb-true, not_free slots id c ns e k.2)

-- ---- the changes

-- no handle changes
pub agree_same : (now was : Slots Content) (s : State) → SameHandles now.slots was.slots → AreFree now.slots now.free →
    Agree was s.next_start s.timers s.ready s.watchers s.closing → Agree now s.next_start s.timers s.ready s.watchers s.closing
agree_same now was s f free k = grind arith

-- a handle is changed in what the lists don't speak of
pub put_kept : (s : State) (id : Id) (h x : HandleRecord) → handle s id ≡ Some h → x.kind ≡ h.kind → x.active ≡ h.active → x.due ≡ h.due →
    x.closing ≡ h.closing → Kept s → Kept (with_handle s id x)
put_kept s id h x e a b c o k = record {
  sound = sound_put s.arena.slots id h x e (record {
    shut = λ shut. b ∙ (k.sound id h e).shut (sym o ∙ shut);
    awake = λ q stays. b ∙ (k.sound id h e).awake (sym a ∙ q) (sym o ∙ stays);
  }) k.sound;
  free = free_put s.arena.slots id h x s.arena.free e k.free;
  timers = times_put s.arena.slots s.next_start s.timers id h x e
      (λ key t. record { kind = a ∙ t.kind; active = b ∙ t.active; due = c ∙ t.due })
      (λ key t. record { kind = sym a ∙ t.kind; active = sym b ∙ t.active; due = sym c ∙ t.due }) k.timers;
  ready = lists_put s.arena.slots Rests id h x s.ready e (λ r. record { kind = a ∙ r.kind; inactive = b ∙ r.inactive; stays = o ∙ r.stays }) k.ready;
  watchers = λ q. everyone_put s.arena.slots (Watches (kind_as q)) id h x (members (watched s q)) e (on (kind_as q)) (off (kind_as q)) (k.watchers q);
  closing = everyone_put s.arena.slots Closes id h x (members s.closing) e (λ shut. o ∙ shut) (λ shut. sym o ∙ shut) k.closing;
} where
  on : (q : Kind) → Watches q h → Watches q x
  on q w = record { kind = a ∙ w.kind; active = b ∙ w.active }

  off : (q : Kind) → Watches q x → Watches q h
  off q w = record { kind = sym a ∙ w.kind; active = sym b ∙ w.active }

-- a handle is taken off the order of timers and each list, and is inactive
pub off_both : (s : State) (id : Id) (h x : HandleRecord) (q : Kind) (w : Walk Id) → handle s id ≡ Some h → x.active ≡ false →
    Everyone s.arena.slots (Watches q) (members w) → Everyone (put s.arena.slots id x) (Watches q) (members (walk_without_id w id))
off_both s id h x q w e off l = subst (Everyone (put s.arena.slots id x) (Watches q)) (filter-append (λ i. not (same_id i id)) w.list w.yet)
    (everyone_without s.arena.slots (Watches q) id h x (members w) e (λ y. on_off x y.active off) l)

-- of any kind
off_watched : (s : State) (id : Id) (h x : HandleRecord) (q : WatcherKind) → handle s id ≡ Some h → x.active ≡ false →
    Everyone s.arena.slots (Watches (kind_as q)) (members (watched s q)) →
    Everyone (put s.arena.slots id x) (Watches (kind_as q)) (members (those_of q (watchers_without_id s.watchers id)))
off_watched s id h x WatcherKind.Idle e off l = off_both s id h x Kind.Idle s.watchers.idle e off l
off_watched s id h x each e off l = off_both s id h x (kind_as each) (watched s each) e off l

pub off_times : (s : State) (id : Id) (h x : HandleRecord) → handle s id ≡ Some h → x.active ≡ false → Kept s →
    Times (put s.arena.slots id x) s.next_start (if is_timer h.kind && h.active then without_timer s.timers h.due else s.timers)
off_times s id h x e off k = at (is_timer h.kind && h.active) refl where
  unset : (key : Due) → (is_timer h.kind && h.active) ≡ false → IsSet key h → ⊥
  unset key inert a = both_ways (is_timer h.kind && h.active) inert (rw (a.kind, a.active) refl)

  at : (b : Bool) → (is_timer h.kind && h.active) ≡ b →
      Times (put s.arena.slots id x) s.next_start (if b then without_timer s.timers h.due else s.timers)
  at true on =
      let parts = and_parts (is_timer h.kind) h.active on in
      let set : IsSet h.due h = record { kind = timer_kind h.kind parts.0; active = parts.1; due = refl } in
      times_without s.arena.slots s.next_start s.timers h.due id h x e set off k.timers
  at false inert = times_put s.arena.slots s.next_start s.timers id h x e
      (λ key a. absurd (unset key inert a)) (λ key a. absurd (on_off x a.active off)) k.timers

pub stopped_kept : (s : State) (id : Id) (h : HandleRecord) → handle s id ≡ Some h → Apart h.kind Kind.Async → Kept s → Kept (stopped s id h)
stopped_kept s id h e other k =
    let x = records.stopped h in
    record {
      sound = sound_put s.arena.slots id h x e (record { shut = λ shut. refl; awake = λ q stays. absurd (other q) }) k.sound;
      free = free_put s.arena.slots id h x s.arena.free e k.free;
      timers = off_times s id h x e refl k;
      ready = lists_without s.arena.slots Rests id h x s.ready e k.ready;
      watchers = λ q. off_watched s id h x q e refl (k.watchers q);
      closing = everyone_put s.arena.slots Closes id h x (members s.closing) e (λ shut. shut) (λ shut. shut) k.closing;
    }

pub closed_kept : (s : State) (id : Id) (h : HandleRecord) → handle s id ≡ Some h → h.closing ≡ false → Kept s → Kept (ops.closed s id h)
closed_kept s id h e stays k =
    let x = records.closed h in
    record {
      sound = sound_put s.arena.slots id h x e (record { shut = λ shut. refl; awake = λ q stays. cc stays }) k.sound;
      free = free_put s.arena.slots id h x s.arena.free e k.free;
      timers = off_times s id h x e refl k;
      ready = lists_without s.arena.slots Rests id h x s.ready e k.ready;
      watchers = λ q. off_watched s id h x q e refl (k.watchers q);
      closing = everyone_more s.arena.slots Closes id h x [] (members s.closing) e (λ shut. open_shut h shut stays) refl k.closing;
    }

pub started_kept : (s : State) (id : Id) (old h : HandleRecord) (timeout repeat : ℕ) → handle s id ≡ Some old → old.kind ≡ Kind.Timer → old.active ≡
    false →
    old.closing ≡ false → h.kind ≡ Kind.Timer → h.closing ≡ false → has_id s.ready id ≡ false → Kept s → Kept (started s id h timeout repeat)
started_kept s id old h timeout repeat e t off was u stays away k =
    let x = begun_at (due_after s timeout) repeat h in
    record {
      sound = sound_put s.arena.slots id old x e (record { shut = λ shut. absurd (open_shut h shut stays); awake = λ q unshut. refl }) k.sound;
      free = free_put s.arena.slots id old x s.arena.free e k.free;
      timers = times_with s.arena.slots s.next_start (s.next_start + 1) s.timers (due_after s timeout) id old x e off
          (record { kind = u; active = refl; due = refl }) refl (omega arith) k.timers;
      ready = off_list s.arena.slots Rests id old x s.ready e away k.ready;
      watchers = λ q. others s.arena.slots Kind.Timer (kind_as q) id old x (members (watched s q)) e t u (not_timer q) (k.watchers q);
      closing = everyone_put s.arena.slots Closes id old x (members s.closing) e (λ shut. absurd (open_shut old shut was)) (λ shut. cc) k.closing;
    }

-- a timer that was stopped
pub started_again_kept : (s : State) (id : Id) (h : HandleRecord) (timeout repeat : ℕ) → handle s id ≡ Some h → h.kind ≡ Kind.Timer →
    h.closing ≡ false → Kept s → Kept (started (stopped s id h) id h timeout repeat)
started_again_kept s id h timeout repeat e t stays k =
    started_kept (stopped s id h) id (records.stopped h) h timeout repeat (put_same s.arena.slots id h (records.stopped h) e) t refl stays t stays
    (without_itself s.ready id) (stopped_kept s id h e (λ q. cc (t, q)) k)

pub restarted_again_kept : (s : State) (id : Id) (h : HandleRecord) → handle s id ≡ Some h → h.kind ≡ Kind.Timer → h.closing ≡ false → Kept s → Kept
    (restarted (stopped s id h) id h)
restarted_again_kept s id h e t stays k = cond_both (h.repeat == 0) _ _ Kept (λ z. stopped_kept s id h e (λ q. cc (t, q)) k)
    (λ z. search started_again_kept)

-- the timers and the ready list where a watcher changes
pub others_times : (s : State) (id : Id) (h x : HandleRecord) (q : Kind) → handle s id ≡ Some h → h.kind ≡ q → x.kind ≡ q → Apart q Kind.Timer →
    Kept s → Times (put s.arena.slots id x) s.next_start s.timers
others_times s id h x q e t u d k = times_put s.arena.slots s.next_start s.timers id h x e
    (λ key a. absurd (grind arith)) (λ key a. absurd (grind arith)) k.timers

-- a watcher is put on its list
listed_more : (s : State) (id : Id) (h x : HandleRecord) (q : Kind) (xs ys : List Id) → handle s id ≡ Some h → h.active ≡ false → x.kind ≡ q →
    x.active ≡ true → Everyone s.arena.slots (Watches q) (xs ++ ys) → Everyone (put s.arena.slots id x) (Watches q) (xs ++ id ∷ ys)
listed_more s id h x q xs ys e off u on l = everyone_more s.arena.slots (Watches q) id h x xs ys e (λ w. on_off h w.active off) (assumption) l

-- a handle that is no timer is started, and the lists of watchers are these then
activated_kept : (s : State) (id : Id) (h : HandleRecord) (q : Kind) (watching : Watchers) → handle s id ≡ Some h → h.kind ≡ q → Apart q Kind.Timer →
    h.closing ≡ false → Kept s →
    ((r : WatcherKind) → Everyone (put s.arena.slots id (activated h)) (Watches (kind_as r)) (members (those_of r watching))) →
    Agree (record s.arena { slots = put s.arena.slots id (activated h) }) s.next_start s.timers s.ready watching s.closing
activated_kept s id h q watching e t untimed stays k listed =
    let x = activated h in
    kept_all (sound_put s.arena.slots id h x e (record { shut = λ shut. absurd (open_shut h shut stays); awake = λ q unshut. refl }) k.sound)
    (free_put s.arena.slots id h x s.arena.free e k.free) (others_times s id h x q e t t untimed k)
    (lists_put s.arena.slots Rests id h x s.ready e (λ r. absurd (untimed (sym t ∙ r.kind))) k.ready) listed
    (everyone_put s.arena.slots Closes id h x (members s.closing) e (λ shut. shut) (λ shut. shut) k.closing)

-- the lists of one kind are others, and of another kind as they were
started_lists : (s : State) (k q : WatcherKind) (id : Id) (x : HandleRecord) →
    Everyone (put s.arena.slots id x) (Watches (kind_as k)) (members (with_first (watched s k) id)) →
    (Apart (kind_as k) (kind_as q) → Everyone (put s.arena.slots id x) (Watches (kind_as q)) (members (watched s q))) →
    Everyone (put s.arena.slots id x) (Watches (kind_as q)) (members (watched (with_watched s k (with_first (watched s k) id)) q))
started_lists s k q id x own other = grind arith

pub watcher_started_kept : (s : State) (k : WatcherKind) (id : Id) (h : HandleRecord) → handle s id ≡ Some h → h.kind ≡ kind_as k → h.active ≡ false →
    h.closing ≡ false → Kept s → Kept (ops.watcher_started s k id h)
watcher_started_kept s q id h e t off stays k =
    let x = activated h in
    activated_kept s id h (kind_as q) (with_watched s q (with_first (watched s q) id)).watchers e t (λ f. not_timer q (sym f)) stays k
    (λ r. started_lists s q r id x (listed_more s id h x (kind_as q) [] (members (watched s q)) e off t refl (k.watchers q))
    (λ apart. others s.arena.slots (kind_as q) (kind_as r) id h x (members (watched s r)) e t t apart (k.watchers r)))

-- one is started, which is on no list
pub io_started_kept : (s : State) (id : Id) (h : HandleRecord) → handle s id ≡ Some h → h.kind ≡ Kind.Io → h.closing ≡ false → Kept s →
    Kept (with_handle s id (activated h))
io_started_kept s id h e t stays k = activated_kept s id h Kind.Io s.watchers e t (λ f. cc f) stays k
    (λ q. others s.arena.slots Kind.Io (kind_as q) id h (activated h) (members (watched s q)) e t t (grind arith) (k.watchers q))

-- ---- a new handle

-- where the next taking puts something
abbrev pub Fills : Slots Content → List ℕ → Id → Content → Type 0
Fills s free id c = Turns s.slots (arena.taken_from free id c s).slots id None (Some c)
    × AreFree (arena.taken_from free id c s).slots (arena.taken_from free id c s).free

pub fills : (s : Slots Content) (free : List ℕ) (id : Id) (c : Content) → s.free ≡ free → AreFree s.slots free →
    next_id s.slots s.unused free ≡ Some id → Fills s free id c
fills s [] id c e k n = unused s.unused n where
  unused : (m : ℕ) → next_unused (length s.slots) m ≡ Some id → Fills s [] id c
  unused zero f = cc f
  unused (suc m) f = subst (λ (i : Id). Fills s [] i c) (same_Some _ _ f) (
    pushed_turns s.slots (Some c),
    subst (AreFree (s.slots ++ slot_with (record { slot = length s.slots; generation = 0 }) (Some c) ∷ [])) (sym e) tt,
  )
fills s (m ∷ ms) id c e k n =
    let is : id_of m k.0.slot ≡ id = same_Some _ _ (sym (ap (option_and_then (λ slot. Some (id_of m slot))) k.0.there) ∙ n) in
    let there : IsThere s.slots (id_of m k.0.slot) = record { slot = k.0.slot; there = k.0.there; generation = refl } in
    let t = set_turns s.slots (id_of m k.0.slot) (Some c) there in
    grind (arith, others, free_set)

-- and where it puts a handle
abbrev pub Takes : Slots Content → List ℕ → Id → HandleRecord → Type 0
Takes s free id x = Grown s.slots (arena.taken_from free id (Content.Handle x) s).slots id x
    × AreFree (arena.taken_from free id (Content.Handle x) s).slots (arena.taken_from free id (Content.Handle x) s).free

pub takes : (s : Slots Content) (free : List ℕ) (id : Id) (x : HandleRecord) → s.free ≡ free → AreFree s.slots free →
    next_id s.slots s.unused free ≡ Some id → Takes s free id x
takes s free id x e k n =
    let f = fills s free id (Content.Handle x) e k n in
    (grown s.slots (arena.taken_from free id (Content.Handle x) s).slots id x f.0, f.1)

pub sound_grown : (slots more : List (Slot Content)) (id : Id) (x : HandleRecord) → Grown slots more id x → IsSound x → AllSound slots → AllSound more
sound_grown slots more id x g f k i y l = grind arith

pub new_by : (s : State) (v : Var) (q : Kind) (id : Id) (w : Walk Id) → Takes s.arena s.arena.free id (inited v q) →
    Everyone (taken id (Content.Handle (inited v q)) s.arena).slots (Watches Kind.Async) (members w) → Kept s →
    Agree (taken id (Content.Handle (inited v q)) s.arena) s.next_start s.timers s.ready (with_those_of WatcherKind.Async w s.watchers) s.closing
new_by s v q id w t async k =
    record {
      sound = sound_grown s.arena.slots more id x t.0 (grind arith) k.sound;
      free = t.1;
      timers = times_grown s.arena.slots more s.next_start s.timers id x t.0 (grind arith) k.timers;
      ready = lists_grown s.arena.slots more Rests id x s.ready t.0 k.ready;
      watchers = listed;
      closing = everyone_grown s.arena.slots more Closes id x (members s.closing) t.0 (λ shut. open_shut x shut refl) k.closing;
    }
  where
    x : HandleRecord
    x = inited v q

    more : List (Slot Content)
    more = (taken id (Content.Handle (inited v q)) s.arena).slots

    grown_list : (r : WatcherKind) → Apart Kind.Async (kind_as r) → Everyone more (Watches (kind_as r)) (members (watched s r))
    grown_list r d = grind arith

    listed : (r : WatcherKind) → Everyone more (Watches (kind_as r)) (members (those_of r (with_those_of WatcherKind.Async w s.watchers)))
    listed WatcherKind.Async = async
    listed r = grown_list r (λ f. cc f)

-- the list of async handles, where the new one is of another kind
pub async_still : (s : State) (v : Var) (q : Kind) (id : Id) → is_async q ≡ false → Takes s.arena s.arena.free id (inited v q) → Kept s →
    Everyone (taken id (Content.Handle (inited v q)) s.arena).slots (Watches Kind.Async) (members s.watchers.async)
async_still s v q id e t k = everyone_grown s.arena.slots (taken id (Content.Handle (inited v q)) s.arena).slots (Watches Kind.Async) id (inited v q)
    (members s.watchers.async) t.0 (λ w. on_off (inited v q) w.active e) (k.watchers WatcherKind.Async)

pub new_kept : (s : State) (v : Var) (q : Kind) (id : Id) → next_free s.arena ≡ Some id → Kept s → Kept (ops.with_new s v q id)
new_kept s v Kind.Async id e k =
    let x = inited v Kind.Async in
    let t = takes s.arena s.arena.free id x refl k.free e in
    let more = (taken id (Content.Handle x) s.arena).slots in
    let listed = everyone_listed s.arena.slots more (Watches Kind.Async) id x s.watchers.async.list s.watchers.async.yet t.0
    (assumption) (k.watchers WatcherKind.Async) in
    let w = s.watchers.async in
    search (new_by, append_assoc, listed)
new_kept s v each id e k = let t = takes s.arena s.arena.free id (inited v each) refl k.free e in new_by s v each id s.watchers.async t
    (async_still s v each id refl t k) k
