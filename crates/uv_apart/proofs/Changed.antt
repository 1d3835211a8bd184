-- A state in which what the loop's own steps don't look at is changed, and the ops in it.
use Rattle.uv_apart.proofs.Names.{◌≡◌, ℕ, List, [], ◌∷◌, ◌++◌, length, Bool, true, Option, Some, None, Result, Ok, Err, refl, ap, sym, ◌∙◌, arith, slice_get, slice_set, option_map, subst, list_any, same_Some, Id, Var, Code, HandleRecord, Slot, send_refusal, Slots, held, id_of, next_free, next_id, next_unused, taken_from, Content, Request, content_keeps, content_pends, is_used, handle_in, same_id, State, named, live_id, live_handle, live_request, as_handle, handle, with_handle, with_id, Coded, do_op}
use Rattle.uv_ids.specs.declared.code.Code.TheVariants.{Ok as Success}
use Rattle.uv_script.specs.declared.op.Op.TheVariants as op
use Rattle.uv_records.specs.Handles as records
use Rattle.uv_work.specs.Content.{handle_of}
use Rattle.uv_work.specs.declared.content.Content.TheVariants as content
use Rattle.uv_model.specs.Ops as ops
use Rattle.uv_apart.proofs.Cases.{by_found, by_test}

-- what is changed: the clock, who waits, who runs, who is done, and what the slots hold
pub record Change : Type 0 where
  pub clock : ℕ → ℕ
  pub waiting : List Id → List Id
  pub running : List (Option Id) → List (Option Id)
  pub done : List Id → List Id
  pub slots : List (Slot Content) → List (Slot Content)
  -- the slots that stay
  pub stays : ℕ → Bool

abbrev pub changed_arena : Change → Slots Content → Slots Content
changed_arena c a = record a { slots = c.slots a.slots }

abbrev pub changed : Change → State → State
changed c s = record s {
  clock = c.clock s.clock;
  waiting = c.waiting s.waiting;
  running = c.running s.running;
  done = record s.done { list = c.done s.done.list };
  arena = changed_arena c s.arena;
}

-- the slots that stay can be set before and behind the change, and read the same
pub record Leaves (c : Change) : Type 0 where
  pub sets : (slots : List (Slot Content)) (n : ℕ) (x : Slot Content) → c.stays n ≡ true
      → slice_set (c.slots slots) n x ≡ c.slots (slice_set slots n x)
  pub gets : (slots : List (Slot Content)) (n : ℕ) → c.stays n ≡ true → slice_get (c.slots slots) n ≡ slice_get slots n

-- what a slot holds, as the loop's steps see it: a handle's record, or some request
abbrev pub seen_in : Option Content → Option (Option HandleRecord)
seen_in o = option_map handle_of o

-- a step of the loop can't tell the change in this state
pub record Hides (c : Change) (s : State) : Type 0 where
  pub as_many : length (c.slots s.arena.slots) ≡ length s.arena.slots
  pub pushes : (x : Slot Content) → c.slots s.arena.slots ++ x ∷ [] ≡ c.slots (s.arena.slots ++ x ∷ [])
  pub seen : (id : Id) → seen_in (held (c.slots s.arena.slots) id) ≡ seen_in (held s.arena.slots id)
  pub keeps : list_any (λ (slot : Slot Content). content_keeps slot.content) (c.slots s.arena.slots)
      ≡ list_any (λ (slot : Slot Content). content_keeps slot.content) s.arena.slots
  pub pends : list_any (λ (slot : Slot Content). content_pends slot.content) (c.slots s.arena.slots)
      ≡ list_any (λ (slot : Slot Content). content_pends slot.content) s.arena.slots
  pub used : list_any (λ (slot : Slot Content). is_used slot.content) (c.slots s.arena.slots)
      ≡ list_any (λ (slot : Slot Content). is_used slot.content) s.arena.slots
  pub handles : (id : Id) (h : HandleRecord) → handle s id ≡ Some h → c.stays id.slot ≡ true
  pub free : (n : ℕ) (ns : List ℕ) → s.arena.free ≡ n ∷ ns → c.stays n ≡ true
  pub ended : (id : Id) (ids : List Id) → s.done.yet ≡ id ∷ ids → c.stays id.slot ≡ true
  pub waits : (id : Id) → c.waiting s.waiting ++ id ∷ [] ≡ c.waiting (s.waiting ++ id ∷ [])

-- who is done is the same
abbrev pub SameDone : Change → Type 0
SameDone c = (ids : List Id) → c.done ids ≡ ids

-- nothing is changed but the clock, and who runs
pub record SameWork (c : Change) : Type 0 where
  pub waiting : (ids : List Id) → c.waiting ids ≡ ids
  pub done : SameDone c
  pub slots : (slots : List (Slot Content)) → c.slots slots ≡ slots

abbrev clocked : Change → State → State
clocked c s = record s { clock = c.clock s.clock; running = c.running s.running }

abbrev clocked_done : Change → ops.Done → ops.Done
clocked_done c x = record { state = clocked c x.state; answer = x.answer }

only_clock : (c : Change) → SameWork c → (u : State) → changed c u ≡ clocked c u
only_clock c same u = grind arith

-- ---- what is seen in a slot

handle_seen : (o : Option Content) → handle_in o ≡ elim (seen_in o) [ Some x ↦ x | None ↦ None ]
handle_seen o = grind arith

pub handle_same : (o o' : Option Content) → seen_in o' ≡ seen_in o → handle_in o' ≡ handle_in o
handle_same o o' e = handle_seen o' ∙ ap (λ (x : Option (Option HandleRecord)). elim x [ Some y ↦ y | None ↦ None ]) e ∙ sym (handle_seen o)

-- a name's handle, by what is seen
live_same : (id : Id) (o o' : Option Content) → seen_in o' ≡ seen_in o → as_handle (with_id id o') ≡ as_handle (with_id id o)
live_same id each e2 e = grind arith

-- who stands for a handle is live with it
pub live_held : (s : State) (v : Var) (t : Id × HandleRecord) → live_handle s v ≡ Ok t → handle s t.0 ≡ Some t.1
live_held s v t e = grind arith

module _ (c : Change) (leaves : Leaves c) where
  abbrev pub changed_done : ops.Done → ops.Done
  changed_done x = record { state = changed c x.state; answer = x.answer }

  abbrev pub changed_coded : Coded → Coded
  changed_coded x = record { state = changed c x.state; code = x.code }

  -- ---- the record of a handle that stays changes, in any state

  pub put_changed : (u : State) (id : Id) (h : HandleRecord) → c.stays id.slot ≡ true →
      with_handle (changed c u) id h ≡ changed c (with_handle u id h)
  put_changed u id h e = ap (λ (slots : List (Slot Content)). record (changed c u) { arena = record u.arena { slots = slots } })
      (leaves.sets u.arena.slots id.slot (record { generation = id.generation; content = Some (content.Handle h) }) e)

  -- ---- from a state in which no step can tell the change

  module _ (s : State) (hides : Hides c s) where
    pub handle_changed : (id : Id) → handle (changed c s) id ≡ handle s id
    handle_changed id = handle_same _ _ (hides.seen id)

    pub live_handle_changed : (v : Var) → live_handle (changed c s) v ≡ live_handle s v
    live_handle_changed v = by (named s v).id where
      by : (o : Option Id) → as_handle (live_id (changed c s) o) ≡ as_handle (live_id s o)
      by None = refl
      by (Some id) = live_same id (held s.arena.slots id) (held (c.slots s.arena.slots) id) (hides.seen id)

    -- ---- what is made

    -- the next free id
    next_same : (free : List ℕ) → s.arena.free ≡ free →
        next_id (c.slots s.arena.slots) s.arena.unused free ≡ next_id s.arena.slots s.arena.unused free
    next_same [] e = ap (λ (n : ℕ). next_unused n s.arena.unused) hides.as_many
    next_same (n ∷ ns) e = rw (leaves.gets s.arena.slots n (hides.free n ns e)) refl

    pub next_free_changed : next_free (changed c s).arena ≡ next_free s.arena
    next_free_changed = next_same s.arena.free refl

    -- the id of the free list's front is that slot's
    pub taken_changed : (free : List ℕ) (id : Id) (x : Content) → s.arena.free ≡ free → next_id s.arena.slots s.arena.unused free ≡ Some id →
        taken_from free id x (changed c s).arena ≡ changed_arena c (taken_from free id x s.arena)
    taken_changed [] id x e n = ap (λ slots. record s.arena { slots = slots; unused = (taken_from [] id x s.arena).unused })
        (hides.pushes (record { generation = 0; content = Some x }))
    taken_changed (m ∷ ms) id x e n = ap (λ slots. record s.arena { slots = slots; free = ms })
        (leaves.sets s.arena.slots id.slot (record { generation = id.generation; content = Some x }) (by (slice_get s.arena.slots m) n))
      where
        by : (o : Option (Slot Content)) → elim o [ Some slot ↦ Some (id_of m slot) | None ↦ None ] ≡ Some id → c.stays id.slot ≡ true
        by None f = cc f
        by (Some slot) f = subst (λ (k : ℕ). c.stays k ≡ true) (ap (λ (i : Id). i.slot) (same_Some (id_of m slot) id f)) (hides.free m ms e)

    -- ---- a send and a cancel

    pub send_changed : (v : Var) → ops.send (changed c s) (live_handle (changed c s) v) ≡ changed_coded (ops.send s (live_handle s v))
    send_changed v = ap (ops.send (changed c s)) (live_handle_changed v) ∙ by (live_handle s v) refl where
      by : (t : Result (Id × HandleRecord) Code) → live_handle s v ≡ t → ops.send (changed c s) t ≡ changed_coded (ops.send s t)
      by (Err code) e = refl
      by (Ok t) e = by_found changed_coded (send_refusal t.1) (λ code f. refl)
          (ap (λ (x : State). record { state = x; code = Success })
          (put_changed s t.0 (records.sent t.1) (hides.handles t.0 t.1 (live_held s v t e))))

    pub cancel_changed : (v : Var) → SameWork c → do_op (changed c s) (op.Cancel v) ≡ changed_done (do_op s (op.Cancel v))
    cancel_changed v same = ap (λ (u : State). do_op u (op.Cancel v)) (only_clock c same s)
        ∙ by (live_request s v)
        ∙ ap (λ (u : State). record { state = u; answer = (do_op s (op.Cancel v)).answer }) (sym (only_clock c same (do_op s (op.Cancel v)).state))
      where
        by : (t : Result (Id × Request) Code) → ops.cancel (clocked c s) t ≡ clocked_done c (ops.cancel s t)
        by (Err code) = refl
        by (Ok t) = by_test (clocked_done c) (list_any (same_id t.0) s.waiting) refl refl
