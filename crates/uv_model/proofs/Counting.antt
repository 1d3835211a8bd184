-- A state's numbers: what it means that they are no larger than the number of its steps, and how each change of a state keeps it.
use Rattle.uv_model.proofs.Names.{◌≡◌, ℕ, suc, ◌+◌, ◌≤◌, ◌^◌, List, [], ◌∷◌, ◌++◌, Bool, true, false, Option, Some, None, if◌then◌else◌, ◌==◌, option_and_then, Result, Ok, Err, slice_get, slice_set, All, refl, arith, subst, elements, cond_both, eqb-true, none-some, Id, Var, Due, Kind, Code, HandleRecord, Slot, WatcherKind, inited, is_timer, is_async, activated, referenced_as, repeating, watcher_kind, Slots, taken, taken_from, freed, next_free, Walk, Content, Calls, Named, Place, Request, handle_in, request_in, State, named, handle, with_handle, request, with_request, with_named, with_id, live_id, as_handle, as_request, live_handle, live_request, with_watched, refreshed, taken_off, stopped, started, Next, Moves, Refuses, line_of, HoldsBefore, StartsBefore, AreBelow}
use Rattle.uv_ids.specs.declared.phase.Kind.TheVariants as kind
use Rattle.uv_records.specs.Handles as records
use Rattle.uv_records.specs.Slots as slots
use Rattle.uv_work.specs.declared.content.Content.TheVariants as content
use Rattle.uv_model.proofs.Calls.{at_name}

abbrev pub AreUpTo : ℕ → Calls → Type 0
AreUpTo n c = (c.handle ≤ n) × (c.after ≤ n) × (c.close ≤ n)

abbrev pub Counts : ℕ → List Named → Type 0
Counts n names = All (λ (x : Named). AreUpTo n x.calls) names

abbrev pub Drawn : ℕ → List (Slot Content) → Type 0
Drawn n slots = All (λ (x : Slot Content). HoldsBefore n (handle_in x.content)) slots

-- each slot was freed so often at most
abbrev pub Freed : ℕ → List (Slot Content) → Type 0
Freed n slots = All (λ (x : Slot Content). x.generation ≤ n) slots

pub record IsBounded (n : ℕ) (s : State) : Type 0 where
  pub counts : Counts n s.names
  pub starts : s.next_start ≤ n
  pub drawn : Drawn s.next_start s.arena.slots
  pub time : s.time ≤ 2 ^ 62
  pub clock : s.clock ≤ 2 ^ 62
  pub line : line_of s.place ≤ n
  pub freed : Freed n s.arena.slots

abbrev pub StaysBounded : ℕ → Next → Type 0
StaysBounded n (Moves t seen) = IsBounded n t
StaysBounded n (Refuses why) = Unit {0}

pub if_keeps : {A : Type 0} (P : A → Type 0) (b : Bool) (x y : A) → P x → P y → P (if b then x else y)
if_keeps P b x y h k = grind arith

-- ---- the parts

pub counts_more : (n : ℕ) (names : List Named) → Counts n names → Counts (suc n) names
counts_more n names h = λ k d l. let a = h k d l in (omega (arith, a.0), omega (arith, a.1), omega (arith, a.2))

pub counts_set : (n : ℕ) (names : List Named) (i : ℕ) (x : Named) → Counts n names → AreUpTo n x.calls → Counts n (slice_set names i x)
counts_set n names i x h l = grind (arith, elements, h)

pub drawn_set : (n : ℕ) (slots : List (Slot Content)) (i : ℕ) (x : Slot Content) → Drawn n slots → HoldsBefore n (handle_in x.content)
    → Drawn n (slice_set slots i x)
drawn_set n slots i x h b = grind (arith, elements, h)

pub drawn_push : (n : ℕ) (slots : List (Slot Content)) (x : Slot Content) → Drawn n slots → HoldsBefore n (handle_in x.content)
    → Drawn n (slots ++ x ∷ [])
drawn_push n slots x h b = grind (arith, elements, h)

pub freed_more : (n : ℕ) (slots : List (Slot Content)) → Freed n slots → Freed (suc n) slots
freed_more n slots h = λ k d w. let few = h k d w in omega arith

pub freed_set : (n : ℕ) (slots : List (Slot Content)) (i : ℕ) (x : Slot Content) → Freed n slots → x.generation ≤ n → Freed n (slice_set slots i x)
freed_set n slots i x h b = grind (arith, elements, h)

pub freed_push : (n : ℕ) (slots : List (Slot Content)) (x : Slot Content) → Freed n slots → x.generation ≤ n → Freed n (slots ++ x ∷ [])
freed_push n slots x h b = grind (arith, elements, h)

pub slot_freed : (n : ℕ) (slots : List (Slot Content)) (i : ℕ) (slot : Slot Content) → slice_get slots i ≡ Some slot → Freed n slots →
    slot.generation ≤ n
slot_freed n slots i slot e h = grind (arith, elements, h)

pub never : (n : ℕ) (h : HandleRecord) → h.active ≡ false → StartsBefore n h
never n h e = λ t a. cc (a, e)

pub counts_at : (n : ℕ) (s : State) (v : Var) → Counts n s.names → AreUpTo n (named s v).calls
counts_at n s v h =
    let below : All (λ (x : Named). AreBelow (suc n) x.calls) s.names = λ k d w. let a = h k d w in
    (omega (arith, a.0), omega (arith, a.1), omega (arith, a.2)) in
    let l = at_name (suc n) s.names v.0 (slice_get s.names v.0) refl below (omega arith) in
    (omega (arith, l.0), omega (arith, l.1), omega (arith, l.2))

-- ---- a live handle

-- what is known of a handle that is held
pub record IsHeld (m n : ℕ) (id : Id) (x : HandleRecord) : Type 0 where
  pub starts : StartsBefore m x
  pub freed : id.generation ≤ n

abbrev pub LiveBefore : ℕ → ℕ → Option (Id × HandleRecord) → Type 0
LiveBefore m n None = Unit {0}
LiveBefore m n (Some t) = IsHeld m n t.0 t.1

-- what is known of what is held under an id
pub record ContentBefore (m n : ℕ) (id : Id) (c : Option Content) : Type 0 where
  pub starts : HoldsBefore m (handle_in c)
  pub freed : (x : Content) → c ≡ Some x → id.generation ≤ n

pub slot_before : (n : ℕ) (slots : List (Slot Content)) (i : ℕ) (slot : Slot Content) → slice_get slots i ≡ Some slot → Drawn n slots →
    HoldsBefore n (handle_in slot.content)
slot_before n slots i slot e h = grind (arith, elements, h)

pub found_before : (m n : ℕ) (all : List (Slot Content)) (id : Id) (x : Option (Slot Content)) → slice_get all id.slot ≡ x → Drawn m all →
    Freed n all →
    ContentBefore m n id (option_and_then (slots.held_in id) x)
found_before m n all id None e h f = record { starts = tt; freed = λ x none. absurd (none-some x none) }
found_before m n all id (Some slot) e h f =
    cond_both (slot.generation == id.generation) slot.content None (ContentBefore m n id)
    (λ same. record {
      starts = slot_before m all id.slot slot e h;
      freed = λ x some. subst (λ (g : ℕ). g ≤ n) (eqb-true slot.generation id.generation same) (slot_freed n all id.slot slot e f);
    })
    (λ other. record { starts = tt; freed = λ x none. absurd (none-some x none) })

pub with_id_before : (m n : ℕ) (id : Id) (c : Option Content) → ContentBefore m n id c → LiveBefore m n (with_id id (handle_in c))
with_id_before m n id each h = grind arith

pub held_before : (n : ℕ) (s : State) (id : Id) → IsBounded n s → ContentBefore s.next_start n id (slots.held s.arena.slots id)
held_before n s id h = found_before s.next_start n s.arena.slots id (slice_get s.arena.slots id.slot) refl h.drawn h.freed

pub handle_before : (n : ℕ) (s : State) (id : Id) → IsBounded n s → LiveBefore s.next_start n (with_id id (handle s id))
handle_before n s id h = with_id_before s.next_start n id _ (held_before n s id h)

-- the slot of a request was freed as often as its id says
abbrev pub RequestBefore : ℕ → Option (Id × Request) → Type 0
RequestBefore n None = Unit {0}
RequestBefore n (Some t) = t.0.generation ≤ n

pub request_before : (n : ℕ) (s : State) (id : Id) → IsBounded n s → RequestBefore n (with_id id (request s id))
request_before n s id h = at (slots.held s.arena.slots id) (held_before n s id h) where
  at : (c : Option Content) → ContentBefore s.next_start n id c → RequestBefore n (with_id id (request_in c))
  at c k = grind arith

-- what is known of the handle of a name
abbrev pub NamedBefore : ℕ → ℕ → Result (Id × HandleRecord) Code → Type 0
NamedBefore m n (Err code) = Unit {0}
NamedBefore m n (Ok t) = IsHeld m n t.0 t.1

pub live_before : (n : ℕ) (s : State) (v : Var) → IsBounded n s → NamedBefore s.next_start n (live_handle s v)
live_before n s v h = of_id (named s v).id where
  at : (id : Id) (c : Option Content) → ContentBefore s.next_start n id c → NamedBefore s.next_start n (as_handle (with_id id c))
  at id c k = grind arith

  of_id : (id : Option Id) → NamedBefore s.next_start n (as_handle (live_id s id))
  of_id None = tt
  of_id (Some id) = at id _ (held_before n s id h)

-- and of the request of one
abbrev pub AskedBefore : ℕ → Result (Id × Request) Code → Type 0
AskedBefore n (Err code) = Unit {0}
AskedBefore n (Ok t) = t.0.generation ≤ n

pub asked_before : (n : ℕ) (s : State) (v : Var) → IsBounded n s → AskedBefore n (live_request s v)
asked_before n s v h = of_id (named s v).id where
  at : (id : Id) (c : Option Content) → ContentBefore s.next_start n id c → AskedBefore n (as_request (with_id id c))
  at id c k = grind arith

  of_id : (id : Option Id) → AskedBefore n (as_request (live_id s id))
  of_id None = tt
  of_id (Some id) = at id _ (held_before n s id h)

-- ---- the changes of a state

pub more : (n : ℕ) (s : State) → IsBounded n s → IsBounded (suc n) s
more n s h = grind arith

pub placed : (n : ℕ) (s : State) (place : Place) → IsBounded n s → line_of place ≤ n → IsBounded n (record s { place = place })
placed n s place h l = record { counts = h.counts; starts = h.starts; drawn = h.drawn; time = h.time; clock = h.clock; line = l; freed = h.freed }

pub renamed : (n : ℕ) (s : State) (v : Var) (x : Named) → IsBounded n s → AreUpTo n x.calls → IsBounded n (with_named s v x)
renamed n s v x h l = search counts_set

pub listed : (n : ℕ) (s : State) (ts : List (Due × Id)) (ready : List Id) → IsBounded n s → IsBounded n (record s { timers = ts; ready = ready })
listed n s ts ready h = assumption

pub off_bounded : (n : ℕ) (s : State) (id : Id) (x : HandleRecord) → IsBounded n s → IsBounded n (taken_off s id x)
off_bounded n s id x h = assumption

pub kept_in : (n : ℕ) (s : State) (id : Id) (x : HandleRecord) → IsBounded n s → IsHeld s.next_start n id x → IsBounded n (with_handle s id x)
kept_in n s id x h b = search (drawn_set, freed_set)

-- a request has no start number
pub requested : (n : ℕ) (s : State) (id : Id) (r : Request) → IsBounded n s → id.generation ≤ n → IsBounded n (with_request s id r)
requested n s id r h few = search (drawn_set, freed_set)

-- the lists of requests hold no number
pub pooled : (n : ℕ) (s : State) (waiting : List Id) (running : List (Option Id)) (done : Walk Id) → IsBounded n s →
    IsBounded n (record s { waiting = waiting; running = running; done = done })
pooled n s waiting running done h = assumption

-- so is one that isn't active any more
pub rested_in : (n : ℕ) (s : State) (id : Id) (x : HandleRecord) → IsBounded n s → id.generation ≤ n → x.active ≡ false →
    IsBounded n (with_handle s id x)
rested_in n s id x h few idle = kept_in n s id x h (record { starts = never s.next_start x idle; freed = few })

pub at_clock : (n : ℕ) (s : State) → IsBounded n s → IsBounded n (refreshed s)
at_clock n s h = record { counts = h.counts; starts = h.starts; drawn = h.drawn; time = h.clock; clock = h.clock; line = h.line; freed = h.freed }

pub flagged : (n : ℕ) (s : State) (stop_flag idled : Bool) → IsBounded n s → IsBounded n (record s { stop_flag = stop_flag; idled = idled })
flagged n s stop_flag idled h = assumption

pub watched_bounded : (n : ℕ) (s : State) (kind : WatcherKind) (w : Walk Id) → IsBounded n s → IsBounded n (with_watched s kind w)
watched_bounded n s kind w h = assumption

pub stopped_bounded : (n : ℕ) (s : State) (id : Id) (x : HandleRecord) → IsBounded n s → id.generation ≤ n → IsBounded n (stopped s id x)
stopped_bounded n s id x h few = rested_in n (taken_off s id x) id (records.stopped x) (off_bounded n s id x h) few refl

pub started_bounded : (n : ℕ) (s : State) (id : Id) (x : HandleRecord) (timeout repeat : ℕ) → IsBounded n s → id.generation ≤ n →
    IsBounded (suc n) (started s id x timeout repeat)
started_bounded n s id x timeout repeat h few = record {
  counts = counts_more n s.names h.counts;
  starts = omega arith;
  drawn = drawn_set (s.next_start + 1) s.arena.slots id.slot _ (grind arith)
      (λ t a. omega arith);
  time = h.time;
  clock = h.clock;
  line = omega arith;
  freed = freed_set (suc n) s.arena.slots id.slot _ (freed_more n s.arena.slots h.freed) (omega arith);
}
