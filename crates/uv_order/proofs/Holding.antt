-- What the slots hold, and the lists of ids of handles.
use Rattle.uv_order.proofs.Names.{◌≡◌, inl, inr, ℕ, ◌<◌, List, ◌∷◌, ◌++◌, Bool, true, false, Option, Some, None, slice_set, refl, ap, sym, subst, ◌∙◌, arith, same_Some, Id, Var, Due, HandleRecord, Slot, held, Content, handle_in, same_id, without_id, with_timer, without_timer, Has, InOrder, has_id, if◌then◌else◌, false_from_ne_true, Kind, option_map, State, handle, ◌==◌, begun_at, due_after, started, restarted, suc, slice_get, AreAll}
use Rattle.uv_order.proofs.Contents.{slot_with, turned_to, holds, Turns, set_turns, emptied, emptied_turns, as_handle}
use Rattle.uv_order.proofs.IdLists.{same, other, distinct_without, distinct_but, AreSome, some_alike, some_less, all_alike, all_less, all_more, has_but_one, but_middle}
use Rattle.uv_order.proofs.TimerKeys.{one_id, not_before_itself, before_each, still_has, had, in_order_without, IsNew, has_new, has_old, new_or_old, in_order_with, is_new}

-- ---- slots

-- the handle of an id
abbrev pub held_at : List (Slot Content) → Id → Option HandleRecord
held_at slots id = handle_in (held slots id)

abbrev pub slot_of : Id → HandleRecord → Slot Content
slot_of id h = slot_with id (Some (Content.Handle h))

-- the handle of an id is put in its slot
abbrev pub put : List (Slot Content) → Id → HandleRecord → List (Slot Content)
put slots id h = slice_set slots id.slot (slot_of id h)

-- an id that stands for a handle stands for what its slot holds
-- what is held is called so
abbrev pub name_in : Content → Var
name_in (Content.Handle h) = h.name
name_in (Content.Request r) = r.name

abbrev pub name_at : List (Slot Content) → Id → Option Var
name_at slots id = option_map name_in (held slots id)

-- nothing is held that wasn't, nor called otherwise
abbrev pub NoNewNames : List (Slot Content) → List (Slot Content) → Type 0
NoNewNames now was = (i : Id) (v : Var) → name_at now i ≡ Some v → name_at was i ≡ Some v

-- one id turns, and what it stands for, if anything, is called as before
pub names_turned : (slots more : List (Slot Content)) (id : Id) (was is : Option Content) → Turns slots more id was is →
    ((v : Var) → option_map name_in is ≡ Some v → option_map name_in was ≡ Some v) → NoNewNames more slots
names_turned slots more id was is t f i v e = grind arith

pub is_held : (slots : List (Slot Content)) (id : Id) (h : HandleRecord) → held_at slots id ≡ Some h → held slots id ≡ Some (Content.Handle h)
is_held slots id h e = as_handle (held slots id) h e

pub put_turns : (slots : List (Slot Content)) (id : Id) (h x : HandleRecord) → held_at slots id ≡ Some h →
    Turns slots (put slots id x) id (Some (Content.Handle h)) (Some (Content.Handle x))
put_turns slots id h x e = let k = is_held slots id h e in
    assumption (k, set_turns slots id (Some (Content.Handle x)) (holds slots id (Content.Handle h) k).at)

-- the record of a handle changes, which is called as before
pub put_names : (slots : List (Slot Content)) (id : Id) (h x : HandleRecord) → held_at slots id ≡ Some h → x.name ≡ h.name →
    NoNewNames (put slots id x) slots
put_names slots id h x e same_name = names_turned slots (put slots id x) id _ _ (put_turns slots id h x e) (λ v f. ap Some (sym same_name) ∙ f)

pub put_same : (slots : List (Slot Content)) (id : Id) (h x : HandleRecord) → held_at slots id ≡ Some h → held_at (put slots id x) id ≡ Some x
put_same slots id h x e = ap handle_in (put_turns slots id h x e).here

pub put_other : (slots : List (Slot Content)) (id i : Id) (h x : HandleRecord) → held_at slots id ≡ Some h → (i ≡ id → ⊥) →
    held_at (put slots id x) i ≡ held_at slots i
put_other slots id i h x e d = ap handle_in ((put_turns slots id h x e).others i d)

pub emptied_same : (slots : List (Slot Content)) (id : Id) (h : HandleRecord) (generation : ℕ) → held_at slots id ≡ Some h → held_at (emptied slots
    id generation) id ≡ None
emptied_same slots id h generation e = ap handle_in (emptied_turns slots id (Content.Handle h) generation (is_held slots id h e)).here

pub emptied_other : (slots : List (Slot Content)) (id i : Id) (h : HandleRecord) (generation : ℕ) → held_at slots id ≡ Some h → (i ≡ id → ⊥) →
    held_at (emptied slots id generation) i ≡ held_at slots i
emptied_other slots id i h generation e d = ap handle_in ((emptied_turns slots id (Content.Handle h) generation (is_held slots id h e)).others i d)

-- ---- a slot that is taken

-- one more handle is held, under an id under which nothing was
pub record Grown (slots more : List (Slot Content)) (id : Id) (x : HandleRecord) : Type 0 where
  pub here : held_at more id ≡ Some x
  pub others : (i : Id) → (i ≡ id → ⊥) → held_at more i ≡ held_at slots i
  pub new : held_at slots id ≡ None

pub grown : (slots more : List (Slot Content)) (id : Id) (x : HandleRecord) → Turns slots more id None (Some (Content.Handle x)) →
    Grown slots more id x
grown slots more id x t = record { here = ap handle_in t.here; others = λ i d. ap handle_in (t.others i d); new = ap handle_in t.before }

-- so what is held after each is one equation
pub put_at : (slots : List (Slot Content)) (id : Id) (h x : HandleRecord) → held_at slots id ≡ Some h → (i : Id) →
    held_at (put slots id x) i ≡ (if same_id i id then Some x else held_at slots i)
put_at slots id h x e i = grind (arith, turned_to (put_turns slots id h x e))

pub grown_at : {slots more : List (Slot Content)} {id : Id} {x : HandleRecord} → Grown slots more id x → (i : Id) →
    held_at more i ≡ (if same_id i id then Some x else held_at slots i)
grown_at {slots = slots} {more = more} {id = id} {x = x} g i = grind (arith, same, other)

-- no handle changes
abbrev pub SameHandles : List (Slot Content) → List (Slot Content) → Type 0
SameHandles more slots = (i : Id) → held_at more i ≡ held_at slots i

-- one id turns, which stands for no handle before and after
pub same_handles : (slots more : List (Slot Content)) (id : Id) (was is : Option Content) → Turns slots more id was is → handle_in was ≡ None →
    handle_in is ≡ None → SameHandles more slots
same_handles slots more id was is t e f i = grind arith

-- ---- ids of handles of which something holds

pub record Fits (slots : List (Slot Content)) (P : HandleRecord → Type 0) (id : Id) : Type 0 where
  pub handle : HandleRecord
  pub holds : held_at slots id ≡ Some handle
  pub fits : P handle

pub its_handle : (slots : List (Slot Content)) (P : HandleRecord → Type 0) (id : Id) (h : HandleRecord) → held_at slots id ≡ Some h → Fits slots P
    id → P h
its_handle slots P id h e f = subst P (same_Some _ _ (sym f.holds ∙ e)) f.fits

-- another handle is changed, or this one in a way that lets it fit
pub fits_put : (slots : List (Slot Content)) (P : HandleRecord → Type 0) (id : Id) (h x : HandleRecord) → held_at slots id ≡ Some h → (P h → P x) →
    (i : Id) → Fits slots P i → Fits (put slots id x) P i
fits_put slots P id h x e f i k = grind (arith, same, put_at slots id h x e)

pub fits_other : (slots : List (Slot Content)) (P : HandleRecord → Type 0) (id : Id) (h x : HandleRecord) → held_at slots id ≡ Some h → (i : Id) →
    (i ≡ id → ⊥) → Fits slots P i → Fits (put slots id x) P i
fits_other slots P id h x e i d k = record { handle = k.handle; holds = put_other slots id i h x e d ∙ k.holds; fits = k.fits }

-- it fitted before, unless it is the one that was changed
pub fitted : (slots : List (Slot Content)) (P : HandleRecord → Type 0) (id : Id) (h x : HandleRecord) → held_at slots id ≡ Some h → (i : Id) →
    (i ≡ id → ⊥) → Fits (put slots id x) P i → Fits slots P i
fitted slots P id h x e i d k = record { handle = k.handle; holds = sym (put_other slots id i h x e d) ∙ k.holds; fits = k.fits }

-- whoever fits then is another one that fitted before, where the changed one doesn't fit
fits_apart : (slots : List (Slot Content)) (P : HandleRecord → Type 0) (id : Id) (h x : HandleRecord) → held_at slots id ≡ Some h → (P x → ⊥) →
    (i : Id) → Fits (put slots id x) P i → (i ≡ id → ⊥) × Fits slots P i
fits_apart slots P id h x e d i l = (apart, fitted slots P id h x e i apart l) where
  apart : i ≡ id → ⊥
  apart is = d (its_handle (put slots id x) P id x (put_same slots id h x e) (subst (Fits (put slots id x) P) is l))

fits_not : (slots : List (Slot Content)) (P : HandleRecord → Type 0) (id : Id) (h : HandleRecord) → held_at slots id ≡ Some h → (P h → ⊥) → (i : Id) →
    Fits slots P i → i ≡ id → ⊥
fits_not slots P id h e f i k is = f (its_handle slots P id h e (subst (Fits slots P) is k))

-- another list of slots has the same handle there
fits_by : (slots more : List (Slot Content)) (P : HandleRecord → Type 0) (i : Id) → held_at more i ≡ held_at slots i → Fits slots P i → Fits more P i
fits_by slots more P i f k = record { handle = k.handle; holds = f ∙ k.holds; fits = k.fits }

-- whoever fits is not the new one, and fits still
pub fits_grown : (slots more : List (Slot Content)) (P : HandleRecord → Type 0) (id : Id) (x : HandleRecord) → Grown slots more id x → (i : Id) →
    Fits slots P i → (i ≡ id → ⊥) × Fits more P i
fits_grown slots more P id x g i k = grind arith

-- a slot is emptied, whose handle fitted nowhere
pub fits_emptied : (slots : List (Slot Content)) (P : HandleRecord → Type 0) (id : Id) (h : HandleRecord) (n : ℕ) → held_at slots id ≡ Some h →
    (i : Id) → (i ≡ id → ⊥) → Fits slots P i → Fits (emptied slots id n) P i
fits_emptied slots P id h n e i d k = fits_by slots (emptied slots id n) P i (emptied_other slots id i h n e d) k

pub fitted_emptied : (slots : List (Slot Content)) (P : HandleRecord → Type 0) (id : Id) (h : HandleRecord) (n : ℕ) → held_at slots id ≡ Some h →
    (i : Id) → Fits (emptied slots id n) P i → (i ≡ id → ⊥) × Fits slots P i
fitted_emptied slots P id h n e i l = grind (arith, emptied_same, emptied_other)

-- ---- lists of such ids, on which none stands twice

abbrev pub Lists : List (Slot Content) → (HandleRecord → Type 0) → List Id → Type 0
Lists slots P ids = AreSome (Fits slots P) ids

pub lists_put : (slots : List (Slot Content)) (P : HandleRecord → Type 0) (id : Id) (h x : HandleRecord) (ids : List Id) → held_at slots id ≡ Some h →
    (P h → P x) → Lists slots P ids → Lists (put slots id x) P ids
lists_put slots P id h x ids e f k = some_alike (fits_put slots P id h x e f) k

pub lists_without : (slots : List (Slot Content)) (P : HandleRecord → Type 0) (id : Id) (h x : HandleRecord) (ids : List Id) →
    held_at slots id ≡ Some h → Lists slots P ids → Lists (put slots id x) P (without_id ids id)
lists_without slots P id h x ids e k = some_less id (fits_other slots P id h x e) k

pub lists_grown : (slots more : List (Slot Content)) (P : HandleRecord → Type 0) (id : Id) (x : HandleRecord) (ids : List Id) →
    Grown slots more id x → Lists slots P ids → Lists more P ids
lists_grown slots more P id x ids g k = some_alike (λ i a. (fits_grown slots more P id x g i a).1) k

pub lists_emptied : (slots : List (Slot Content)) (P : HandleRecord → Type 0) (id : Id) (h : HandleRecord) (n : ℕ) (ids : List Id) →
    held_at slots id ≡ Some h → (P h → ⊥) → Lists slots P ids → Lists (emptied slots id n) P ids
lists_emptied slots P id h n ids e d k = some_alike (λ i f. fits_emptied slots P id h n e i (fits_not slots P id h e d i f) f) k

-- a handle that doesn't fit is on no such list
pub not_listed : (slots : List (Slot Content)) (P : HandleRecord → Type 0) (id : Id) (h : HandleRecord) (ids : List Id) → held_at slots id ≡ Some h →
    (P h → ⊥) → ((i : Id) → has_id ids i ≡ true → Fits slots P i) → has_id ids id ≡ false
not_listed slots P id h ids e f each = false_from_ne_true (has_id ids id) (λ on. f (its_handle slots P id h e (each id on)))

-- ---- all handles of which something holds

abbrev pub Everyone : List (Slot Content) → (HandleRecord → Type 0) → List Id → Type 0
Everyone slots P ids = AreAll (Fits slots P) ids

-- a handle is changed that fits before and after, or doesn't
pub everyone_put : (slots : List (Slot Content)) (P : HandleRecord → Type 0) (id : Id) (h x : HandleRecord) (ids : List Id) →
    held_at slots id ≡ Some h → (P h → P x) → (P x → P h) → Everyone slots P ids → Everyone (put slots id x) P ids
everyone_put slots P id h x ids e f g k = all_alike (fits_put slots P id h x e f) (grind (arith, holds, same, other, fitted, its_handle, put_same)) k

-- one that doesn't fit any more is taken off
pub everyone_without : (slots : List (Slot Content)) (P : HandleRecord → Type 0) (id : Id) (h x : HandleRecord) (ids : List Id) →
    held_at slots id ≡ Some h → (P x → ⊥) → Everyone slots P ids → Everyone (put slots id x) P (without_id ids id)
everyone_without slots P id h x ids e g k =
    all_less id (fits_other slots P id h x e) (fits_apart slots P id h x e g) (has_but_one ids id) (distinct_without ids id k.distinct) k

-- one that fits from now on is put among them
pub everyone_more : (slots : List (Slot Content)) (P : HandleRecord → Type 0) (id : Id) (h x : HandleRecord) (xs ys : List Id) →
    held_at slots id ≡ Some h → (P h → ⊥) → P x → Everyone slots P (xs ++ ys) → Everyone (put slots id x) P (xs ++ id ∷ ys)
everyone_more slots P id h x xs ys e f g k = search (all_more, fits_not, fits_other, fitted, holds, put_same)

-- a new one doesn't fit, or it is listed, anywhere
pub everyone_grown : (slots more : List (Slot Content)) (P : HandleRecord → Type 0) (id : Id) (x : HandleRecord) (ids : List Id) →
    Grown slots more id x → (P x → ⊥) → Everyone slots P ids → Everyone more P ids
everyone_grown slots more P id x ids g d k = grind arith

pub everyone_listed : (slots more : List (Slot Content)) (P : HandleRecord → Type 0) (id : Id) (x : HandleRecord) (xs ys : List Id) →
    Grown slots more id x → P x → Everyone slots P (xs ++ ys) → Everyone more P (xs ++ id ∷ ys)
everyone_listed slots more P id x xs ys g fits k = all_more xs ys id (fits_grown slots more P id x g)
    (λ i d a. fits_by more slots P i (sym (g.others i d)) a) (record { handle = x; holds = g.here; fits = fits }) k

pub everyone_emptied : (slots : List (Slot Content)) (P : HandleRecord → Type 0) (id : Id) (h : HandleRecord) (n : ℕ) (ids : List Id) →
    held_at slots id ≡ Some h → (P h → ⊥) → Everyone slots P ids → Everyone (emptied slots id n) P ids
everyone_emptied slots P id h n ids e d k = all_alike (λ i f. fits_emptied slots P id h n e i (fits_not slots P id h e d i f) f)
    (λ i l. (fitted_emptied slots P id h n e i l).1) k

-- the one whose slot is emptied is the first of a list, and leaves it
pub everyone_rest : (slots : List (Slot Content)) (P : HandleRecord → Type 0) (id : Id) (h : HandleRecord) (n : ℕ) (xs ys : List Id) →
    held_at slots id ≡ Some h → Everyone slots P (xs ++ id ∷ ys) → Everyone (emptied slots id n) P (xs ++ ys)
everyone_rest slots P id h n xs ys e k = all_less id (fits_emptied slots P id h n e) (fitted_emptied slots P id h n e)
    (but_middle xs ys id k.distinct) (distinct_but xs ys id k.distinct) k

-- ---- the timers

pub record IsSet (key : Due) (h : HandleRecord) : Type 0 where
  pub kind : h.kind ≡ Kind.Timer
  pub active : h.active ≡ true
  pub due : h.due ≡ key

-- the order of timers has just the active ones, and their start numbers are drawn
pub record Times (slots : List (Slot Content)) (drawn : ℕ) (ts : List (Due × Id)) : Type 0 where
  pub each : (key : Due) (id : Id) → Has ts key id → Fits slots (IsSet key) id × (key.start < drawn)
  pub all : (key : Due) (id : Id) → Fits slots (IsSet key) id → Has ts key id
  pub sorted : InOrder ts

-- a handle is changed that is no active timer, before or after
pub times_put : (slots : List (Slot Content)) (drawn : ℕ) (ts : List (Due × Id)) (id : Id) (h x : HandleRecord) → held_at slots id ≡ Some h →
    ((key : Due) → IsSet key h → IsSet key x) → ((key : Due) → IsSet key x → IsSet key h) → Times slots drawn ts → Times (put slots id x) drawn ts
times_put slots drawn ts id h x e f g k = record {
  each = λ key i l. let n = k.each key i l in (fits_put slots (IsSet key) id h x e (f key) i n.0, n.1);
  all = λ key i l. k.all key i (grind (arith, holds, same, other, fitted, its_handle, put_same));
  sorted = k.sorted;
}

-- an active timer becomes inactive
pub times_without : (slots : List (Slot Content)) (drawn : ℕ) (ts : List (Due × Id)) (key : Due) (id : Id) (h x : HandleRecord) →
    held_at slots id ≡ Some h → IsSet key h → x.active ≡ false → Times slots drawn ts → Times (put slots id x) drawn (without_timer ts key)
times_without slots drawn ts key id h x e a off k = record {
  each = λ other_key i l.
      let m = had ts key other_key i k.sorted l in
      let n = k.each other_key i m.0 in (grind (arith, fits_other, its_handle));
  all = λ other_key i l.
      let b = fits_apart slots (IsSet other_key) id h x e (grind arith) i l in
      still_has ts key other_key i (k.all other_key i b.1) (λ same_key. b.0 (one_id ts key i id k.sorted
      (subst (λ (q : Due). Has ts q i) same_key (k.all other_key i b.1)) (k.all key id (record { handle = h; holds = e; fits = a }))));
  sorted = in_order_without ts key k.sorted;
}

-- the first one becomes inactive
pub times_rest : (slots : List (Slot Content)) (drawn : ℕ) (t : Due × Id) (ts : List (Due × Id)) (h x : HandleRecord) → held_at slots t.1 ≡ Some h →
    x.active ≡ false → Times slots drawn (t ∷ ts) → Times (put slots t.1 x) drawn ts
times_rest slots drawn t ts h x e off k = record {
  each = λ key i l. let n = k.each key i (inr l) in (
    fits_other slots (IsSet key) t.1 h x e i
        (λ is. not_before_itself t.0 key (same_key key i is n.0) (before_each ts t.0 key i k.sorted.0 l)) n.0,
    n.1,
  );
  all = λ key i l. let b = fits_apart slots (IsSet key) t.1 h x e (grind arith) i l in
      elim (k.all key i b.1) [ inl is ↦ absurd (b.0 (sym is.1)) | inr behind ↦ behind ];
  sorted = k.sorted.1;
} where
  same_key : (key : Due) (i : Id) → i ≡ t.1 → Fits slots (IsSet key) i → t.0 ≡ key
  same_key key i is f = sym (its_handle slots (IsSet t.0) t.1 h e (k.each t.0 t.1 (inl (refl, refl))).0).due
      ∙ (its_handle slots (IsSet key) t.1 h e (subst (Fits slots (IsSet key)) is f)).due

-- an inactive one becomes active, with a start number that is drawn now
pub times_with : (slots : List (Slot Content)) (drawn more : ℕ) (ts : List (Due × Id)) (key : Due) (id : Id) (h x : HandleRecord) → held_at slots id
    ≡ Some h →
    h.active ≡ false → IsSet key x → key.start ≡ drawn → drawn < more → Times slots drawn ts → Times (put slots id x) more (with_timer ts key id)
times_with slots drawn more ts key id h x e off a number less k = record {
  each = λ other_key i l. elim (new_or_old ts key other_key id i fresh l) [
    | inl new ↦ (grind (arith, holds, put_same))
    | inr old ↦ let m = k.each other_key i old in
        (fits_put slots (IsSet other_key) id h x e (λ b. absurd (grind arith)) i m.0, omega (arith, m.1, less))
  ];
  all = λ other_key i l. at other_key i l (same_id i id) refl;
  sorted = in_order_with ts key id k.sorted;
} where
  fresh : IsNew key ts
  fresh = is_new ts key (λ other_key i l. rw number (k.each other_key i l).1)

  at : (other_key : Due) (i : Id) → Fits (put slots id x) (IsSet other_key) i → (b : Bool) → same_id i id ≡ b → Has (with_timer ts key id) other_key i
  at other_key i l true s =
      let is = same i id s in
      let due : x.due ≡ other_key = (its_handle (put slots id x) (IsSet other_key) id x (put_same slots id h x e)
      (subst (Fits (put slots id x) (IsSet other_key)) is l)).due in
      subst (λ (q : Due). Has (with_timer ts key id) q i) (sym a.due ∙ due)
      (subst (Has (with_timer ts key id) key) (sym is) (has_new ts key id fresh))
  at other_key i l false s = has_old ts key other_key id i fresh (k.all other_key i (fitted slots (IsSet other_key) id h x e i (other i id s) l))

-- one handle more, which is no active timer
pub times_grown : (slots more : List (Slot Content)) (drawn : ℕ) (ts : List (Due × Id)) (id : Id) (x : HandleRecord) → Grown slots more id x →
    ((key : Due) → IsSet key x → ⊥) → Times slots drawn ts → Times more drawn ts
times_grown slots more drawn ts id x g d k = grind arith

-- and one less
pub times_emptied : (slots : List (Slot Content)) (drawn : ℕ) (ts : List (Due × Id)) (id : Id) (h : HandleRecord) (n : ℕ) →
    held_at slots id ≡ Some h → ((key : Due) → IsSet key h → ⊥) → Times slots drawn ts → Times (emptied slots id n) drawn ts
times_emptied slots drawn ts id h n e d k = grind (arith, fits_emptied, fitted_emptied, its_handle)

-- ---- one handle's record

-- the record of a handle changes, which is called as before, and nothing else of the slots, of the names and of the requests
pub record Touches (s : State) (id : Id) (h x : HandleRecord) (u : State) : Type 0 where
  pub holds : handle s id ≡ Some h
  pub arena : u.arena ≡ record s.arena { slots = put s.arena.slots id x }
  pub names : u.names ≡ s.names
  pub waiting : u.waiting ≡ s.waiting
  pub running : u.running ≡ s.running
  pub done : u.done ≡ s.done
  pub name : x.name ≡ h.name

set_twice : (slots : List (Slot Content)) (i : ℕ) (a b : Slot Content) → slice_set (slice_set slots i a) i b ≡ slice_set slots i b
set_twice (x ∷ xs) (suc i) a b = ap (λ (ys : List (Slot Content)). x ∷ ys) (set_twice xs i a b)
set_twice each i a b = assumption

set_itself : (slots : List (Slot Content)) (i : ℕ) (a : Slot Content) → slice_get slots i ≡ Some a → slots ≡ slice_set slots i a
set_itself (x ∷ xs) (suc i) a e = ap (λ (ys : List (Slot Content)). x ∷ ys) (set_itself xs i a e)
set_itself each i a e = grind arith

-- it stays
pub still_touches : (s : State) (ready : List Id) (id : Id) (h : HandleRecord) → handle s id ≡ Some h → Touches s id h h (record s { ready = ready })
still_touches s ready id h e = grind (arith, holds, is_held, same, set_itself)

-- a timer is started
pub start_touches : (s u : State) (id : Id) (h x : HandleRecord) (timeout repeat : ℕ) → Touches s id h x u →
    Touches s id h (begun_at (due_after u timeout) repeat h) (started u id h timeout repeat)
start_touches s u id h x timeout repeat t = grind (arith, set_twice)

-- it is started again where it repeats
abbrev pub again_as : State → HandleRecord → HandleRecord → HandleRecord
again_as u h x = if h.repeat == 0 then x else begun_at (due_after u h.repeat) h.repeat h

pub again_touches : (s u : State) (id : Id) (h x : HandleRecord) → Touches s id h x u → Touches s id h (again_as u h x) (restarted u id h)
again_touches s u id h x t = grind (arith, start_touches)
