-- A slot that holds an open request: no step of the loop tells it, nor changes it.
use Rattle.uv_apart.proofs.Names.{◌≡◌, ℕ, suc, ◌==◌, List, [], ◌∷◌, ◌++◌, length, Bool, true, false, Option, Some, None, refl, ap, sym, subst, ◌∙◌, arith, not, ◌||◌, slice_get, slice_set, if◌then◌else◌, list_any, eq-eqb, eqb-true, elements, set_comm, same_Some, Id, Event, Program, HandleRecord, Slot, held, Content, Request, content_keeps, content_pends, is_used, request_in, after, State, handle, request, has_id, IsOpened, has_new_middle, reached, is_open}
use Rattle.uv_work.specs.declared.content.Content.TheVariants as content
use Rattle.uv_order.proofs.Documents.{holds_after}
use Rattle.uv_apart.proofs.Changed.{Change, Leaves, Hides, seen_in}

-- the slot of an id, with this request
abbrev pub asked : Id → Request → Slot Content
asked id r = record { generation = id.generation; content = Some (content.Request r) }

-- ---- lists

apart_numbers : (n m : ℕ) → not (n == m) ≡ true → m ≡ n → ⊥
apart_numbers n m e f = grind arith

pub get_set_other : {A : Type 0} (xs : List A) (i j : ℕ) (x : A) → (j ≡ i → ⊥) → slice_get (slice_set xs i x) j ≡ slice_get xs j
get_set_other xs i j x d = grind (arith, elements)

pub get_set_same : (slots : List (Slot Content)) (i : ℕ) (x y : Slot Content) → slice_get slots i ≡ Some y →
    slice_get (slice_set slots i x) i ≡ Some x
get_set_same slots i x y e = grind (arith, elements)

pub set_there : (slots : List (Slot Content)) (n : ℕ) (x : Slot Content) → slice_get slots n ≡ Some x → slice_set slots n x ≡ slots
set_there (y ∷ ys) (suc n) x e = ap (λ (zs : List (Slot Content)). y ∷ zs) (set_there ys n x e)
set_there each e1 x e = grind arith

set_pushed : (slots : List (Slot Content)) (n : ℕ) (x y z : Slot Content) → slice_get slots n ≡ Some z →
    slice_set slots n x ++ y ∷ [] ≡ slice_set (slots ++ y ∷ []) n x
set_pushed (w ∷ ws) (suc n) x y z e = ap (λ (zs : List (Slot Content)). w ∷ zs) (set_pushed ws n x y z e)
set_pushed each e1 x y z e = grind arith

set_length : (slots : List (Slot Content)) (n : ℕ) (x : Slot Content) → length (slice_set slots n x) ≡ length slots
set_length slots n x = grind (arith, elements)

-- another one is set for which the test is the same
any_set : (f : Option Content → Bool) (slots : List (Slot Content)) (n : ℕ) (x y : Slot Content) → slice_get slots n ≡ Some y →
    f x.content ≡ f y.content → list_any (λ (slot : Slot Content). f slot.content) (slice_set slots n x)
    ≡ list_any (λ (slot : Slot Content). f slot.content) slots
any_set f (z ∷ zs) (suc n) x y e k = ap (λ (b : Bool). f z.content || b) (any_set f zs n x y e k)
any_set f each e2 x y e k = grind arith

-- ---- the slot of an open request

-- what holds of a state around a request that one of its slots holds
pub record Holds (s : State) (id : Id) (r : Request) : Type 0 where
  pub there : slice_get s.arena.slots id.slot ≡ Some (asked id r)
  pub handles : (i : Id) (h : HandleRecord) → handle s i ≡ Some h → not (i.slot == id.slot) ≡ true
  pub free : (n : ℕ) (ns : List ℕ) → s.arena.free ≡ n ∷ ns → not (n == id.slot) ≡ true
  pub ended : (i : Id) (ids : List Id) → s.done.yet ≡ i ∷ ids → not (i.slot == id.slot) ≡ true

pub request_there : (slots : List (Slot Content)) (id : Id) (r : Request) → request_in (held slots id) ≡ Some r →
    slice_get slots id.slot ≡ Some (asked id r)
request_there slots id r e = grind arith

test_apart : (a b : ℕ) → (a ≡ b → ⊥) → not (a == b) ≡ true
test_apart a b f = grind arith

pub same_request : (slots : List (Slot Content)) (i id : Id) (q r : Request) → slice_get slots i.slot ≡ Some (asked i q) →
    slice_get slots id.slot ≡ Some (asked id r) → i.slot ≡ id.slot → q ≡ r
same_request slots i id q r e f g = grind arith

-- the front of the free list is an empty slot
not_free : (p : Program) (es : List Event) (n : ℕ) (ns : List ℕ) (id : Id) (r : Request) → (after p es).arena.free ≡ n ∷ ns →
    slice_get (after p es).arena.slots id.slot ≡ Some (asked id r) → n ≡ id.slot → ⊥
not_free p es n ns id r e f g =
    let k = rw e at (holds_after p es).holds.kept.free in
    let slot : k.0.slot ≡ asked id r = same_Some k.0.slot (asked id r) (sym k.0.there ∙ ap (slice_get (after p es).arena.slots) g ∙ f) in
    cc (sym k.0.empty ∙ ap (λ (x : Slot Content). x.content) slot)

pub holds_open : (p : Program) (es : List Event) (id : Id) (r : Request) → IsOpened (after p es) id → request (after p es) id ≡ Some r →
    Holds (after p es) id r
holds_open p es id r k e =
    let s = after p es in
    let there = request_there s.arena.slots id r e in
    record {
      there = there;
      handles = λ i h f. test_apart i.slot id.slot (grind arith);
      free = λ n ns f. test_apart n id.slot (not_free p es n ns id r f there);
      ended = λ i ids f. test_apart i.slot id.slot (not_ended i ids f there);
    }
  where
    not_ended : (i : Id) (ids : List Id) → (after p es).done.yet ≡ i ∷ ids → slice_get (after p es).arena.slots id.slot ≡ Some (asked id r) →
        i.slot ≡ id.slot → ⊥
    not_ended i ids f there g =
        let s = after p es in
        let on : has_id (s.done.list ++ s.done.yet) i ≡ true = rw f (has_new_middle s.done.list ids i) in
        let its = (reached p es).done.each i on in
        let same = same_request s.arena.slots i id its.its r (request_there s.arena.slots i its.its its.holds) there g in
        let open_one : is_open r.outcome ≡ true = subst (λ (x : Request). is_open x.outcome ≡ true) (same_Some k.its r (sym k.holds ∙ e)) k.opened in
        let ended : is_open r.outcome ≡ false = subst (λ (x : Request). is_open x.outcome ≡ false) same its.ended in
        cc (sym open_one ∙ ended)

-- ---- what the slot holds is set

-- to this request, and who runs, who waits and who is done is changed
abbrev pub working : (ℕ → ℕ) → (List Id → List Id) → (List (Option Id) → List (Option Id)) → (List Id → List Id) → Id → Request → Change
working clock waiting running done id r = record {
  clock = clock;
  waiting = waiting;
  running = running;
  done = done;
  slots = λ slots. slice_set slots id.slot (asked id r);
  stays = λ n. not (n == id.slot);
}

-- a handle, or some request, is seen in each slot as before
seen_same : (slots : List (Slot Content)) (id i : Id) (r q : Request) → slice_get slots id.slot ≡ Some (asked id r) →
    seen_in (held (slice_set slots id.slot (asked id q)) i) ≡ seen_in (held slots i)
seen_same slots id i r q e = by (i.slot == id.slot) refl where
  one : (b : Bool) → (id.generation == i.generation) ≡ b →
      seen_in (if b then Some (content.Request q) else None) ≡ seen_in (if b then Some (content.Request r) else None)
  one b f = grind arith

  by : (b : Bool) → (i.slot == id.slot) ≡ b → seen_in (held (slice_set slots id.slot (asked id q)) i) ≡ seen_in (held slots i)
  by false f = grind (arith, get_set_other, eq-eqb)
  by true f = grind (arith, eqb-true, get_set_same)

module _ (clock : ℕ → ℕ) (waiting : List Id → List Id) (running : List (Option Id) → List (Option Id)) (done : List Id → List Id)
    (id : Id) (q : Request) where
  pub working_leaves : Leaves (working clock waiting running done id q)
  working_leaves = record {
    sets = λ slots n x e. set_comm slots id.slot n (asked id q) x (apart_numbers n id.slot e);
    gets = λ slots n e. get_set_other slots id.slot n (asked id q) (λ f. apart_numbers n id.slot e (sym f));
  }

  pub working_hides : (s : State) (r : Request) → Holds s id r → ((i : Id) → waiting s.waiting ++ i ∷ [] ≡ waiting (s.waiting ++ i ∷ [])) →
      Hides (working clock waiting running done id q) s
  working_hides s r k waits = record {
    as_many = set_length s.arena.slots id.slot (asked id q);
    pushes = λ x. set_pushed s.arena.slots id.slot (asked id q) x (asked id r) k.there;
    seen = λ i. seen_same s.arena.slots id i r q k.there;
    keeps = any_set content_keeps s.arena.slots id.slot (asked id q) (asked id r) k.there refl;
    pends = any_set content_pends s.arena.slots id.slot (asked id q) (asked id r) k.there refl;
    used = any_set is_used s.arena.slots id.slot (asked id q) (asked id r) k.there refl;
    handles = k.handles;
    free = k.free;
    ended = k.ended;
    waits = waits;
  }
