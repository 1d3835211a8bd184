-- What the slots hold, by their ids, and how one of them changes.
use Rattle.uv_order.proofs.Names.{◌≡◌, ℕ, ◌==◌, List, ◌∷◌, ◌++◌, Bool, true, false, cond, Option, Some, None, length, slice_get, slice_set, refl, ap, ◌∙◌, arith, elements, option_and_then, eq-eqb, eqb-true, false_from_ne_true, if◌then◌else◌, slice_get_past, Id, HandleRecord, Slot, held_in, held, Content, Request, handle_in, request_in, same_id, []}
use Rattle.uv_order.proofs.IdLists.{same, other, itself}

-- ---- slots

-- what an id stands for, by its slot
abbrev pub look : Id → Option (Slot Content) → Option Content
look id slot = option_and_then (held_in id) slot

-- a slot with the generation of an id
abbrev pub slot_with : Id → Option Content → Slot Content
slot_with id c = record { generation = id.generation; content = c }

pub get_set_same : (slots : List (Slot Content)) (i : ℕ) (x y : Slot Content) → slice_get slots i ≡ Some y → slice_get (slice_set slots i x) i ≡
    Some x
get_set_same slots i x y e = grind (arith, elements)

pub get_set_other : (slots : List (Slot Content)) (i j : ℕ) (x : Slot Content) → (j ≡ i → ⊥) → slice_get (slice_set slots i x) j ≡ slice_get slots j
get_set_other slots i j x d = grind (arith, elements)

pub get_push : (slots : List (Slot Content)) (x y : Slot Content) (i : ℕ) → slice_get slots i ≡ Some y → slice_get (slots ++ x ∷ []) i ≡ Some y
get_push slots x y i e = grind (arith, elements)

none_at_end : (slots : List (Slot Content)) → slice_get slots (length slots) ≡ None
none_at_end slots = slice_get_past slots (length slots) (omega arith)

-- the slot of an id is there, with its generation
pub record IsThere (slots : List (Slot Content)) (id : Id) : Type 0 where
  pub slot : Slot Content
  pub there : slice_get slots id.slot ≡ Some slot
  pub generation : slot.generation ≡ id.generation

-- and holds something
pub record Holds (slots : List (Slot Content)) (id : Id) (c : Content) : Type 0 where
  pub at : IsThere slots id
  pub content : at.slot.content ≡ Some c

holds_in : (slots : List (Slot Content)) (id : Id) (c : Content) (o : Option (Slot Content)) → slice_get slots id.slot ≡ o → look id o ≡ Some c →
    Holds slots id c
holds_in slots id c None e k = cc k
holds_in slots id c (Some slot) e k = by (slot.generation == id.generation) refl k where
  by : (b : Bool) → (slot.generation == id.generation) ≡ b → cond b slot.content None ≡ Some c → Holds slots id c
  by true f l = record { at = record { slot = slot; there = e; generation = eqb-true slot.generation id.generation f }; content = l }
  by false f l = cc l

pub holds : (slots : List (Slot Content)) (id : Id) (c : Content) → held slots id ≡ Some c → Holds slots id c
holds slots id c e = holds_in slots id c (slice_get slots id.slot) refl e

in_slot : (id : Id) (slot : Slot Content) → slot.generation ≡ id.generation → look id (Some slot) ≡ slot.content
in_slot id slot e = rw (eq-eqb slot.generation id.generation e) refl

-- ---- one id turns

-- what is held under an id turns from this into that, and every other id stands for what it did
pub record Turns (slots more : List (Slot Content)) (id : Id) (was is : Option Content) : Type 0 where
  pub before : held slots id ≡ was
  pub here : held more id ≡ is
  pub others : (i : Id) → (i ≡ id → ⊥) → held more i ≡ held slots i

-- so it is one equation
pub turned_to : {slots more : List (Slot Content)} {id : Id} {was is : Option Content} → Turns slots more id was is → (i : Id) →
    held more i ≡ (if same_id i id then is else held slots i)
turned_to {slots = slots} {more = more} {id = id} {is = is} t i = at (same_id i id) refl where
  at : (b : Bool) → same_id i id ≡ b → held more i ≡ (if b then is else held slots i)
  at true s = ap (held more) (same i id s) ∙ t.here
  at false s = t.others i (other i id s)

turns : (slots more : List (Slot Content)) (id : Id) (was is : Option Content) → held slots id ≡ was →
    ((i : Id) → held more i ≡ (if same_id i id then is else held slots i)) → Turns slots more id was is
turns slots more id was is e are = record {
  before = e;
  here = are id ∙ rw (itself id id refl) refl;
  others = λ i d. are i ∙ rw (false_from_ne_true (same_id i id) (λ s. d (same i id s))) refl;
}

-- something is put into its slot
set_held : (slots : List (Slot Content)) (id i : Id) (c : Option Content) (old : Slot Content) → slice_get slots id.slot ≡ Some old →
    old.generation ≡ id.generation → held (slice_set slots id.slot (slot_with id c)) i ≡ (if same_id i id then c else held slots i)
set_held slots id i c old e f = grind (arith, get_set_same, get_set_other)

pub set_turns : (slots : List (Slot Content)) (id : Id) (c : Option Content) (k : IsThere slots id) →
    Turns slots (slice_set slots id.slot (slot_with id c)) id k.slot.content c
set_turns slots id c k = turns slots _ id _ _ (ap (look id) k.there ∙ in_slot id k.slot k.generation)
    (λ i. set_held slots id i c k.slot k.there k.generation)

-- a slot that is emptied, whatever its generation is then
abbrev pub emptied : List (Slot Content) → Id → ℕ → List (Slot Content)
emptied slots id generation = slice_set slots id.slot (record { generation = generation; content = None })

emptied_held : (slots : List (Slot Content)) (id i : Id) (old : Slot Content) (n : ℕ) → slice_get slots id.slot ≡ Some old →
    old.generation ≡ id.generation → held (emptied slots id n) i ≡ (if same_id i id then None else held slots i)
emptied_held slots id i old n e f = grind (arith, get_set_same, get_set_other)

pub emptied_turns : (slots : List (Slot Content)) (id : Id) (c : Content) (generation : ℕ) → held slots id ≡ Some c →
    Turns slots (emptied slots id generation) id (Some c) None
emptied_turns slots id c generation e =
    let k = (holds slots id c e).at in turns slots _ id _ _ e (λ i. emptied_held slots id i k.slot generation k.there k.generation)

-- the next unused slot is taken
pushed_held : (slots : List (Slot Content)) (id i : Id) (c : Option Content) → id.slot ≡ length slots →
    held (slots ++ slot_with id c ∷ []) i ≡ (if same_id i id then c else held slots i)
pushed_held slots id i c e = grind (arith, elements)

pub pushed_turns : (slots : List (Slot Content)) (c : Option Content) →
    Turns slots (slots ++ slot_with (record { slot = length slots; generation = 0 }) c ∷ []) (record { slot = length slots; generation = 0 }) None c
pushed_turns slots c = search (turns, none_at_end, pushed_held)

-- ---- handles and requests

-- something is held under the id
pub record IsHeld (slots : List (Slot Content)) (id : Id) : Type 0 where
  pub content : Content
  pub holds : held slots id ≡ Some content

-- a handle that is held
pub as_handle : (c : Option Content) (h : HandleRecord) → handle_in c ≡ Some h → c ≡ Some (Content.Handle h)
as_handle c h e = grind arith

-- a request that is held
pub as_request : (c : Option Content) (r : Request) → request_in c ≡ Some r → c ≡ Some (Content.Request r)
as_request c r e = grind arith
