-- No timer's repeat is longer than those of the script.
use Rattle.uv_shift.proofs.Names.{◌≡◌, ℕ, ◌<◌, List, [], ◌∷◌, ◌++◌, Option, Some, None, arith, option_and_then, handle, handle_in, taken_from, Slot, Slots, Content, held_in, ◌==◌, slice_get, slice_set, Id, Event, Op, HandleRecord, Program, arena_size, State, freed, refl, subst, cond_both, elements, All, goes_on, fresh, Next, state_of, IsShortOp, IsShort, Named}
use Rattle.uv_model.specs.Next.{next}
use Rattle.uv_model.specs.After.{after}
use Rattle.uv_alike.proofs.Kept.{RepeatsAs, StaysKept, op_repeat, next_kept}

abbrev IsShortIn : ℕ → Option HandleRecord → Type 0
IsShortIn n None = Unit {0}
IsShortIn n (Some h) = h.repeat < n

abbrev Short : ℕ → List (Slot Content) → Type 0
Short n slots = All (λ (x : Slot Content). IsShortIn n (handle_in x.content)) slots

abbrev pub Keeps : ℕ → State → Type 0
Keeps n s = Short n s.arena.slots

short_set : (n : ℕ) (slots : List (Slot Content)) (i : ℕ) (x : Slot Content) → Short n slots → IsShortIn n (handle_in x.content) →
    Short n (slice_set slots i x)
short_set n slots i x h b = grind (arith, elements, h)

short_push : (n : ℕ) (slots : List (Slot Content)) (x : Slot Content) → Short n slots → IsShortIn n (handle_in x.content) → Short n (slots ++ x ∷ [])
short_push n slots x h b = grind (arith, elements, h)

slot_short : (n : ℕ) (slots : List (Slot Content)) (i : ℕ) (slot : Slot Content) → slice_get slots i ≡ Some slot → Short n slots →
    IsShortIn n (handle_in slot.content)
slot_short n slots i slot e h = grind (arith, elements, h)

found_short : (n : ℕ) (slots : List (Slot Content)) (id : Id) (x : Option (Slot Content)) → slice_get slots id.slot ≡ x → Short n slots →
    IsShortIn n (handle_in (option_and_then (held_in id) x))
found_short n slots id None e h = tt
found_short n slots id (Some slot) e h = cond_both (slot.generation == id.generation) slot.content None (λ c. IsShortIn n (handle_in c))
    (λ same. slot_short n slots id.slot slot e h) (λ other. tt)

pub held_short : (n : ℕ) (s : State) (id : Id) (h : HandleRecord) → Keeps n s → handle s id ≡ Some h → h.repeat < n
held_short n s id h k e = subst (IsShortIn n) e (found_short n s.arena.slots id (slice_get s.arena.slots id.slot) refl k)

taken_short : (n : ℕ) (free : List ℕ) (id : Id) (x : Content) (a : Slots Content) → Short n a.slots → IsShortIn n (handle_in (Some x)) →
    Short n (taken_from free id x a).slots
taken_short n [] id x a k b = short_push n a.slots _ k b
taken_short n (i ∷ is) id x a k b = short_set n a.slots id.slot _ k b

freed_short : (n last : ℕ) (id : Id) (a : Slots Content) → Short n a.slots → Short n (freed last id a).slots
freed_short n last id a k = cond_both (id.generation == last) _ _ (λ (u : Slots Content). Short n u.slots)
    (λ at. short_set n a.slots id.slot _ k tt) (λ before. short_set n a.slots id.slot _ k tt)

-- ---- a step

op_short : (n : ℕ) (o : Op) (m : ℕ) → IsShortOp n o → op_repeat o ≡ Some m → m < n
op_short n o m short e = grind arith

repeats_short : (n : ℕ) (x y : Content) → 0 < n → RepeatsAs (λ m. m < n) x y → IsShortIn n (handle_in (Some x)) → IsShortIn n (handle_in (Some y))
repeats_short n each e2 pos e4 k = grind arith

-- all that is held
abbrev AreShort : ℕ → List Named → Slots Content → Type 0
AreShort n ns a = Short n a.slots

next_short : (p : Program) (n : ℕ) (s : State) (e : Event) → 0 < n → IsShort n p → Keeps n s → StaysKept (AreShort n) (next p s e)
next_short p n s e pos short k = next_kept p (λ v. Unit {0}) (λ m. m < n) (AreShort n) s (record {
  may = λ at o v is names_it. tt;
  repeats = λ at o m is sets_it. op_short n o m (short at o is) sets_it;
  counted = λ ns a v c h. h;
  turned = λ ns a id x y holds same again h. short_set n a.slots id.slot _ h
      (repeats_short n x y pos again (subst (λ c. IsShortIn n (handle_in c)) holds (found_short n a.slots id (slice_get a.slots id.slot) refl h)));
  made = λ ns a v id x may same first loose there h. taken_short n a.free id x a h (grind arith);
  freed = λ id x holds h. freed_short n (arena_size p).last_generation id s.arena h;
}) e k

state_short : (n : ℕ) (s : State) (x : Next) → Keeps n s → StaysKept (AreShort n) x → Keeps n (state_of s x)
state_short n s x k l = grind arith

goes_on_short : (p : Program) (n : ℕ) (s : State) (es : List Event) → 0 < n → IsShort n p → Keeps n s → Keeps n (goes_on p s es)
goes_on_short p n s [] pos short k = k
goes_on_short p n s (e ∷ es) pos short k =
    goes_on_short p n (state_of s (next p s e)) es pos short (state_short n s (next p s e) k (next_short p n s e pos short k))

-- no repeat of a state that steps lead to is longer than those of the script
pub after_short : (p : Program) (n : ℕ) (es : List Event) → 0 < n → IsShort n p → Keeps n (after p es)
unfolding after
after_short p n es pos short = goes_on_short p n (fresh p) es pos short (grind (arith, elements))
