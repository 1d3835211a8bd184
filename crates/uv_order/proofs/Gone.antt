-- Ids that will never be held again: the slot has a later generation, or is empty for good.
use Rattle.uv_order.proofs.Names.{◌≡◌, ◌⊎◌, ℕ, ◌<◌, ◌≤◌, ◌==◌, List, ◌∷◌, ◌++◌, true, false, Option, Some, None, slice_get, slice_set, refl, arith, or_parts, eq-eqb, Id, HandleRecord, Slot, held, Content, []}
use Rattle.uv_order.proofs.Contents.{slot_with, emptied, holds, get_set_same, get_set_other, get_push}
use Rattle.uv_order.proofs.Holding.{held_at, is_held, put}
use Rattle.uv_order.proofs.Keeping.{has_number}

-- the slot is past the id's generation, or empty and not free, which it stays
pub record IsGone (slots : List (Slot Content)) (free : List ℕ) (id : Id) : Type 0 where
  pub slot : Slot Content
  pub there : slice_get slots id.slot ≡ Some slot
  pub past : (id.generation < slot.generation) ⊎ ((slot.content ≡ None) × (has_number free id.slot ≡ false))

-- nothing is held under it
pub none_held : (slots : List (Slot Content)) (free : List ℕ) (id : Id) → IsGone slots free id → held slots id ≡ None
none_held slots free id k = grind arith

pub not_held : (slots : List (Slot Content)) (free : List ℕ) (id : Id) (c : Content) → IsGone slots free id → held slots id ≡ Some c → ⊥
not_held slots free id c k e = cc (none_held slots free id k, e)

-- a slot changes that isn't empty for good, and no other one is freed
pub gone_set : (slots : List (Slot Content)) (free more : List ℕ) (n : ℕ) (old new : Slot Content) (id : Id) → slice_get slots n ≡ Some old →
    old.generation ≤ new.generation → (old.content ≡ None → has_number free n ≡ true) →
    ((m : ℕ) → (m ≡ n → ⊥) → has_number free m ≡ false → has_number more m ≡ false) → IsGone slots free id → IsGone (slice_set slots n new) more id
gone_set slots free more n old new id e grows unless others k = grind (arith, get_set_same, get_set_other)

-- something else is put into a slot that holds something
pub gone_turned : (slots : List (Slot Content)) (free : List ℕ) (id : Id) (c : Content) (d : Option Content) (i : Id) → held slots id ≡ Some c →
    IsGone slots free i → IsGone (slice_set slots id.slot (slot_with id d)) free i
gone_turned slots free id c d i e k =
    let at = (holds slots id c e).at in
    gone_set slots free free id.slot at.slot (slot_with id d) i at.there (let g = at.generation in omega arith)
    (λ none. absurd (grind arith)) (λ m g f. f) k

-- another handle is changed
pub gone_put : (slots : List (Slot Content)) (free : List ℕ) (id : Id) (h x : HandleRecord) (i : Id) → held_at slots id ≡ Some h →
    IsGone slots free i → IsGone (put slots id x) free i
gone_put slots free id h x i e k = gone_turned slots free id (Content.Handle h) (Some (Content.Handle x)) i (is_held slots id h e) k

-- a slot is used for the first time
pub gone_push : (slots : List (Slot Content)) (free : List ℕ) (y : Slot Content) (i : Id) → IsGone slots free i → IsGone (slots ++ y ∷ []) free i
gone_push slots free y i k = record { slot = k.slot; there = get_push slots y k.slot i.slot k.there; past = k.past }

-- the front of the free slots is taken
pub gone_fill : (slots : List (Slot Content)) (n : ℕ) (ns : List ℕ) (old new : Slot Content) (i : Id) → slice_get slots n ≡ Some old →
    old.generation ≤ new.generation → IsGone slots (n ∷ ns) i → IsGone (slice_set slots n new) ns i
gone_fill slots n ns old new i e g k = gone_set slots (n ∷ ns) ns n old new i e g
    (λ c. rw (eq-eqb n n refl) refl) (λ m d f. (or_parts (n == m) (has_number ns m) f).1) k

-- a slot that holds something is freed or retired
pub gone_emptied : (slots : List (Slot Content)) (free more : List ℕ) (id : Id) (c : Content) (n : ℕ) (i : Id) → held slots id ≡ Some c →
    id.generation ≤ n → ((m : ℕ) → (m ≡ id.slot → ⊥) → has_number free m ≡ false → has_number more m ≡ false) → IsGone slots free i →
    IsGone (emptied slots id n) more i
gone_emptied slots free more id c n i e l others k =
    let at = (holds slots id c e).at in
    gone_set slots free more id.slot at.slot (record { generation = n; content = None }) i at.there (let g = at.generation in omega arith)
    (λ none. absurd (grind arith)) others k

-- and its id is gone
pub gone_now : (slots : List (Slot Content)) (more : List ℕ) (id : Id) (c : Content) (n : ℕ) → held slots id ≡ Some c →
    (id.generation < n) ⊎ (has_number more id.slot ≡ false) → IsGone (emptied slots id n) more id
gone_now slots more id c n e l =
    let at = (holds slots id c e).at in
    let empty : Slot Content = record { generation = n; content = None } in
    record { slot = empty; there = get_set_same slots id.slot empty at.slot at.there; past = by l }
  where
    by : (id.generation < n) ⊎ (has_number more id.slot ≡ false) →
        (id.generation < n) ⊎ ((◌≡◌ {A = Option Content} None None) × (has_number more id.slot ≡ false))
    by x = grind arith
