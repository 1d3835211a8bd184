-- When two timers are due alike, and when one comes before another.
use Rattle.uv_stands.proofs.ProofNames.{◌≡◌, inl, inr, ℕ, ◌<◌, List, [], ◌∷◌, true, refl, ap, ap₂, sym, subst, ◌∙◌, ordering_then, nat_cmp, is_eq, MatchOrdering, is_at, Ordering, Less, Equal, Greater, ranked, tied_itself, due_cmp, Id, Due, due_cmp_total, Has, Before, InOrder}

-- ---- one key and another

abbrev due_of : ℕ → ℕ → Due
due_of at start = record { at = at; start = start }

says : (x y : ℕ) → MatchOrdering (nat_cmp x y) (x < y) (x ≡ y) (y < x)
says x y = ranked x y (nat_cmp x y) refl

equal_number : (x y : ℕ) (r : Ordering) → MatchOrdering r (x < y) (x ≡ y) (y < x) → r ≡ Equal → x ≡ y
equal_number x y Less h e = cc e
equal_number x y Equal h e = h
equal_number x y Greater h e = cc e

equal_parts : (r q : Ordering) → ordering_then r q ≡ Equal → (r ≡ Equal) × (q ≡ Equal)
equal_parts Less q e = cc e
equal_parts Equal q e = (refl, e)
equal_parts Greater q e = cc e

equal_key : (a b : Due) → due_cmp a b ≡ Equal → a ≡ b
equal_key a b e =
    let parts = equal_parts (nat_cmp a.at b.at) (nat_cmp a.start b.start) e in
    ap₂ due_of (equal_number a.at b.at (nat_cmp a.at b.at) (says a.at b.at) parts.0)
    (equal_number a.start b.start (nat_cmp a.start b.start) (says a.start b.start) parts.1)

is_equal : (o : Ordering) → is_eq o ≡ true → o ≡ Equal
is_equal Less e = cc e
is_equal Equal e = refl
is_equal Greater e = cc e

pub key_at : (a b : Due) → is_at (due_cmp a) b ≡ true → a ≡ b
key_at a b e = equal_key a b (is_equal (due_cmp a b) e)

pub key_itself : (a b : Due) → a ≡ b → is_at (due_cmp a) b ≡ true
key_itself a b e = rw (← e) (ap is_eq (tied_itself due_cmp_total a))

not_before_itself : (a b : Due) → a ≡ b → due_cmp a b ≡ Less → ⊥
not_before_itself a b e l =
    let tied : due_cmp a a ≡ Equal = tied_itself due_cmp_total a in
    let less : due_cmp a a ≡ Less = subst (λ (x : Due). due_cmp a x ≡ Less) (sym e) l in
    cc (tied, less)

-- ---- who stands where

before_each : (ts : List (Due × Id)) (a b : Due) (id : Id) → Before a ts → Has ts b id → due_cmp a b ≡ Less
before_each [] a b id h k = absurd k
before_each (t ∷ ts) a b id h (inl is) = subst (λ (x : Due). due_cmp a x ≡ Less) is.0 h.0
before_each (t ∷ ts) a b id h (inr later) = before_each ts a b id h.1 later

-- one key has one id
pub one_id : (ts : List (Due × Id)) (key : Due) (i j : Id) → InOrder ts → Has ts key i → Has ts key j → i ≡ j
one_id [] key i j s a b = absurd a
one_id (t ∷ ts) key i j s (inl a) (inl b) = sym a.1 ∙ b.1
one_id (t ∷ ts) key i j s (inl a) (inr b) = absurd (not_before_itself t.0 key a.0 (before_each ts t.0 key j s.0 b))
one_id (t ∷ ts) key i j s (inr a) (inl b) = absurd (not_before_itself t.0 key b.0 (before_each ts t.0 key i s.0 a))
one_id (t ∷ ts) key i j s (inr a) (inr b) = one_id ts key i j s.1 a b
