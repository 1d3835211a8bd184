-- The timers in their order: one is put in, one is taken out, and those that are due stand in front.
use Rattle.uv_order.proofs.Names.{cond_both, ◌≡◌, ◌⊎◌, inl, inr, ℕ, ◌<◌, ◌≤◌, List, ◌∷◌, false, nat_le, refl, sym, ◌∙◌, arith, filter, nat_cmp, ordering_reverse, MatchOrdering, is_at, Ordering, Less, Greater, nat_tests, ranked, due_cmp, Id, Due, with_timer, without_timer, Has, Before, InOrder, has_id, AreDistinct, due_cmp_total, [], map}
use Rattle.uv_order.proofs.IdLists.{same}

-- ---- one key and another

says : (x y : ℕ) → MatchOrdering (nat_cmp x y) (x < y) (x ≡ y) (y < x)
says x y = ranked x y (nat_cmp x y) refl

pub not_before_itself : (a b : Due) → a ≡ b → due_cmp a b ≡ Less → ⊥
not_before_itself a b e l = grind arith

turned : (o : Ordering) → ordering_reverse o ≡ Greater → o ≡ Less
turned o e = grind arith

-- ---- who stands where

pub before_each : (ts : List (Due × Id)) (a b : Due) (id : Id) → Before a ts → Has ts b id → due_cmp a b ≡ Less
before_each [] a b id h k = absurd k
before_each (t ∷ ts) a b id h k = grind (arith, before_each ts a b id h.1)

before_more : (ts : List (Due × Id)) (a b : Due) → due_cmp a b ≡ Less → Before b ts → Before a ts
before_more [] a b l h = tt
before_more (t ∷ ts) a b l h = (due_cmp_total.trans a b t.0 l h.0, before_more ts a b l h.1)

-- one key has one id
pub one_id : (ts : List (Due × Id)) (key : Due) (i j : Id) → InOrder ts → Has ts key i → Has ts key j → i ≡ j
one_id [] key i j s a b = absurd a
one_id (t ∷ ts) key i j s (inl a) (inl b) = sym a.1 ∙ b.1
one_id (t ∷ ts) key i j s (inl a) (inr b) = absurd (not_before_itself t.0 key a.0 (before_each ts t.0 key j s.0 b))
one_id (t ∷ ts) key i j s (inr a) (inl b) = absurd (not_before_itself t.0 key b.0 (before_each ts t.0 key i s.0 a))
one_id (t ∷ ts) key i j s (inr a) (inr b) = one_id ts key i j s.1 a b

-- ---- one is taken out

pub still_has : (ts : List (Due × Id)) (key other : Due) (id : Id) → Has ts other id → (other ≡ key → ⊥) → Has (without_timer ts key) other id
still_has [] key other id h d = absurd h
still_has (t ∷ ts) key other id h d = grind (arith, still_has ts key other id)

pub had : (ts : List (Due × Id)) (key other : Due) (id : Id) → InOrder ts → Has (without_timer ts key) other id → Has ts other id × (other ≡ key → ⊥)
had [] key other id s h = absurd h
had (t ∷ ts) key other id s h = grind (arith, not_before_itself, before_each, had ts key other id s.1)

before_without : (ts : List (Due × Id)) (a key : Due) → Before a ts → Before a (without_timer ts key)
before_without [] a key h = tt
before_without (t ∷ ts) a key h = grind (arith, before_without ts a key h.1)

pub in_order_without : (ts : List (Due × Id)) (key : Due) → InOrder ts → InOrder (without_timer ts key)
in_order_without [] key s = tt
in_order_without (t ∷ ts) key s = grind (arith, before_without, in_order_without ts key s.1)

-- ---- one is put in

-- the key is none of those
abbrev pub IsNew : Due → List (Due × Id) → Type 0
IsNew key [] = Unit {0}
IsNew key (t ∷ ts) = (is_at (due_cmp key) t.0 ≡ false) × IsNew key ts

pub has_new : (ts : List (Due × Id)) (key : Due) (id : Id) → IsNew key ts → Has (with_timer ts key id) key id
has_new [] key id n = inl (refl, refl)
has_new (t ∷ ts) key id n = grind (arith, has_new ts key id n.1)

pub has_old : (ts : List (Due × Id)) (key other : Due) (id i : Id) → IsNew key ts → Has ts other i → Has (with_timer ts key id) other i
has_old [] key other id i n h = absurd h
has_old (t ∷ ts) key other id i n h = grind (arith, has_old ts key other id i n.1)

pub new_or_old : (ts : List (Due × Id)) (key other : Due) (id i : Id) → IsNew key ts → Has (with_timer ts key id) other i →
    ((key ≡ other) × (id ≡ i)) ⊎ Has ts other i
new_or_old [] key other id i n h = grind arith
new_or_old (t ∷ ts) key other id i n h = grind (arith, new_or_old ts key other id i n.1)

before_with : (ts : List (Due × Id)) (a key : Due) (id : Id) → Before a ts → due_cmp a key ≡ Less → Before a (with_timer ts key id)
before_with [] a key id h l = (l, tt)
before_with (t ∷ ts) a key id h l = grind (arith, before_with ts a key id h.1 l)

pub in_order_with : (ts : List (Due × Id)) (key : Due) (id : Id) → InOrder ts → InOrder (with_timer ts key id)
in_order_with [] key id s = (tt, tt)
in_order_with (t ∷ ts) key id s = grind (arith, before_more, before_with, in_order_with ts key id s.1)

-- a key whose start number was not yet drawn is new
pub is_new : (ts : List (Due × Id)) (key : Due) → ((other : Due) (id : Id) → Has ts other id → other.start < key.start) → IsNew key ts
is_new [] key h = tt
is_new (t ∷ ts) key h = (grind (arith, h t.0 t.1), is_new ts key (λ other id k. h other id (inr k)))

-- ---- those that are due

-- their ids, in order
abbrev pub due_ids : ℕ → List (Due × Id) → List Id
due_ids time ts = map (λ (t : Due × Id). t.1) (filter (λ (t : Due × Id). nat_le t.0.at time) ts)

later_too : (time a b : ℕ) → nat_le a time ≡ false → a ≤ b → nat_le b time ≡ false
later_too time a b e l = grind (arith, nat_tests, e)

none_later : (time : ℕ) (ts : List (Due × Id)) (key : Due) → nat_le key.at time ≡ false → Before key ts → due_ids time ts ≡ []
none_later time [] key e h = refl
none_later time (t ∷ ts) key e h = rw (later_too time key.at t.0.at e (grind arith)) (none_later time ts key e h.1)

-- with the first not due none is
pub none_due : (time : ℕ) (t : Due × Id) (ts : List (Due × Id)) → InOrder (t ∷ ts) → nat_le t.0.at time ≡ false → due_ids time (t ∷ ts) ≡ []
none_due time t ts s e = rw e (none_later time ts t.0 e s.0)

-- where one id has one key, no id is due twice
due_has : (time : ℕ) (ts : List (Due × Id)) (id : Id) → ((key : Due) → Has ts key id → ⊥) → has_id (due_ids time ts) id ≡ false
due_has time [] id h = refl
due_has time (t ∷ ts) id h = grind (arith, same, h t.0, due_has time ts id (λ key k. h key (inr k)))

pub distinct_due : (time : ℕ) (ts : List (Due × Id)) → InOrder ts → ((a b : Due) (id : Id) → Has ts a id → Has ts b id → a ≡ b) →
    AreDistinct (due_ids time ts)
distinct_due time [] s one = tt
distinct_due time (t ∷ ts) s one =
    let rest = distinct_due time ts s.1 (λ a b id h k. one a b id (inr h) (inr k)) in
    cond_both (nat_le t.0.at time) _ _ (λ (us : List (Due × Id)). AreDistinct (map (λ (u : Due × Id). u.1) us))
    (λ on. (
      due_has time ts t.1 (λ key k. not_before_itself t.0 key (one t.0 key t.1 (inl (refl, refl)) (inr k))
          (before_each ts t.0 key t.1 s.0 k)),
      rest,
    )) (λ off. rest)
