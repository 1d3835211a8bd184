-- Lists of ids, and what was taken off them.
use Rattle.uv_order.proofs.Names.{arith, list_any, ◌≡◌, ◌&&◌, ◌||◌, List, ◌∷◌, ◌++◌, Bool, true, false, refl, ap, sym, ◌∙◌, if◌then◌else◌, filter, not, eq-eqb, both_ways, Id, same_id, without_id, has_id, AreDistinct, AllOff, [], AreAll, false_from_ne_true, ◌⊎◌, inl, inr, subst}

-- ---- one id and another

pub same : (a b : Id) → same_id a b ≡ true → a ≡ b
same a b e = grind arith

pub itself : (a b : Id) → a ≡ b → same_id a b ≡ true
itself a b e = rw (eq-eqb a.slot b.slot (ap (λ (i : Id). i.slot) e), eq-eqb a.generation b.generation (ap (λ (i : Id). i.generation) e)) refl

pub other : (a b : Id) → same_id a b ≡ false → a ≡ b → ⊥
other a b e h = both_ways (same_id a b) e (itself a b h)

pub turned : (a b : Id) → same_id a b ≡ same_id b a
turned a b = grind (arith, other, same)

-- ---- members

-- who is on two lists, and who on a list without one
pub has_both : (xs ys : List Id) (i : Id) → has_id (xs ++ ys) i ≡ (has_id xs i || has_id ys i)
has_both [] ys i = refl
has_both (x ∷ xs) ys i = grind (arith, has_both xs ys i)

pub has_but_one : (ids : List Id) (x i : Id) → has_id (without_id ids x) i ≡ (not (same_id i x) && has_id ids i)
has_but_one [] x i = grind arith
has_but_one (id ∷ ids) x i = grind (arith, has_but_one ids x i)

pub without_itself : (ids : List Id) (x : Id) → has_id (without_id ids x) x ≡ false
without_itself ids x = grind (arith, itself, has_but_one)

pub still_absent : (ids : List Id) (x i : Id) → has_id ids i ≡ false → has_id (without_id ids x) i ≡ false
still_absent ids x i h = grind (arith, has_but_one)

pub still_there : (ids : List Id) (x i : Id) → same_id i x ≡ false → has_id ids i ≡ true → has_id (without_id ids x) i ≡ true
still_there ids x i d h = grind (arith, has_but_one)

-- whether another one is there
pub has_without : (ids : List Id) (x i : Id) → same_id i x ≡ false → has_id (without_id ids x) i ≡ has_id ids i
has_without ids x i d = grind (arith, has_but_one)

pub without_absent : (ids : List Id) (x : Id) → has_id ids x ≡ false → without_id ids x ≡ ids
without_absent [] x h = refl
without_absent (id ∷ ids) x h = grind (arith, without_absent ids x)

pub has_front : (xs ys : List Id) (i : Id) → has_id (xs ++ ys) i ≡ false → has_id xs i ≡ false
has_front xs ys i h = grind (arith, has_both)

pub has_back : (xs ys : List Id) (i : Id) → has_id (xs ++ ys) i ≡ false → has_id ys i ≡ false
has_back xs ys i h = grind (arith, has_both)

-- who waits, as the loop asks it and as the lines do
pub on_list : (ids : List Id) (id : Id) → list_any (same_id id) ids ≡ true → has_id ids id ≡ true
on_list [] id e = cc e
on_list (x ∷ ids) id e = grind (arith, turned, on_list ids id)

-- ---- no id twice

pub distinct_front : (xs ys : List Id) → AreDistinct (xs ++ ys) → AreDistinct xs
distinct_front [] ys h = tt
distinct_front (x ∷ xs) ys h = (has_front xs ys x h.0, distinct_front xs ys h.1)

pub distinct_back : (xs ys : List Id) → AreDistinct (xs ++ ys) → AreDistinct ys
distinct_back [] ys h = h
distinct_back (x ∷ xs) ys h = distinct_back xs ys h.1

pub distinct_without : (ids : List Id) (x : Id) → AreDistinct ids → AreDistinct (without_id ids x)
distinct_without [] x h = tt
distinct_without (id ∷ ids) x h = grind (arith, still_absent, distinct_without ids x h.1)

pub distinct_push : (ids : List Id) (x : Id) → AreDistinct ids → has_id ids x ≡ false → AreDistinct (ids ++ x ∷ [])
distinct_push [] x h k = (refl, tt)
distinct_push (id ∷ ids) x h k = grind (arith, has_both, turned, distinct_push ids x h.1)

-- ---- one in the middle

pub distinct_middle : (xs ys : List Id) (id : Id) → AreDistinct (xs ++ ys) → has_id (xs ++ ys) id ≡ false → AreDistinct (xs ++ id ∷ ys)
distinct_middle [] ys id h d = (d, h)
distinct_middle (x ∷ xs) ys id h d = grind (arith, has_both, turned, distinct_middle xs ys id h.1)

pub has_new_middle : (xs ys : List Id) (id : Id) → has_id (xs ++ id ∷ ys) id ≡ true
has_new_middle xs ys id = grind (arith, itself, has_both)

-- the one in the middle goes
has_no_other : (xs ys : List Id) (id i : Id) → has_id (xs ++ id ∷ ys) i ≡ false → has_id (xs ++ ys) i ≡ false
has_no_other xs ys id i h = grind (arith, has_both)

pub distinct_but : (xs ys : List Id) (id : Id) → AreDistinct (xs ++ id ∷ ys) → AreDistinct (xs ++ ys)
distinct_but [] ys id h = h.1
distinct_but (x ∷ xs) ys id h = (has_no_other xs ys id x h.0, distinct_but xs ys id h.1)

in_middle : (xs ys : List Id) (id i : Id) → has_id (xs ++ id ∷ ys) i ≡ true → (id ≡ i) ⊎ (has_id (xs ++ ys) i ≡ true)
in_middle xs ys id i h = grind (arith, has_both, same)

-- where none stands twice, it stands nowhere else
pub once_middle : (xs ys : List Id) (id : Id) → AreDistinct (xs ++ id ∷ ys) → has_id (xs ++ ys) id ≡ false
once_middle [] ys id d = d.0
once_middle (x ∷ xs) ys id d = grind (arith, false_from_ne_true, same, has_new_middle, once_middle xs ys id d.1)

pub but_middle : (xs ys : List Id) (id : Id) → AreDistinct (xs ++ id ∷ ys) → (i : Id) →
    has_id (xs ++ ys) i ≡ (not (same_id i id) && has_id (xs ++ id ∷ ys) i)
but_middle xs ys id d i = grind (arith, has_both, same, turned, once_middle xs ys id d)

-- ---- of which something holds

-- it holds of each of these, of which none stands twice
pub record AreSome (P : Id → Type 0) (ids : List Id) : Type 0 where
  pub each : (id : Id) → has_id ids id ≡ true → P id
  pub distinct : AreDistinct ids

pub some_alike : {P Q : Id → Type 0} {ids : List Id} → ((i : Id) → P i → Q i) → AreSome P ids → AreSome Q ids
some_alike f k = record { each = λ i h. f i (k.each i h); distinct = k.distinct }

not_both : (a b : Bool) → (not b && a) ≡ true → (a ≡ true) × (b ≡ false)
not_both a b e = grind arith

pub some_less : {P Q : Id → Type 0} {ids : List Id} (x : Id) → ((i : Id) → (i ≡ x → ⊥) → P i → Q i) → AreSome P ids → AreSome Q (without_id ids x)
some_less {ids = ids} x f k = record {
  each = λ i h. let b = not_both (has_id ids i) (same_id i x) (sym (has_but_one ids x i) ∙ h) in f i (other i x b.1) (k.each i b.0);
  distinct = distinct_without ids x k.distinct;
}

-- all of which it holds: it holds of the same ones
pub all_alike : {P Q : Id → Type 0} {ids : List Id} → ((i : Id) → P i → Q i) → ((i : Id) → Q i → P i) → AreAll P ids → AreAll Q ids
all_alike f g k = record { each = λ i h. f i (k.each i h); all = λ i q. k.all i (g i q); distinct = k.distinct }

-- one leaves, by who is left
pub all_less : {P Q : Id → Type 0} {ids few : List Id} (x : Id) → ((i : Id) → (i ≡ x → ⊥) → P i → Q i) → ((i : Id) → Q i → (i ≡ x → ⊥) × P i) →
    ((i : Id) → has_id few i ≡ (not (same_id i x) && has_id ids i)) → AreDistinct few → AreAll P ids → AreAll Q few
all_less {ids = ids} x f g on once k = record {
  each = λ i h. let b = not_both (has_id ids i) (same_id i x) (sym (on i) ∙ h) in f i (other i x b.1) (k.each i b.0);
  all = λ i q. let b = g i q in on i ∙ rw (false_from_ne_true (same_id i x) (λ s. b.0 (same i x s)), k.all i b.1) refl;
  distinct = once;
}

-- one comes
pub all_more : {P Q : Id → Type 0} (xs ys : List Id) (x : Id) → ((i : Id) → P i → (i ≡ x → ⊥) × Q i) → ((i : Id) → (i ≡ x → ⊥) → Q i → P i) → Q x →
    AreAll P (xs ++ ys) → AreAll Q (xs ++ x ∷ ys)
all_more {Q = Q} xs ys x f g new k = record {
  each = λ i h. elim (in_middle xs ys x i h) [ inl is ↦ subst Q is new | inr old ↦ (f i (k.each i old)).1 ];
  all = λ i q. all i q (same_id i x) refl;
  distinct = distinct_middle xs ys x k.distinct (false_from_ne_true (has_id (xs ++ ys) x) (λ h. (f x (k.each x h)).0 refl));
} where
  all : (i : Id) → Q i → (b : Bool) → same_id i x ≡ b → has_id (xs ++ x ∷ ys) i ≡ true
  all i q b s = grind (arith, same, has_new_middle, has_both, other)

-- ---- those that were not taken off

abbrev pub left_of : List Id → List Id → List Id
left_of ids off = filter (λ i. not (has_id off i)) ids

pub none_off : (ids : List Id) → left_of ids [] ≡ ids
none_off [] = refl
none_off (id ∷ ids) = ap (λ (rest : List Id). id ∷ rest) (none_off ids)

-- one more is taken off
pub one_off : (ids off : List Id) (x : Id) → left_of ids (x ∷ off) ≡ without_id (left_of ids off) x
one_off [] off x = refl
one_off (id ∷ ids) off x = grind (arith, turned, one_off ids off x)

-- some were taken off, and then others
pub more_off : (ids off others : List Id) → left_of (left_of ids off) others ≡ left_of ids (others ++ off)
more_off ids off [] = none_off (left_of ids off)
more_off ids off (x ∷ others) = grind (arith, one_off, more_off ids off others)

pub all_off : (ids off : List Id) → left_of ids off ≡ [] → AllOff off ids
all_off [] off h = tt
all_off (id ∷ ids) off h = grind (arith, all_off ids off)

-- the first that is left
pub record FirstLeft (ids away : List Id) (first : Id) (more : List Id) : Type 0 where
  pub passed : List Id
  pub behind : List Id
  pub list : ids ≡ passed ++ first ∷ behind
  pub off : AllOff away passed
  pub on : has_id away first ≡ false
  pub left : more ≡ left_of behind away

pub first_left : (ids off : List Id) (first : Id) (more : List Id) → left_of ids off ≡ first ∷ more → FirstLeft ids off first more
first_left [] off first more h = cc h
first_left (id ∷ ids) off first more h = at (has_id off id) refl h (first_left ids off first more) where
  at : (b : Bool) → has_id off id ≡ b → ◌≡◌ {A = List Id} (if not b then id ∷ left_of ids off else left_of ids off) (first ∷ more) →
      (left_of ids off ≡ first ∷ more → FirstLeft ids off first more) → FirstLeft (id ∷ ids) off first more
  at true e rest later =
      let f = later rest in
      record { passed = id ∷ f.passed; behind = f.behind; list = ap (λ (is : List Id). id ∷ is) f.list; off = (e, f.off); on = f.on; left = f.left }
  at false e rest later =
      let one : id ≡ first = cc rest in
      let on : has_id off first ≡ false = ap (has_id off) (sym one) ∙ e in
      let others : more ≡ left_of ids off = cc rest in
      record { passed = []; behind = ids; list = ap (λ (i : Id). i ∷ ids) one; off = tt; on = on; left = others }
