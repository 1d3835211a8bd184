-- Counts by name: nothing, and one more.
use Rattle.uv_run.proofs.Names.{◌≡◌, ◌∙◌, ◌<◌, ◌==◌, ℕ, ◌+◌, Bool, true, false, cond, List, [], ◌∷◌, ◌++◌, length, replicate, take, get_or, slice_index, slice_set, refl, sym, ap, subst, arith, count_by, eqb-true, eqb-false, length-replicate, get_or-replicate, length-set, get_or-set_same, get_or-set_other, take_more, sum_by_push, Event, Send, Var, is_send, AreCounts}

pub count_push : {X : Type 0} (p : X → Bool) (xs : List X) (x : X) → count_by p (xs ++ x ∷ []) ≡ count_by p xs + cond (p x) 1 0
count_push p xs x = sum_by_push (λ y. cond (p y) 1 0) xs x

pub count_more : {X : Type 0} (p : X → Bool) (xs : List X) (i : ℕ) (d : X) → i < length xs
    → count_by p (take (i + 1) xs) ≡ count_by p (take i xs) + cond (p (get_or xs i d)) 1 0
count_more p xs i d within = ap (count_by p) (take_more xs i d within) ∙ count_push p (take i xs) (get_or xs i d)

-- nothing was counted
pub none_counted : (names : ℕ) (count : ℕ → ℕ) (counts : List ℕ) → counts ≡ replicate names 0 → ((v : ℕ) → count v ≡ 0) → AreCounts names count counts
none_counted names count counts is none = subst (AreCounts names count) (sym is) (record {
  long = length-replicate names 0;
  each = λ v within. get_or-replicate names v 0 0 within ∙ sym (none v);
})

-- one more of a name, if it is one of them
pub one_counted : (names : ℕ) (count more : ℕ → ℕ) (counts : List ℕ) (n : ℕ) → AreCounts names count counts
    → ((v : ℕ) → more v ≡ count v + cond (n == v) 1 0) → AreCounts names more (slice_set counts n (slice_index counts n + 1))
one_counted names count more counts n before is = record {
  long = length-set counts n (slice_index counts n + 1) ∙ before.long;
  each = λ v low. by v low (n == v) refl;
} where
  by : (v : ℕ) → v < names → (b : Bool) → (n == v) ≡ b → slice_index (slice_set counts n (slice_index counts n + 1)) v ≡ more v
  by v low true e =
      let same : n ≡ v = eqb-true n v e in
      let long = before.long in
      let inside : n < length counts = omega (arith, low, same, long) in
      let one : more v ≡ count v + 1 = is v ∙ ap (λ b. count v + cond b 1 0) e in
      let here : slice_index (slice_set counts n (slice_index counts n + 1)) v ≡ slice_index counts n + 1 =
      ap (λ k. slice_index (slice_set counts n (slice_index counts n + 1)) k) (sym same) ∙ get_or-set_same counts n _ 0 inside in
      let was : slice_index counts n ≡ count v = ap (slice_index counts) same ∙ before.each v low in
      here ∙ ap (λ k. k + 1) was ∙ sym one
  by v low false e =
      let none : more v ≡ count v + 0 = is v ∙ ap (λ b. count v + cond b 1 0) e in
      let there = get_or-set_other counts n v (slice_index counts n + 1) 0 (λ same. eqb-false n v e (sym same)) in
      there ∙ before.each v low ∙ (omega arith ∙ sym none)

-- counts by another measure that is the same
pub as_counted : (names : ℕ) (count again : ℕ → ℕ) (counts : List ℕ) → AreCounts names count counts → ((v : ℕ) → again v ≡ count v)
    → AreCounts names again counts
as_counted names count again counts before is = record { long = before.long; each = λ v within. before.each v within ∙ sym (is v) }

-- the sends among the first steps, one step after another
pub sends_more : (names : ℕ) (steps : List Event) (n : ℕ) (d : Event) (name : Var) (counts : List ℕ) → n < length steps
    → get_or steps n d ≡ Send name → AreCounts names (λ v. count_by (is_send v) (take n steps)) counts
    → AreCounts names (λ v. count_by (is_send v) (take (n + 1) steps)) (slice_set counts name.0 (slice_index counts name.0 + 1))
sends_more names steps n d name counts within here before = one_counted names _ _ counts name.0 before
    (λ v. count_more (is_send v) steps n d within ∙ ap (λ e. count_by (is_send v) (take n steps) + cond (is_send v e) 1 0) here)

pub not_sent : (e : Event) → ((name : Var) → e ≡ Send name → ⊥) → (v : ℕ) → is_send v e ≡ false
not_sent (Send name) other v = absurd (other name refl)
not_sent _ other v = refl

pub no_sends_more : (names : ℕ) (steps : List Event) (n : ℕ) (d : Event) (counts : List ℕ) → n < length steps
    → ((v : ℕ) → is_send v (get_or steps n d) ≡ false) → AreCounts names (λ v. count_by (is_send v) (take n steps)) counts
    → AreCounts names (λ v. count_by (is_send v) (take (n + 1) steps)) counts
no_sends_more names steps n d counts within other before = as_counted names _ _ counts before
    (λ v. count_more (is_send v) steps n d within ∙ (ap (λ b. count_by (is_send v) (take n steps) + cond b 1 0) (other v) ∙ omega arith))
