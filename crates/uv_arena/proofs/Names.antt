-- The names of the lists: each list has a number of its own, and is a chain of its own.
use Rattle.uv_arena.proofs.ProofNames.{◌≡◌, ◌≢◌, ℕ, ◌<◌, ◌==◌, ◌⊎◌, if◌then◌else◌, List, length, refl, sym, ap, ◌∙◌, subst, inl, inr, arith, ext_get_or, swap, eqb_tells, LIST_COUNT, ListName, number, name_at, AreNames}
use Rattle.std.proofs.lemmas.List.Edits.{length-swap, swapped_from_swap}
use Rattle.uv_records.specs.declared.lists.ListName.TheVariants.{Ready, Idle, IdleYet, Prepare, PrepareYet, Check, CheckYet, Async, AsyncYet, Closing, ClosingYet, Waiting, Done, DoneYet}

name_of : ℕ → ListName
name_of n =
    if n == 0 then Ready else if n == 1 then Idle else if n == 2 then IdleYet else if n == 3 then Prepare else if n == 4 then PrepareYet
    else if n == 5 then Check else if n == 6 then CheckYet else if n == 7 then Async else if n == 8 then AsyncYet else if n == 9 then Closing
    else if n == 10 then ClosingYet else if n == 11 then Waiting else if n == 12 then Done else DoneYet

there : (l : ListName) → name_of (number l) ≡ l
unfolding name_of
there Ready = refl
there l = refl

pub number_apart : (a b : ListName) → number a ≡ number b → a ≡ b
number_apart a b e = sym (there a) ∙ ap name_of e ∙ there b

pub number_below : (l : ListName) → number l < LIST_COUNT
number_below Ready = omega arith
number_below l = omega arith

-- where the name of list k comes from, once the lists a and b changed places
abbrev Moves : ℕ → ℕ → ℕ → ℕ → Type 0
Moves a b k j = ((k ≡ a) × (j ≡ b)) ⊎ (((k ≡ b) × (j ≡ a)) ⊎ ((k ≢ a) × (k ≢ b) × (j ≡ k)))

moves_apart : (a b k j l i : ℕ) → Moves a b k j → Moves a b l i → j ≡ i → k ≡ l
moves_apart a b k j l i (inl p) (inl q) e = omega (arith, p.0, p.1, q.0, q.1)
moves_apart a b k j l i (inl p) (inr (inl q)) e = omega (arith, p.0, p.1, q.0, q.1)
moves_apart a b k j l i (inl p) (inr (inr q)) e = absurd (q.1 (sym q.2 ∙ sym e ∙ p.1))
moves_apart a b k j l i (inr (inl p)) (inl q) e = omega (arith, p.0, p.1, q.0, q.1)
moves_apart a b k j l i (inr (inl p)) (inr (inl q)) e = omega (arith, p.0, p.1, q.0, q.1)
moves_apart a b k j l i (inr (inl p)) (inr (inr q)) e = absurd (q.0 (sym q.2 ∙ sym e ∙ p.1))
moves_apart a b k j l i (inr (inr p)) (inl q) e = absurd (p.1 (sym p.2 ∙ e ∙ q.1))
moves_apart a b k j l i (inr (inr p)) (inr (inl q)) e = absurd (p.0 (sym p.2 ∙ e ∙ q.1))
moves_apart a b k j l i (inr (inr p)) (inr (inr q)) e = omega (arith, p.2, q.2)

moves_back : (a b k j l : ℕ) → Moves a b k j → Moves a b j l → l ≡ k
moves_back a b k j l (inl p) (inl q) = omega (arith, p.0, p.1, q.0, q.1)
moves_back a b k j l (inl p) (inr (inl q)) = omega (arith, p.0, p.1, q.0, q.1)
moves_back a b k j l (inl p) (inr (inr q)) = absurd (q.1 p.1)
moves_back a b k j l (inr (inl p)) (inl q) = omega (arith, p.0, p.1, q.0, q.1)
moves_back a b k j l (inr (inl p)) (inr (inl q)) = omega (arith, p.0, p.1, q.0, q.1)
moves_back a b k j l (inr (inl p)) (inr (inr q)) = absurd (q.0 p.1)
moves_back a b k j l (inr (inr p)) (inl q) = absurd (p.0 (sym p.2 ∙ q.0))
moves_back a b k j l (inr (inr p)) (inr (inl q)) = absurd (p.1 (sym p.2 ∙ q.0))
moves_back a b k j l (inr (inr p)) (inr (inr q)) = q.2 ∙ p.2

module _ (ns : List ℕ) (a b : ℕ) (la : a < length ns) (lb : b < length ns) where
  moved : (k : ℕ) → (j : ℕ) × Moves a b k j × (name_at (swap ns a b) k ≡ name_at ns j)
  moved k =
      let all = swapped_from_swap ns (swap ns a b) a b 0 la lb refl in
      elim (eqb_tells k a) [
        | inl p ↦ (b, inl (p.1, refl), ap (name_at (swap ns a b)) p.1 ∙ all.0)
        | inr p ↦ elim (eqb_tells k b) [
          | inl q ↦ (a, inr (inl (q.1, refl)), ap (name_at (swap ns a b)) q.1 ∙ all.1)
          | inr q ↦ (k, inr (inr (p.1, q.1, refl)), all.2 k p.1 q.1)
        ]
      ]

  moved_below : (k j : ℕ) → Moves a b k j → k < length ns → j < length ns
  moved_below k j (inl p) lt = subst (λ n. n < length ns) (sym p.1) lb
  moved_below k j (inr (inl p)) lt = subst (λ n. n < length ns) (sym p.1) la
  moved_below k j (inr (inr p)) lt = subst (λ n. n < length ns) (sym p.2) lt

  -- list a is what list b was, and the other way; the others stay
  pub swapped_names : (name_at (swap ns a b) a ≡ name_at ns b) × (name_at (swap ns a b) b ≡ name_at ns a)
      × ((k : ℕ) → k ≢ a → k ≢ b → name_at (swap ns a b) k ≡ name_at ns k)
  swapped_names = swapped_from_swap ns (swap ns a b) a b 0 la lb refl

pub swap_twice : (ns : List ℕ) (a b : ℕ) → a < length ns → b < length ns → swap (swap ns a b) a b ≡ ns
swap_twice ns a b la lb =
    let long = length-swap ns a b in
    ext_get_or 0 (swap (swap ns a b) a b) ns (length-swap (swap ns a b) a b ∙ long) (λ k lt.
    let two = moved (swap ns a b) a b (subst (λ n. a < n) (sym long) la) (subst (λ n. b < n) (sym long) lb) k in
    let one = moved ns a b la lb two.0 in
    two.2 ∙ one.2 ∙ ap (name_at ns) (moves_back a b k two.0 one.0 two.1 one.1))

pub names_swapped : (ns : List ℕ) → AreNames ns → (a b : ℕ) → a < LIST_COUNT → b < LIST_COUNT → AreNames (swap ns a b)
names_swapped ns h a b la lb =
    let la' : a < length ns = subst (λ n. a < n) (sym h.all) la in let lb' : b < length ns = subst (λ n. b < n) (sym h.all) lb in
    let below : (k j : ℕ) → Moves a b k j → k < LIST_COUNT → j < LIST_COUNT =
    λ k j m lt. subst (λ n. j < n) h.all (moved_below ns a b la' lb' k j m (subst (λ n. k < n) (sym h.all) lt)) in
    record {
      all = length-swap ns a b ∙ h.all;
      below = λ k lt. let one = moved ns a b la' lb' k in subst (λ n. n < LIST_COUNT) (sym one.2) (h.below one.0 (below k one.0 one.1 lt));
      apart = λ j k lj lk e.
          let one = moved ns a b la' lb' j in let two = moved ns a b la' lb' k in
          moves_apart a b j one.0 k two.0 one.1 two.1 (h.apart one.0 two.0 (below j one.0 one.1 lj) (below k two.0 two.1 lk) (sym one.2 ∙ e ∙ two.2));
    }
