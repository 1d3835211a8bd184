-- Who is on the free list, by the links.
use Rattle.uv_arena.proofs.ProofNames.{◌≡◌, inl, inr, ℕ, ◌<◌, ◌≤◌, ◌==◌, ◌||◌, Bool, true, false, List, [], ◌∷◌, length, slice_get, Option, Some, None, refl, sym, ap, ◌∙◌, arith, list_any, false_from_ne_true, eqb_tells, slice_get_within, Cell, Links, IsIn, FREE, Memory, chain, links_at, links_in, IsLinked}
use Rattle.std.proofs.lemmas.Bool.{eq-eqb}
use Rattle.uv_arena.proofs.Memories.{member_tells, get-links}

any_in : (xs : List ℕ) (x : ℕ) → IsIn x xs → list_any (λ n. n == x) xs ≡ true
any_in [] x h = absurd h
any_in (y ∷ ys) x (inl e) = ap (λ b. b || list_any (λ n. n == x) ys) (eq-eqb y x (sym e))
any_in (y ∷ ys) x (inr h) = grind (arith, (any_in ys x h))

same : (n x : ℕ) → (n == x) ≡ true → n ≡ x
same n x e = elim (eqb_tells n x) [ inl q ↦ q.1 | inr q ↦ (let differ = q.0 in cc (differ, e)) ]

in_any : (xs : List ℕ) (x : ℕ) → list_any (λ n. n == x) xs ≡ true → IsIn x xs
in_any [] x e = cc
in_any (y ∷ ys) x e = at (y == x) refl (λ r. in_any ys x r) e where
  at : (b : Bool) → (y == x) ≡ b → (list_any (λ n. n == x) ys ≡ true → IsIn x ys) → (b || list_any (λ n. n == x) ys) ≡ true → IsIn x (y ∷ ys)
  at b is rest e = grind arith

module _ {X : Type 0} (m : Memory X) (s : IsLinked m) (x : ℕ) where
  pub linked_free : x < length m.row.items → (links_at m x).list ≡ Some FREE → list_any (λ n. n == x) (chain m FREE) ≡ true
  linked_free l e = any_in (chain m FREE) x (at (slice_get m.row.items x) refl) where
    at : (o : Option (Cell X)) → slice_get m.row.items x ≡ o → IsIn x (chain m FREE)
    at None g = (let none = ap (λ (z : Links). z.list) (ap links_in g) in cc (none, e))
    at (Some c) g = (s.stands.listed x c.links FREE (get-links m.row.items x c g) (sym (ap (λ (z : Links). z.list) (ap links_in g)) ∙ e)).1

  member : list_any (λ n. n == x) (chain m FREE) ≡ true → (c : Cell X) × (slice_get m.row.items x ≡ Some c) × (c.links.list ≡ Some FREE)
  member e = member_tells m s FREE (omega arith) x (in_any (chain m FREE) x e)

  pub past_free : length m.row.items ≤ x → list_any (λ n. n == x) (chain m FREE) ≡ false
  past_free l = false_from_ne_true (list_any (λ n. n == x) (chain m FREE))
      (λ e. let c = member e in let within = slice_get_within m.row.items x c.0 c.1 in absurd (omega (arith, l, within)))

  pub other_free : ((links_at m x).list ≡ Some FREE → ⊥) → list_any (λ n. n == x) (chain m FREE) ≡ false
  other_free h = false_from_ne_true (list_any (λ n. n == x) (chain m FREE))
      (λ e. let c = member e in h (ap (λ (z : Links). z.list) (ap links_in c.1) ∙ c.2))

  -- the list that its links name is the free list, or another
  pub free_by : (list : ℕ) → (links_at m x).list ≡ Some list → x < length m.row.items → (list == FREE) ≡ list_any (λ n. n == x) (chain m FREE)
  free_by list is within = elim (eqb_tells list FREE) [
    | inl q ↦ q.0 ∙ sym (linked_free within (is ∙ ap (λ k. Some k) q.1))
    | inr q ↦ q.0 ∙ sym (other_free (λ e. let one : list ≡ FREE = cc (is, e) in q.1 one))
  ]
