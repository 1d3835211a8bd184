-- An arena without slots, one slot more, and one less.
use Rattle.uv_arena.proofs.ProofNames.{◌≡◌, ℕ, zero, suc, ◌+◌, ◌-◌, ◌<◌, ◌^◌, ◌⊎◌, List, [], ◌∷◌, ◌++◌, length, take, replicate, slice_get, Option, Some, None, refl, sym, ap, ◌∙◌, subst, inl, inr, arith, length-append, elements, map-append, row, LIST_COUNT, CHAIN_COUNT, Links, Ends, Cell, Chains, link, loose, first, IsSegment, Stands, Memory, no_ends, chains, chain, grown, shrunk, Fits, AreFit, IsLinked, IsSound, name_at, fresh_image, held_slots}
use Rattle.std.proofs.Math.Seq.{take-append_seam}
use Rattle.uv_arena.proofs.Walk.{walked, stands_walked}

pub get_more : {A : Type 0} (xs : List A) (z : A) (j : ℕ) (x : A) → slice_get xs j ≡ Some x → slice_get (xs ++ z ∷ []) j ≡ Some x
get_more xs z j x e = grind (arith, elements)

get_less : {A : Type 0} (xs : List A) (z : A) (j : ℕ) (x : A) → slice_get (xs ++ z ∷ []) j ≡ Some x → (slice_get xs j ≡ Some x) ⊎ (x ≡ z)
get_less (y ∷ ys) z (suc j) x e = get_less ys z j x e
get_less each z e2 x e = grind arith

pub get_last : {A : Type 0} (xs : List A) (z : A) → slice_get (xs ++ z ∷ []) (length xs) ≡ Some z
get_last xs z = grind (arith, elements)

-- other places read as before
pub get_other : {A : Type 0} (xs : List A) (z : A) (j : ℕ) → (j ≡ length xs → ⊥) → slice_get (xs ++ z ∷ []) j ≡ slice_get xs j
get_other xs z j n = grind (arith, elements)

segment_more : (ls : List Links) (m : Links) (k : ℕ) (p : Option ℕ) (xs : List ℕ) (n : Option ℕ) → IsSegment ls k p xs n
    → IsSegment (ls ++ m ∷ []) k p xs n
segment_more ls m k p [] n h = tt
segment_more ls m k p (x ∷ xs) n h = (get_more ls m x (link k p (first xs n)) h.0, segment_more ls m k (Some x) xs n h.1)

stands_more : (c : Chains) (xs : ℕ → List ℕ) → Stands c xs → Stands (record { links = c.links ++ loose ∷ []; ends = c.ends }) xs
stands_more c xs s = record {
  lists = grind (arith, segment_more);
  listed = λ y m k g is. elim (get_less c.links loose y m g) [ inl was ↦ s.listed y m k was is | inr new ↦ cc (ap (λ (z : Links). z.list) new, is) ];
  rest = λ y m g is. elim (get_less c.links loose y m g) [ inl was ↦ s.rest y m was is | inr new ↦ new ];
}

-- the names of fourteen lists in their order
in_order : (k : ℕ) → k < LIST_COUNT → name_at (0 ∷ 1 ∷ 2 ∷ 3 ∷ 4 ∷ 5 ∷ 6 ∷ 7 ∷ 8 ∷ 9 ∷ 10 ∷ 11 ∷ 12 ∷ 13 ∷ []) k ≡ k
in_order each lt = grind arith

pub fresh_sound : {X : Type 0} (capacity last : ℕ) → capacity < 2 ^ 32 → last < 2 ^ 32 → IsSound (fresh_image X capacity last)
fresh_sound {X} capacity last lt ll = record {
  linked = record {
    stands = stands_walked (record { links = []; ends = replicate CHAIN_COUNT no_ends }) (λ k. []) (grind arith);
    all_ends = refl;
    within = omega arith;
    few = lt;
  };
  fit = λ y c g. cc;
  names = record {
    all = refl;
    below = λ k l. subst (λ n. n < LIST_COUNT) (sym (in_order k l)) l;
    apart = λ j k lj lk e. sym (in_order j lj) ∙ e ∙ in_order k lk;
  };
  last = ll;
}

module _ {X : Type 0} where
  -- the slot that is new
  abbrev pub cell_of : X → Cell X
  cell_of v = record { slot = record { generation = 0; content = Some v }; links = loose }

  chains_grown : (v : X) (m : Memory X) → chains (grown v m) ≡ record { links = (chains m).links ++ loose ∷ []; ends = m.ends }
  chains_grown v m = λ k. record { links = map-append (λ (c : Cell X). c.links) m.row.items (cell_of v ∷ []) k; ends = m.ends }

  stands_grown : (v : X) (m : Memory X) → IsLinked m → Stands (chains (grown v m)) (chain m)
  stands_grown v m h = subst (λ c. Stands c (chain m)) (sym (chains_grown v m)) (stands_more (chains m) (chain m) h.stands)

  pub length_grown : (v : X) (m : Memory X) → length (grown v m).row.items ≡ length m.row.items + 1
  length_grown v m = length-append m.row.items (cell_of v ∷ [])

  pub linked_grown : (v : X) (m : Memory X) → IsLinked m → length m.row.items < m.row.capacity → IsLinked (grown v m)
  linked_grown v m h room = record {
    stands = stands_walked (chains (grown v m)) (chain m) (stands_grown v m h);
    all_ends = h.all_ends;
    within = omega (arith, length_grown v m, room);
    few = h.few;
  }

  pub chain_grown : (v : X) (m : Memory X) → IsLinked m → (k : ℕ) → k < CHAIN_COUNT → chain (grown v m) k ≡ chain m k
  chain_grown v m h k lt = walked (chains (grown v m)) k (chain m k) ((stands_grown v m h).lists k lt)

  pub fit_grown : (last : ℕ) (v : X) (m : Memory X) → AreFit last m.row.items → AreFit last (grown v m).row.items
  fit_grown last v m h y c g = elim (get_less m.row.items (cell_of v) y c g) [
    | inl was ↦ h y c was
    | inr new ↦ subst (λ (z : Cell X). Fits last z.links.list z.slot) (sym new) (record { below = omega arith; free = λ e. cc; empty = λ e. cc })
  ]

  pub slots_grown : (v : X) (m : Memory X) → held_slots (grown v m) ≡ held_slots m ++ (cell_of v).slot ∷ []
  slots_grown v m = map-append (λ (c : Cell X). c.slot) m.row.items (cell_of v ∷ [])

  -- the new slot goes again
  pub shrunk_grown : (v : X) (m : Memory X) → shrunk (grown v m) ≡ m
  shrunk_grown v m =
      let n = length m.row.items in let long = length_grown v m in
      let same : length (grown v m).row.items - 1 ≡ n = omega (arith, long) in
      λ k. record {
        row = row ((ap (λ i. take i (grown v m).row.items) same ∙ take-append_seam m.row.items (cell_of v ∷ [])) k) m.row.capacity;
        ends = m.ends;
      }
