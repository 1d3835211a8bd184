-- The first places of a row, when one is read, written, added or taken off; and the same of the fields of a block.
use mathlib.Core.Path.{◌≡◌, refl, sym, ap, subst, ◌∙◌}
use Rattle.uv_raw.proofs.Names.{zero, suc, not-suc-le-zero, Option, Some, None, slice_get, Row, firsts, Filled}
use Prim.Native.Nat.{ℕ, ◌+◌, ◌-◌, ◌<◌, ◌≤◌}
use native.Mathlib.Omega.{arith}
use mathlib.Core.List.{List, [], ◌∷◌, ◌++◌}
use lib.ListN.{length, set, length-set, length-append}
use Rattle.uv_raw.specs.Row.{row}
use Rattle.uv_raw.specs.Inside.{row_of, IsRow}
use Rattle.uv_raw.specs.declared.raw_row.RawRow.TheInside.{Inside}

module _ {X : Type 0} where
  firsts_length : (n : ℕ) (cs : List (Option X)) → Filled n cs → n ≡ length (firsts n cs)
  firsts_length zero cs f = refl
  firsts_length (suc n) [] f = absurd f
  firsts_length (suc n) (None ∷ cs) f = absurd f
  firsts_length (suc n) (Some x ∷ cs) f = ap suc (firsts_length n cs f)

  firsts_get : (n : ℕ) (cs : List (Option X)) (i : ℕ) → Filled n cs → i < n
      → (x : X) × (slice_get cs i ≡ Some (Some x)) × (slice_get (firsts n cs) i ≡ Some x)
  firsts_get zero cs i f l = absurd (not-suc-le-zero l)
  firsts_get (suc n) [] i f l = absurd f
  firsts_get (suc n) (None ∷ cs) i f l = absurd f
  firsts_get (suc n) (Some x ∷ cs) zero f l = (x, refl, refl)
  firsts_get (suc n) (Some x ∷ cs) (suc i) f l = firsts_get n cs i f (omega (arith, l))

  firsts_set : (n : ℕ) (cs : List (Option X)) (i : ℕ) (x : X) → Filled n cs → i < n
      → Filled n (set cs i (Some x)) × (firsts n (set cs i (Some x)) ≡ set (firsts n cs) i x)
  firsts_set zero cs i x f l = absurd (not-suc-le-zero l)
  firsts_set (suc n) [] i x f l = absurd f
  firsts_set (suc n) (None ∷ cs) i x f l = absurd f
  firsts_set (suc n) (Some y ∷ cs) zero x f l = (f, refl)
  firsts_set (suc n) (Some y ∷ cs) (suc i) x f l = let r = firsts_set n cs i x f (omega (arith, l)) in (r.0, ap (λ xs. y ∷ xs) r.1)

  firsts_push : (n : ℕ) (cs : List (Option X)) (x : X) → Filled n cs → n < length cs
      → Filled (suc n) (set cs n (Some x)) × (firsts (suc n) (set cs n (Some x)) ≡ firsts n cs ++ x ∷ [])
  firsts_push zero [] x f l = absurd (not-suc-le-zero l)
  firsts_push zero (c ∷ cs) x f l = (tt, refl)
  firsts_push (suc n) [] x f l = absurd f
  firsts_push (suc n) (None ∷ cs) x f l = absurd f
  firsts_push (suc n) (Some y ∷ cs) x f l = let r = firsts_push n cs x f (omega (arith, l)) in (r.0, ap (λ xs. y ∷ xs) r.1)

  firsts_pop : (n : ℕ) (cs : List (Option X)) (x : X) → Filled (suc n) cs → slice_get cs n ≡ Some (Some x)
      → Filled n cs × (firsts (suc n) cs ≡ firsts n cs ++ x ∷ [])
  firsts_pop n [] x f e = absurd f
  firsts_pop n (None ∷ cs) x f e = absurd f
  firsts_pop zero (Some y ∷ cs) x f e = (tt, cc)
  firsts_pop (suc n) (Some y ∷ cs) x f e = let r = firsts_pop n cs x f e in (r.0, ap (λ xs. y ∷ xs) r.1)

  module _ (b : Inside X) (v : Row X) (is : row_of b ≡ v) (ok : IsRow b) where
    below : (i : ℕ) → i < length v.items → i < b.len
    below i l = let n = b.len in let same : n ≡ length v.items = ok.size ∙ ap (λ (r : Row X). length r.items) is in omega (arith, same, l)

    pub read_block : (i : ℕ) → i < length v.items → (x : X) × (slice_get b.room.places i ≡ Some (Some x)) × (slice_get v.items i ≡ Some x)
    read_block i l = let got = firsts_get b.len b.room.places i ok.filled (below i l) in
        (got.0, got.1, subst (λ (r : Row X). slice_get r.items i ≡ Some got.0) is got.2)

    -- the fields with another row of places, and another length
    abbrev with_places : List (Option X) → ℕ → Inside X → Type 0
    with_places cs n d = (d.room.places ≡ cs) × (d.capacity ≡ b.capacity) × (d.len ≡ n)

    pub set_block : (i : ℕ) (x : X) (d : Inside X) → i < length v.items → with_places (set b.room.places i (Some x)) b.len d
        → IsRow d × (row_of d ≡ row (set v.items i x) v.capacity)
    set_block i x d l w =
        let got = firsts_set b.len b.room.places i x ok.filled (below i l) in let cs = set b.room.places i (Some x) in
        let items : firsts d.len d.room.places ≡ set (firsts b.len b.room.places) i x = (λ j. firsts (w.2 j) (w.0 j)) ∙ got.1 in (
          record {
            filled = subst (λ (r : ℕ × List (Option X)). Filled r.0 r.1) (λ j. (sym w.2 j, sym w.0 j)) got.0;
            size = w.2 ∙ (ok.size ∙ (sym (length-set (firsts b.len b.room.places) i x) ∙ ap length (sym items)));
            within = subst (λ (r : ℕ × ℕ). r.0 ≤ r.1) (λ j. (sym w.2 j, sym w.1 j)) ok.within;
            capacity = w.1 ∙ (ok.capacity ∙ (sym (length-set b.room.places i (Some x)) ∙ ap length (sym w.0)));
          },
          (λ j. row (items j) (w.1 j)) ∙ ap (λ (r : Row X). row (set r.items i x) r.capacity) is,
        )

    pub push_block : (x : X) (d : Inside X) → length v.items < v.capacity → with_places (set b.room.places b.len (Some x)) (b.len + 1) d
        → IsRow d × (row_of d ≡ row (v.items ++ x ∷ []) v.capacity)
    push_block x d l w =
        let room : b.len < b.capacity = subst (λ (k : ℕ). k < b.capacity) (sym ok.size)
        (subst (λ (r : Row X). length r.items < r.capacity) (sym is) l) in
        let got = firsts_push b.len b.room.places x ok.filled (subst (λ (k : ℕ). b.len < k) ok.capacity room) in
        let old = firsts b.len b.room.places in
        let len_is : d.len ≡ suc b.len = omega (arith, w.2) in
        let items : firsts d.len d.room.places ≡ old ++ x ∷ [] = (λ j. firsts (len_is j) (w.0 j)) ∙ got.1 in (
          record {
            filled = subst (λ (r : ℕ × List (Option X)). Filled r.0 r.1) (λ j. (sym len_is j, sym w.0 j)) got.0;
            size = w.2 ∙ (ap (λ (k : ℕ). k + 1) ok.size ∙ (sym (length-append old (x ∷ [])) ∙ ap length (sym items)));
            within = subst (λ (r : ℕ × ℕ). r.0 ≤ r.1) (λ j. (sym len_is j, sym w.1 j)) (omega (arith, room));
            capacity = w.1 ∙ (ok.capacity ∙ (sym (length-set b.room.places b.len (Some x)) ∙ ap length (sym w.0)));
          },
          (λ j. row (items j) (w.1 j)) ∙ ap (λ (r : Row X). row (r.items ++ x ∷ []) r.capacity) is,
        )

    pub last_block : 0 < length v.items → (x : X) × (slice_get b.room.places (b.len - 1) ≡ Some (Some x))
    last_block l = let n = length v.items in let same : b.len ≡ n = ok.size ∙ ap (λ (r : Row X). length r.items) is in
        let got = firsts_get b.len b.room.places (b.len - 1) ok.filled (omega (arith, same, l)) in (got.0, got.1)

    pub pop_block : (x : X) (d : Inside X) → 0 < length v.items → slice_get b.room.places (b.len - 1) ≡ Some (Some x)
        → with_places b.room.places (b.len - 1) d
        → IsRow d × (v.items ≡ firsts d.len d.room.places ++ x ∷ [])
    pop_block x d l e w =
        let same : b.len ≡ length v.items = ok.size ∙ ap (λ (r : Row X). length r.items) is in let k = b.len - 1 in
        let long : b.len ≡ suc k = omega (arith, same, l) in
        let got = firsts_pop k b.room.places x (subst (λ (n : ℕ). Filled n b.room.places) long ok.filled) e in
        let filled : Filled d.len d.room.places = subst (λ (r : ℕ × List (Option X)). Filled r.0 r.1) (λ j. (sym w.2 j, sym w.0 j)) got.0 in (
          record {
            filled = filled;
            size = firsts_length d.len d.room.places filled;
            within = subst (λ (r : ℕ × ℕ). r.0 ≤ r.1) (λ j. (sym w.2 j, sym w.1 j)) (omega (arith, ok.within));
            capacity = w.1 ∙ (ok.capacity ∙ ap length (sym w.0));
          },
          ap (λ (r : Row X). r.items) (sym is) ∙ ((λ j. firsts (long j) b.room.places) ∙ (got.1 ∙ (λ j. firsts (sym w.2 j) (sym w.0 j) ++ x ∷ []))),
        )
