-- Texts that memory cuts short.
use Rattle.uv_text.proofs.Names.{CutShort, Begins, begins_itself, begins_more, cut_behind, ◌≡◌, ℕ, zero, suc, ◌+◌, ◌-◌, ◌<◌, List, ◌++◌, length, take, get_or, ap, sym, subst, ◌∙◌, arith, take_all, flat_map}
use Rattle.uv_text.proofs.Pieces.{flat_map-more}

-- a piece is cut short behind these
pub cut : {old piece all text new : List ℕ} (whole : List ℕ) → CutShort text piece new → text ≡ old ++ whole → Begins (whole ++ piece) all
    → CutShort old all new
cut {old} {piece} {all} {text} {new} whole c before begins = cut_behind old whole piece all text new c before begins

-- ---- in a loop that writes a piece each turn

module _ (upto piece : ℕ → List ℕ) where
  -- those up to one begin those up to a later one
  begin_later : (i k : ℕ) → ((n : ℕ) → n < i + 1 + k → upto (n + 1) ≡ upto n ++ piece n) → Begins (upto i ++ piece i) (upto (i + 1 + k))
  begin_later i zero more =
      let here : i + 1 ≡ i + 1 + 0 = omega arith in
      subst (Begins (upto i ++ piece i)) (sym (more i (omega arith)) ∙ ap upto here) (begins_itself (upto i ++ piece i))
  begin_later i (suc k) more =
      let n = i + 1 + k in
      let there : n + 1 ≡ i + 1 + suc k = omega arith in
      subst (Begins (upto i ++ piece i)) (sym (more n (omega arith)) ∙ ap upto there)
      (begins_more (upto i ++ piece i) (upto n) (piece n) (begin_later i k (λ m l. more m (omega (arith, l)))))

  -- of so many pieces this one is cut short
  pub turn_cut : (count i : ℕ) (start text new : List ℕ) → ((n : ℕ) → n < count → upto (n + 1) ≡ upto n ++ piece n) → i < count
      → text ≡ start ++ upto i → CutShort text (piece i) new → CutShort start (upto count) new
  turn_cut count i start text new more within all c =
      let there : i + 1 + (count - (i + 1)) ≡ count = omega (arith, within) in
      cut (upto i) c all (subst (λ n. Begins (upto i ++ piece i) (upto n)) there
      (begin_later i (count - (i + 1)) (λ n l. more n (omega (arith, l, within)))))

-- the same of a list
pub each_cut : {A : Type 0} (f : A → List ℕ) (xs : List A) (i : ℕ) (d : A) (start text new : List ℕ) → i < length xs
    → text ≡ start ++ flat_map f (take i xs) → CutShort text (f (get_or xs i d)) new → CutShort start (flat_map f xs) new
each_cut f xs i d start text new within all c =
    subst (λ ys. CutShort start (flat_map f ys) new) (take_all (length xs) xs (omega arith))
    (turn_cut (λ n. flat_map f (take n xs)) (λ n. f (get_or xs n d)) (length xs) i start text new (λ n l. flat_map-more f xs n d l) within all c)
