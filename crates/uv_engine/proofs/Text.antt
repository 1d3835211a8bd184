-- Texts that are written, whole or cut short.
use Rattle.uv_engine.proofs.Names.{◌≡◌, ℕ, zero, suc, zero-add, add-zero, ◌+◌, ◌-◌, List, [], ◌∷◌, ◌++◌, length, take, drop, refl, ap, sym, ◌∙◌, arith, append_assoc, common_steps, take-append-drop, CutShort}

take-add : (n m : ℕ) (xs : List ℕ) → take (n + m) xs ≡ take n xs ++ take m (drop n xs)
take-add zero m xs = rw zero-add refl
take-add (suc n) zero [] = rw add-zero refl
take-add (suc n) (suc m) [] = let e : suc n + suc m ≡ suc (n + suc m) = omega arith in rw e refl
take-add (suc n) m (x ∷ xs) = let e : suc n + m ≡ suc (n + m) = omega arith in rw e (ap (λ (ys : List ℕ). x ∷ ys) (take-add n m xs))

pub tail_is : (i : ℕ) (xs : List ℕ) → take (length xs - i) (drop i xs) ≡ drop i xs
tail_is i xs = grind (arith, common_steps)

-- one write more
pub wrote_more : (old : List ℕ) {mid new : List ℕ} (text : List ℕ) (at n : ℕ) → mid ≡ old ++ take at text
    → new ≡ mid ++ take n (take (length text - at) (drop at text))
    → new ≡ old ++ take (at + n) text
wrote_more old {mid} {new} text at n h k =
    k ∙ ap (λ (xs : List ℕ). mid ++ take n xs) (tail_is at text) ∙ ap (λ (xs : List ℕ). xs ++ take n (drop at text)) h
    ∙ append_assoc old _ _ ∙ ap (λ (xs : List ℕ). old ++ xs) (sym (take-add at n text))

-- a beginning of a text
pub beginning : {old new text : List ℕ} (k : ℕ) → new ≡ old ++ take k text → CutShort old text new
beginning {old} {new} {text} k h = record { part = take k text; rest = drop k text; whole = take-append-drop k text; written = h }
