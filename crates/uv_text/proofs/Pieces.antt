-- A text that is written a piece at a time.
use Rattle.uv_text.proofs.Names.{◌≡◌, ℕ, ◌+◌, ◌<◌, ◌≤◌, List, [], ◌∷◌, ◌++◌, length, take, get_or, ap, sym, ◌∙◌, append_assoc, append-nil, add-one, take_all, take_more, flat_map-append, flat_map, Program, State, run_by, run_text, runs_upto}

-- one more piece behind those before it
pub one_more : (upto : ℕ → List ℕ) (n : ℕ) (start text piece : List ℕ) → upto (n + 1) ≡ upto n ++ piece → text ≡ start ++ upto n →
    text ++ piece ≡ start ++ upto (n + 1)
one_more upto n start text piece more all =
    ap (λ t. t ++ piece) all ∙ append_assoc start (upto n) piece ∙ ap (λ t. start ++ t) (sym more)

-- one more of a list
pub flat_map-more : {A : Type 0} (f : A → List ℕ) (xs : List A) (i : ℕ) (d : A) → i < length xs →
    flat_map f (take (i + 1) xs) ≡ flat_map f (take i xs) ++ f (get_or xs i d)
flat_map-more f xs i d l =
    ap (flat_map f) (take_more xs i d l) ∙ flat_map-append f (take i xs) (get_or xs i d ∷ [])
    ∙ ap (λ (ys : List ℕ). flat_map f (take i xs) ++ ys) (append-nil (f (get_or xs i d)))

-- in a loop over a list: the piece of one more, and the end
pub each_turn : {A : Type 0} (f : A → List ℕ) (xs : List A) (i : ℕ) (d : A) (start text : List ℕ) → i < length xs →
    text ≡ start ++ flat_map f (take i xs) → text ++ f (get_or xs i d) ≡ start ++ flat_map f (take (i + 1) xs)
each_turn f xs i d start text within all =
    one_more (λ n. flat_map f (take n xs)) i start text (f (get_or xs i d)) (flat_map-more f xs i d within) all

pub each_end : {A : Type 0} (f : A → List ℕ) (xs : List A) (i : ℕ) (start text : List ℕ) → length xs ≤ i →
    text ≡ start ++ flat_map f (take i xs) → text ≡ start ++ flat_map f xs
each_end f xs i start text ended all = all ∙ ap (λ ys. start ++ flat_map f ys) (take_all i xs ended)

-- one more worker
pub runs_upto-more : (p : Program) (s : State) (n : ℕ) → runs_upto p s (n + 1) ≡ runs_upto p s n ++ run_text p s n (run_by s n)
runs_upto-more p s n = ap (runs_upto p s) (add-one n)

pub ruleset pieces = (flat_map-more, runs_upto-more)
