-- A scan of a list, from its beginning on: what is known of the rest, and so of the whole.
use Rattle.uv_find.proofs.Names.{◌≡◌, ℕ, zero, suc, ◌+◌, ◌<◌, ◌≤◌, ◌&&◌, Bool, true, false, List, [], ◌∷◌, length, drop, Some, None, slice_get, refl, ap, ap₂, sym, ◌∙◌, arith, max, unwrap_or, list_all, drop_all, none-some, get_or_from_slice_get, slice_get_within, drop-cons, Callbacks, no_callbacks, callbacks_end, all_end}

-- an element, and those behind it
rest_at : {A : Type 0} (xs : List A) (k : ℕ) (x : A) → slice_get xs k ≡ Some x → drop k xs ≡ x ∷ drop (k + 1) xs
rest_at xs k x e =
    let one : suc k ≡ k + 1 = omega arith in
    drop-cons xs k x (slice_get_within xs k x e) ∙ ap₂ (λ y n. y ∷ drop n xs) (get_or_from_slice_get xs k x x e) one

none_at : {A : Type 0} (xs : List A) (k : ℕ) → slice_get xs k ≡ None → drop k xs ≡ []
none_at [] zero e = refl
none_at [] (suc k) e = refl
none_at (y ∷ ys) zero e = absurd (none-some y (sym e))
none_at (y ∷ ys) (suc k) e = none_at ys k e

some_at : {A : Type 0} (xs : List A) (k : ℕ) (d : A) → k < length xs → slice_get xs k ≡ Some (unwrap_or (slice_get xs k) d)
some_at (y ∷ ys) (suc k) d within = some_at ys k d (omega (arith, within))
some_at each e1 d within = grind arith

-- ---- whether a test holds of each

pub all_goes : {A : Type 0} (f : A → Bool) (xs : List A) (k : ℕ) (x : A) (all : Bool) → slice_get xs k ≡ Some x → f x ≡ true →
    list_all f (drop k xs) ≡ all → list_all f (drop (k + 1) xs) ≡ all
all_goes f xs k x all e h so = ap (λ b. b && list_all f (drop (k + 1) xs)) (sym h) ∙ ap (list_all f) (sym (rest_at xs k x e)) ∙ so

pub all_fails : {A : Type 0} (f : A → Bool) (xs : List A) (k : ℕ) (x : A) (all : Bool) → slice_get xs k ≡ Some x → f x ≡ false →
    list_all f (drop k xs) ≡ all → false ≡ all
all_fails f xs k x all e h so = ap (λ b. b && list_all f (drop (k + 1) xs)) (sym h) ∙ ap (list_all f) (sym (rest_at xs k x e)) ∙ so

pub all_ends : {A : Type 0} (f : A → Bool) (xs : List A) (k : ℕ) (all : Bool) → slice_get xs k ≡ None → list_all f (drop k xs) ≡ all → true ≡ all
all_ends f xs k all e so = ap (list_all f) (sym (none_at xs k e)) ∙ so

pub all_past : {A : Type 0} (f : A → Bool) (xs : List A) (k : ℕ) (all : Bool) → length xs ≤ k → list_all f (drop k xs) ≡ all → true ≡ all
all_past f xs k all past so = ap (list_all f) (sym (drop_all k xs past)) ∙ so

pub all_goes_in : {A : Type 0} (f : A → Bool) (xs : List A) (k : ℕ) (d : A) → k < length xs → f (unwrap_or (slice_get xs k) d) ≡ true →
    list_all f (drop k xs) ≡ list_all f xs → list_all f (drop (k + 1) xs) ≡ list_all f xs
all_goes_in f xs k d within h so = all_goes f xs k (unwrap_or (slice_get xs k) d) (list_all f xs) (some_at xs k d within) h so

pub all_fails_in : {A : Type 0} (f : A → Bool) (xs : List A) (k : ℕ) (d : A) → k < length xs → f (unwrap_or (slice_get xs k) d) ≡ false →
    list_all f (drop k xs) ≡ list_all f xs → false ≡ list_all f xs
all_fails_in f xs k d within h so = all_fails f xs k (unwrap_or (slice_get xs k) d) (list_all f xs) (some_at xs k d within) h so

-- ---- behind the call of each line

larger : (c e r : ℕ) → max (max c e) r ≡ max e (max c r)
larger c e r = omega arith

pub end_goes : (cs : List Callbacks) (k end : ℕ) → k < length cs → max end (all_end (drop k cs)) ≡ all_end cs →
    max (max (callbacks_end (unwrap_or (slice_get cs k) no_callbacks)) end) (all_end (drop (k + 1) cs)) ≡ all_end cs
end_goes cs k end within so =
    let c = unwrap_or (slice_get cs k) no_callbacks in
    larger (callbacks_end c) end (all_end (drop (k + 1) cs))
    ∙ ap (λ xs. max end (all_end xs)) (sym (rest_at cs k c (some_at cs k no_callbacks within))) ∙ so

nothing : (end : ℕ) → end ≡ max end 0
nothing end = omega arith

pub end_past : (cs : List Callbacks) (k end : ℕ) → length cs ≤ k → max end (all_end (drop k cs)) ≡ all_end cs → end ≡ all_end cs
end_past cs k end past so = nothing end ∙ ap (λ xs. max end (all_end xs)) (sym (drop_all k cs past)) ∙ so

pub ruleset scanning = (all_goes, all_fails, all_ends, all_past, all_goes_in, all_fails_in, end_goes, end_past)
