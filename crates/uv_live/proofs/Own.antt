-- The lines of the senders' threads, each with its thread's.
use Rattle.uv_live.proofs.Names.{◌≡◌, ◌≢◌, inl, inr, ℕ, zero, suc, ◌+◌, ◌<◌, ◌≤◌, Bool, true, false, cond, ◌||◌, List, [], ◌∷◌, ◌++◌, length, map, filter, take, set, get_or, All, refl, sym, ap, ◌∙◌, arith, append-nil, length-set, get_or-set_other, get_or-set_same, map-append, cases_eq, ne_eqb, eq-eqb, All-map, All-filter, list_any, Var, ThreadLine, is_by, names_by, HasOwn, AreNamed}
use Rattle.uv_live.proofs.Absorbed.{names_more}

-- no thread has a name where there is no line
empty_more : (own : List (List Var)) (k : ℕ) → get_or own k [] ≡ [] → get_or (own ++ [] ∷ []) k [] ≡ []
empty_more [] zero h = refl
empty_more [] (suc k) h = refl
empty_more (x ∷ own) zero h = h
empty_more (x ∷ own) (suc k) h = empty_more own k h

pub none_more : {A : Type 0} (f : A → List Var) (xs : List A) (x : A) (ys : List A) (k : ℕ) → ys ≡ xs ++ x ∷ [] → f x ≡ [] →
    get_or (map f xs) k [] ≡ [] → get_or (map f ys) k [] ≡ []
none_more f xs x ys k more none before =
    ap (λ (own : List (List Var)). get_or own k [])
    (ap (map f) more ∙ map-append f xs (x ∷ []) ∙ ap (λ (names : List Var). map f xs ++ names ∷ []) none)
    ∙ empty_more (map f xs) k before

-- an element of a list that is seen through a function
pub map_there : {A B : Type 0} (f : A → B) (xs : List A) (i : ℕ) (d : A) (e : B) → i < length xs → get_or (map f xs) i e ≡ f (get_or xs i d)
map_there f [] i d e within = absurd (omega (arith, within))
map_there f (x ∷ xs) zero d e within = refl
map_there f (x ∷ xs) (suc i) d e within = map_there f xs i d e (omega (arith, within))

-- the names of one line
one_own : (line : ThreadLine) → names_by line.thread (line ∷ []) ≡ line.name ∷ []
one_own line = rw (eq-eqb line.thread line.thread refl) refl

one_other : (line : ThreadLine) (k : ℕ) → line.thread ≢ k → names_by k (line ∷ []) ≡ []
one_other line k other = rw (ne_eqb line.thread k other) refl

-- a line joins those of its thread
pub line_noted : (own : List (List Var)) (line : ThreadLine) (k : ℕ) → line.thread < length own →
    get_or (set own line.thread (get_or own line.thread [] ++ line.name ∷ [])) k [] ≡ get_or own k [] ++ names_by k (line ∷ [])
line_noted own line k within = elim (cases_eq k line.thread) [
  | inl same ↦ rw same (get_or-set_same own line.thread (get_or own line.thread [] ++ line.name ∷ []) [] within
      ∙ ap (λ (names : List Var). get_or own line.thread [] ++ names) (sym (one_own line)))
  | inr other ↦ get_or-set_other own line.thread k (get_or own line.thread [] ++ line.name ∷ []) [] other
      ∙ sym (ap (λ (names : List Var). get_or own k [] ++ names) (one_other line k (λ e. other (sym e))) ∙ append-nil (get_or own k []))
]

-- a thread has a line where it has a name
has_none : (thread : ℕ) (lines : List ThreadLine) → length (names_by thread lines) ≡ 0 → list_any (is_by thread) lines ≡ false
has_none thread [] none = refl
has_none thread (line ∷ lines) none = by (is_by thread line) (has_none thread lines) none
  where
    by : (b : Bool) → (length (names_by thread lines) ≡ 0 → list_any (is_by thread) lines ≡ false) →
        length (map (λ (l : ThreadLine). l.name) (cond b (line ∷ filter (is_by thread) lines) (filter (is_by thread) lines))) ≡ 0 →
        (b || list_any (is_by thread) lines) ≡ false
    by true rest none = absurd (omega (arith, none))
    by false rest none = rest none

has_some : (thread : ℕ) (lines : List ThreadLine) → (length (names_by thread lines) ≡ 0 → ⊥) → list_any (is_by thread) lines ≡ true
has_some thread [] some = absurd (some refl)
has_some thread (line ∷ lines) some = by (is_by thread line) (has_some thread lines) some
  where
    by : (b : Bool) → ((length (names_by thread lines) ≡ 0 → ⊥) → list_any (is_by thread) lines ≡ true) →
        (length (map (λ (l : ThreadLine). l.name) (cond b (line ∷ filter (is_by thread) lines) (filter (is_by thread) lines))) ≡ 0 → ⊥) →
        (b || list_any (is_by thread) lines) ≡ true
    by true rest some = refl
    by false rest some = rest some

pub counts_none : (thread : ℕ) (lines : List ThreadLine) (names : List Var) → names ≡ names_by thread lines → length names ≡ 0 →
    ◌≡◌ {A = ℕ} (cond (list_any (is_by thread) lines) 1 0) 0
counts_none thread lines names are none = rw (has_none thread lines (ap length (sym are) ∙ none)) refl

pub counts_one : (thread : ℕ) (lines : List ThreadLine) (names : List Var) → names ≡ names_by thread lines → (length names ≡ 0 → ⊥) →
    ◌≡◌ {A = ℕ} (cond (list_any (is_by thread) lines) 1 0) 1
counts_one thread lines names are some = rw (has_some thread lines (λ none. some (ap length are ∙ none))) refl

-- and its names are known where those of all lines are
pub own_named : (names thread : ℕ) (lines : List ThreadLine) (own : List Var) → own ≡ names_by thread lines → AreNamed names lines →
    All (λ (v : Var). v.0 < names) own
own_named names thread lines own are named =
    rw are (All-map (λ (v : Var). v.0 < names) (λ (l : ThreadLine). l.name) (filter (is_by thread) lines)
    (All-filter (is_by thread) (λ (l : ThreadLine). l.name.0 < names) lines named))
