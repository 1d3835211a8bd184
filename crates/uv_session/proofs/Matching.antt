-- The sets of breaks with one break more, and what a line matches by them.
use Rattle.uv_session.proofs.Names.{◌≡◌, ◌∙◌, ◌==◌, ◌||◌, ℕ, List, length, arith, [], ◌∷◌, ◌++◌, Bool, true, false, Option, Some, None, Result, Ok, Err, OnOk, AllocError, refl, ap, ap₂, sym, list_any, list_any-append, get_or, Code, Phase, Mode, Var, Id, Answer, Site, Seen, Break, matches, stops, is_code, same_code, same_phase, AreSets, is_of_name, is_of_code, is_of_section, is_of_poll}
use Rattle.uv_ids.specs.declared.code.Code.TheVariants as code
use Rattle.uv_ids.specs.declared.seen.Seen.TheVariants as seen
use Rattle.uv_session.specs.declared.breaks.Break.TheVariants as at

-- ---- tests of a list

any_none : {A : Type 0} (f : A → Bool) (xs : List A) → ((x : A) → f x ≡ false) → list_any f xs ≡ false
any_none f [] none = refl
any_none f (x ∷ xs) none = ap₂ (λ (a b : Bool). a || b) (none x) (any_none f xs none)

by_pairs : (a b c d : Bool) → ((a || b) || (c || d)) ≡ ((a || c) || (b || d))
by_pairs a b c d = grind arith

any_or : {A : Type 0} (f g : A → Bool) (xs : List A) → list_any (λ x. f x || g x) xs ≡ (list_any f xs || list_any g xs)
any_or f g [] = refl
any_or f g (x ∷ xs) = ap (λ (b : Bool). (f x || g x) || b) (any_or f g xs) ∙ by_pairs (f x) (g x) (list_any f xs) (list_any g xs)

or_false : (b : Bool) → (b || false) ≡ b
or_false b = grind arith

or_true : (b : Bool) → (b || true) ≡ true
or_true b = grind arith

-- one more, that passes the test or doesn't
any_push : {A : Type 0} (f : A → Bool) (xs : List A) (x : A) → list_any f (xs ++ x ∷ []) ≡ (list_any f xs || f x)
any_push f xs x = list_any-append f xs (x ∷ []) ∙ ap (λ (b : Bool). list_any f xs || b) (or_false (f x))

any_other : {A : Type 0} (f : A → Bool) (xs : List A) (x : A) → f x ≡ false → list_any f (xs ++ x ∷ []) ≡ list_any f xs
any_other f xs x other = any_push f xs x ∙ ap (λ (b : Bool). list_any f xs || b) other ∙ or_false (list_any f xs)

-- ---- one break more

with_name : (breaks : List Break) (v : Var) (names more : List Bool) (codes : List Code) (sections : List Phase) (polls : Bool)
    → ((n : ℕ) → get_or more n false ≡ (get_or names n false || (n == v.0))) → AreSets breaks names codes sections polls
    → AreSets (breaks ++ at.Call v ∷ []) more codes sections polls
with_name breaks v names more codes sections polls put h = record {
  names_are = λ n. put n ∙ ap (λ (b : Bool). b || (n == v.0)) (h.names_are n) ∙ sym (any_push (is_of_name n) breaks (at.Call v));
  codes_are = λ c. h.codes_are c ∙ sym (any_other (is_of_code c) breaks (at.Call v) refl);
  sections_are = λ x. h.sections_are x ∙ sym (any_other (is_of_section x) breaks (at.Call v) refl);
  polls_are = h.polls_are ∙ sym (any_other is_of_poll breaks (at.Call v) refl);
}

with_code : (breaks : List Break) (d : Code) (names : List Bool) (codes more : List Code) (sections : List Phase) (polls : Bool)
    → ((c : Code) → list_any (same_code c) more ≡ (list_any (same_code c) codes || same_code c d)) → AreSets breaks names codes sections polls
    → AreSets (breaks ++ at.Code d ∷ []) names more sections polls
with_code breaks d names codes more sections polls put h = record {
  names_are = λ n. h.names_are n ∙ sym (any_other (is_of_name n) breaks (at.Code d) refl);
  codes_are = λ c. put c ∙ ap (λ (b : Bool). b || same_code c d) (h.codes_are c) ∙ sym (any_push (is_of_code c) breaks (at.Code d));
  sections_are = λ x. h.sections_are x ∙ sym (any_other (is_of_section x) breaks (at.Code d) refl);
  polls_are = h.polls_are ∙ sym (any_other is_of_poll breaks (at.Code d) refl);
}

with_section : (breaks : List Break) (y : Phase) (names : List Bool) (codes : List Code) (sections more : List Phase) (polls : Bool)
    → ((x : Phase) → list_any (same_phase x) more ≡ (list_any (same_phase x) sections || same_phase x y))
    → AreSets breaks names codes sections polls → AreSets (breaks ++ at.Section y ∷ []) names codes more polls
with_section breaks y names codes sections more polls put h = record {
  names_are = λ n. h.names_are n ∙ sym (any_other (is_of_name n) breaks (at.Section y) refl);
  codes_are = λ c. h.codes_are c ∙ sym (any_other (is_of_code c) breaks (at.Section y) refl);
  sections_are = λ x. put x ∙ ap (λ (b : Bool). b || same_phase x y) (h.sections_are x) ∙ sym (any_push (is_of_section x) breaks (at.Section y));
  polls_are = h.polls_are ∙ sym (any_other is_of_poll breaks (at.Section y) refl);
}

pub with_poll : (breaks : List Break) (names : List Bool) (codes : List Code) (sections : List Phase) (polls : Bool)
    → AreSets breaks names codes sections polls → AreSets (breaks ++ at.Poll ∷ []) names codes sections true
with_poll breaks names codes sections polls h = record {
  names_are = λ n. h.names_are n ∙ sym (any_other (is_of_name n) breaks at.Poll refl);
  codes_are = λ c. h.codes_are c ∙ sym (any_other (is_of_code c) breaks at.Poll refl);
  sections_are = λ x. h.sections_are x ∙ sym (any_other (is_of_section x) breaks at.Poll refl);
  polls_are = sym (any_push is_of_poll breaks at.Poll ∙ or_true (list_any is_of_poll breaks));
}

-- what a break is of was put, if there was memory
pub name_put : (r : Result (Unit {0}) AllocError) (v : Var) (names more : List Bool) (codes : List Code) (sections : List Phase) (polls : Bool)
    → OnOk r ((n : ℕ) → get_or more n false ≡ (get_or names n false || (n == v.0)))
    → OnOk r ((breaks : List Break) → AreSets breaks names codes sections polls → AreSets (breaks ++ at.Call v ∷ []) more codes sections polls)
name_put (Ok done) v names more codes sections polls put = λ breaks h. with_name breaks v names more codes sections polls put h
name_put (Err e) v names more codes sections polls put = tt

pub code_put : (r : Result (Unit {0}) AllocError) (d : Code) (names : List Bool) (codes more : List Code) (sections : List Phase) (polls : Bool)
    → OnOk r ((c : Code) → list_any (same_code c) more ≡ (list_any (same_code c) codes || same_code c d))
    → OnOk r ((breaks : List Break) → AreSets breaks names codes sections polls → AreSets (breaks ++ at.Code d ∷ []) names more sections polls)
code_put (Ok done) d names codes more sections polls put = λ breaks h. with_code breaks d names codes more sections polls put h
code_put (Err e) d names codes more sections polls put = tt

pub section_put : (r : Result (Unit {0}) AllocError) (y : Phase) (names : List Bool) (codes : List Code) (sections more : List Phase) (polls : Bool)
    → OnOk r ((x : Phase) → list_any (same_phase x) more ≡ (list_any (same_phase x) sections || same_phase x y))
    → OnOk r ((breaks : List Break) → AreSets breaks names codes sections polls → AreSets (breaks ++ at.Section y ∷ []) names codes more polls)
section_put (Ok done) y names codes sections more polls put = λ breaks h. with_section breaks y names codes sections more polls put h
section_put (Err e) y names codes sections more polls put = tt

-- ---- what a line matches

-- a line that nothing matches
none_matches : (l : Seen) (bs : List Break) → ((v : Var) → matches (at.Call v) l ≡ false) → ((c : Code) → matches (at.Code c) l ≡ false)
    → ((x : Phase) → matches (at.Section x) l ≡ false) → matches at.Poll l ≡ false → false ≡ list_any (λ (b : Break). matches b l) bs
none_matches l bs calls codes sections poll = grind (arith, any_none)

-- a line that is held against some of them
some_match : (f : Break → Bool) (l : Seen) (bs : List Break) → ((v : Var) → f (at.Call v) ≡ matches (at.Call v) l)
    → ((c : Code) → f (at.Code c) ≡ matches (at.Code c) l) → ((x : Phase) → f (at.Section x) ≡ matches (at.Section x) l)
    → f at.Poll ≡ matches at.Poll l → list_any f bs ≡ list_any (λ (b : Break). matches b l) bs
some_match f l bs calls codes sections poll = grind arith

pub run_matches : (m : Mode) (bs : List Break) → false ≡ list_any (λ (b : Break). matches b (seen.Run m)) bs
run_matches m bs = none_matches (seen.Run m) bs (λ v. refl) (λ c. refl) (λ x. refl) refl

pub end_matches : (alive : Bool) (bs : List Break) → false ≡ list_any (λ (b : Break). matches b (seen.End alive)) bs
end_matches alive bs = none_matches (seen.End alive) bs (λ v. refl) (λ c. refl) (λ x. refl) refl

pub take_matches : (k : ℕ) (v : Var) (id : Id) (bs : List Break) → false ≡ list_any (λ (b : Break). matches b (seen.Take k v id)) bs
take_matches k v id bs = none_matches (seen.Take k v id) bs (λ v. refl) (λ c. refl) (λ x. refl) refl

pub finish_matches : (k : ℕ) (v : Var) (id : Id) (bs : List Break) → false ≡ list_any (λ (b : Break). matches b (seen.Finish k v id)) bs
finish_matches k v id bs = none_matches (seen.Finish k v id) bs (λ v. refl) (λ c. refl) (λ x. refl) refl

pub tick_matches : (ms : ℕ) (bs : List Break) → false ≡ list_any (λ (b : Break). matches b (seen.Tick ms)) bs
tick_matches ms bs = none_matches (seen.Tick ms) bs (λ v. refl) (λ c. refl) (λ x. refl) refl

pub finished_matches : (digest : List ℕ) (v : Var) (id : Id) (bs : List Break) →
    (list_any (is_of_name v.0) bs || list_any (is_of_code code.Ok) bs) ≡ list_any (λ (b : Break). matches b (seen.After (Some digest) v id)) bs
finished_matches digest v id bs =
    sym (any_or (is_of_name v.0) (is_of_code code.Ok) bs)
    ∙ some_match (λ b. is_of_name v.0 b || is_of_code code.Ok b) (seen.After (Some digest) v id) bs (λ u. or_false (v.0 == u.0)) (λ c. refl)
    (λ x. refl) refl

pub cancelled_matches : (v : Var) (id : Id) (bs : List Break) →
    (list_any (is_of_name v.0) bs || list_any (is_of_code code.Ecanceled) bs) ≡ list_any (λ (b : Break). matches b (seen.After None v id)) bs
cancelled_matches v id bs =
    sym (any_or (is_of_name v.0) (is_of_code code.Ecanceled) bs)
    ∙ some_match (λ b. is_of_name v.0 b || is_of_code code.Ecanceled b) (seen.After None v id) bs (λ u. or_false (v.0 == u.0)) (λ c. refl)
    (λ x. refl) refl

-- an answer that is no code
abbrev IsNoCode : Answer → Type 0
IsNoCode a = (c : Code) → is_code c a ≡ false

pub op_matches_none : (site : Site) (a : Answer) (bs : List Break) → IsNoCode a → false ≡ list_any (λ (b : Break). matches b (seen.Op site a)) bs
op_matches_none site a bs none = none_matches (seen.Op site a) bs (λ v. refl) none (λ x. refl) refl

pub cancel_matches_none : (v : Var) (a : Answer) (bs : List Break) → IsNoCode a → false ≡ list_any (λ (b : Break). matches b (seen.Cancel v a)) bs
cancel_matches_none v a bs none = none_matches (seen.Cancel v a) bs (λ v. refl) none (λ x. refl) refl

-- where there are no breaks no step matches one
pub none_stop : (bs : List Break) (seen : Option Seen) → (length bs == 0) ≡ true → false ≡ stops bs seen
none_stop [] None none = refl
none_stop [] (Some l) none = refl
none_stop (b ∷ bs) seen none = grind arith
