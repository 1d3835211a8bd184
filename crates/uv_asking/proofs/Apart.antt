-- No two forms fit the same fields. Each has a pattern, whatever is read; where two are as long, a word of the one doesn't fit the other.
use Rattle.uv_asking.proofs.Names.{◌≡◌, ◌≢◌, inl, inr, ℕ, Bool, true, false, not, ◌||◌, ◌&&◌, List, [], ◌∷◌, is_some, refl, ap, sym, subst, bytes_eq, and_parts, both_ways, cases_Bool, bytes_eq-Decides, Var, Event, same, Offer, Wait, Which, Form, Fits, FitsOne, forms, which_named}
use Rattle.uv_ids.specs.declared.code.Code.{Code}
use Rattle.uv_ids.specs.declared.code.Code.TheVariants as code
use Rattle.uv_ids.specs.declared.event.Event.TheVariants as event
use Rattle.uv_ids.specs.declared.phase.Phase.{Phase}
use Rattle.uv_ids.specs.declared.phase.Phase.TheVariants as phase
use Rattle.uv_ids.specs.Words.{code_named, phase_named}
use Rattle.uv_asking.specs.declared.asking.Which.TheVariants as which
use Rattle.uv_asking.specs.Grammar as is
use Rattle.uv_asking.proofs.FieldWords.{which_found, code_agrees, section_agrees}

-- ---- patterns

-- a field: this word, or one that passes a test
pub data Item : Type 0 where
  exactly : List ℕ → Item
  only : (List ℕ → Bool) → Item

abbrev pub any : Item
any = only (λ field. true)

abbrev pub may_be : Item → List ℕ → Bool
may_be (exactly text) field = bytes_eq field text
may_be (only test) field = test field

abbrev pub Matches : List Item → List (List ℕ) → Type 0
Matches [] [] = Unit {0}
Matches (item ∷ items) (field ∷ fields) = (may_be item field ≡ true) × Matches items fields
Matches _ _ = ⊥

-- the one is a word that the other isn't
abbrev pub clash : Item → Item → Bool
clash (exactly text) item = not (may_be item text)
clash (only test) (exactly text) = not (test text)
clash (only test) (only other) = false

abbrev pub apart : List Item → List Item → Bool
apart [] [] = false
apart (item ∷ items) (other ∷ others) = clash item other || apart items others
apart _ _ = true

pub no_more : (b : Bool) → not b ≡ true → b ≡ false
no_more true e = sym e
no_more false e = refl

clash_is : (item other : Item) (field : List ℕ) → clash item other ≡ true → may_be item field ≡ true → may_be other field ≡ true → ⊥
clash_is (exactly text) item field c h k = both_ways _ (no_more _ c) (subst (λ word. may_be item word ≡ true) (same _ _ h) k)
clash_is (only test) (exactly text) field c h k = both_ways _ (no_more _ c) (subst (λ word. test word ≡ true) (same _ _ k) h)
clash_is (only test) (only other) field c h k = both_ways _ refl c

apart_is : (p q : List Item) (fields : List (List ℕ)) → apart p q ≡ true → Matches p fields → Matches q fields → ⊥
apart_is [] [] fields e h k = both_ways _ refl e
apart_is [] (other ∷ q) [] e h k = k
apart_is [] (other ∷ q) (field ∷ fields) e h k = h
apart_is (item ∷ p) [] [] e h k = h
apart_is (item ∷ p) [] (field ∷ fields) e h k = k
apart_is (item ∷ p) (other ∷ q) [] e h k = h
apart_is (item ∷ p) (other ∷ q) (field ∷ fields) e h k =
    elim (cases_Bool (clash item other)) [
      | inl c ↦ clash_is item other field c h.0 k.0
      | inr c ↦ apart_is p q fields (subst (λ b. (b || apart p q) ≡ true) c e) h.1 k.1
    ]

-- ---- the pattern of a form

-- what a field may be read as
pub record Values : Type 0 where
  pub var : Var
  pub count : ℕ
  pub code : Code
  pub phase : Phase
  pub which : Which
  pub offer : Offer
  pub came : Event × Bool

abbrev pub none : Values
none =
    record { var = record { 0 = 0 }; count = 0; code = code.Ok; phase = phase.Idle; which = which.Any; offer = Wait; came = (event.Loop, false) }

abbrev pub first_values : List Values → Values
first_values [] = none
first_values (values ∷ rest) = values

abbrev pub later : List Values → List Values
later [] = []
later (values ∷ rest) = rest

-- the pattern of a form where its fields are read as these
abbrev pub pattern : {A : Type 0} → List Values → Form A → List Item
pattern values (is.says x) = []
pattern values (is.word text form) = exactly text ∷ pattern values form
pattern values (is.name form) = any ∷ pattern (later values) (form (first_values values).var)
pattern values (is.name_but this that form) =
    only (λ field. not (bytes_eq field this || bytes_eq field that)) ∷ pattern (later values) (form (first_values values).var)
pattern values (is.other_name v form) = any ∷ pattern (later values) (form (first_values values).var)
pattern values (is.number low high form) = any ∷ pattern (later values) (form (first_values values).count)
pattern values (is.nth form) = any ∷ pattern (later values) (form (first_values values).count)
pattern values (is.code form) = only (λ field. is_some (code_named field)) ∷ pattern (later values) (form (first_values values).code)
pattern values (is.section form) = only (λ field. is_some (phase_named field)) ∷ pattern (later values) (form (first_values values).phase)
pattern values (is.callbacks form) = only (λ field. is_some (which_named field)) ∷ pattern (later values) (form (first_values values).which)
pattern values (is.offer form) = any ∷ any ∷ pattern (later values) (form (first_values values).offer)
pattern values (is.came form) = any ∷ any ∷ pattern (later values) (form (first_values values).came)

record Shown (shape : List Values → List Item) (fields : List (List ℕ)) : Type 0 where
  values : List Values
  matches : Matches (shape values) fields

word : {field : List ℕ} {rest : List (List ℕ)} {item : Item} (shape : List Values → List Item) → may_be item field ≡ true → Shown shape rest →
    Shown (λ values. item ∷ shape values) (field ∷ rest)
word shape h more = record { values = more.values; matches = (h, more.matches) }

read : {field : List ℕ} {rest : List (List ℕ)} {item : Item} (v : Values) (shape : Values → List Values → List Item) → may_be item field ≡ true →
    Shown (shape v) rest → Shown (λ values. item ∷ shape (first_values values) (later values)) (field ∷ rest)
read v shape h more = record { values = v ∷ more.values; matches = (h, more.matches) }

unlike : (field this that : List ℕ) → field ≢ this → field ≢ that → not (bytes_eq field this || bytes_eq field that) ≡ true
unlike field this that a b = by (bytes_eq field this) refl (bytes_eq field that) refl where
  by : (x : Bool) → bytes_eq field this ≡ x → (y : Bool) → bytes_eq field that ≡ y → not (x || y) ≡ true
  by true e y f = absurd (a (same _ _ e))
  by false e true f = absurd (b (same _ _ f))
  by false e false f = refl

-- what fits a form has its pattern
shown : {A : Type 0} (names : List (List ℕ)) (form : Form A) (fields : List (List ℕ)) (said : A) → Fits names form fields said →
    Shown (λ values. pattern values form) fields
shown names (is.says x) [] said h = record { values = []; matches = tt }
shown names (is.says x) (field ∷ rest) said h = cc h.0
shown names (is.word text form) (field ∷ rest) said h =
    word (λ values. pattern values form) ((bytes_eq-Decides field text).1 h.1) (shown names form rest said h.2)
shown names (is.name form) (field ∷ rest) said h =
    read (record none { var = h.0 }) (λ v more. pattern more (form v.var)) refl (shown names (form h.0) rest said h.2)
shown names (is.name_but this that form) (field ∷ rest) said h =
    read (record none { var = h.0 }) (λ v more. pattern more (form v.var)) (unlike field this that h.1.0 h.1.1)
    (shown names (form h.0) rest said h.2)
shown names (is.other_name v form) (field ∷ rest) said h =
    read (record none { var = h.0 }) (λ v more. pattern more (form v.var)) refl (shown names (form h.0) rest said h.2)
shown names (is.number low high form) (field ∷ rest) said h =
    read (record none { count = h.0 }) (λ v more. pattern more (form v.count)) refl (shown names (form h.0) rest said h.2)
shown names (is.nth form) (field ∷ rest) said h =
    read (record none { count = h.0 }) (λ v more. pattern more (form v.count)) refl (shown names (form h.0) rest said h.2)
shown names (is.code form) (field ∷ rest) said h =
    read (record none { code = h.0 }) (λ v more. pattern more (form v.code)) (ap is_some ((code_agrees field).found _ h.1))
    (shown names (form h.0) rest said h.2)
shown names (is.section form) (field ∷ rest) said h =
    read (record none { phase = h.0 }) (λ v more. pattern more (form v.phase)) (ap is_some ((section_agrees field).found _ h.1))
    (shown names (form h.0) rest said h.2)
shown names (is.callbacks form) (field ∷ rest) said h =
    read (record none { which = h.0 }) (λ v more. pattern more (form v.which)) (ap is_some ((which_found field).found _ h.1))
    (shown names (form h.0) rest said h.2)
shown names (is.offer form) (what ∷ argument ∷ rest) said h =
    word _ refl (read (record none { offer = h.0 }) (λ v more. pattern more (form v.offer)) refl (shown names (form h.0) rest said h.2))
shown names (is.came form) (what ∷ argument ∷ rest) said h =
    word _ refl (read (record none { came = h.0 }) (λ v more. pattern more (form v.came)) refl (shown names (form h.0) rest said h.2))
shown names _ _ said h = absurd h

-- ---- forms

-- whatever is read, the form is apart from each of these
abbrev pub apart_from : {A : Type 0} → List Values → List Values → Form A → List (Form A) → Bool
apart_from a b form [] = true
apart_from a b form (other ∷ more) = apart (pattern a form) (pattern b other) && apart_from a b form more

abbrev pub are_apart : {A : Type 0} → List Values → List Values → List (Form A) → Bool
are_apart a b [] = true
are_apart a b (form ∷ more) = apart_from a b form more && are_apart a b more

pub not_both : {A : Type 0} (names : List (List ℕ)) (form : Form A) (forms : List (Form A)) (fields : List (List ℕ)) (x y : A) →
    ((a b : List Values) → apart_from a b form forms ≡ true) → Fits names form fields x → FitsOne names forms fields y → ⊥
not_both names form [] fields x y clear h k = k
not_both names form (other ∷ more) fields x y clear h (inl k) =
    let one = shown names form fields x h in
    let two = shown names other fields y k in
    apart_is (pattern one.values form) (pattern two.values other) fields (and_parts _ _ (clear one.values two.values)).0 one.matches two.matches
not_both names form (other ∷ more) fields x y clear h (inr k) =
    not_both names form more fields x y (λ a b. (and_parts _ _ (clear a b)).1) h k

pub all_apart : (a b : List Values) → are_apart a b forms ≡ true
unfolding code_named phase_named
all_apart a b = refl
