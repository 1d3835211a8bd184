-- What the code reads is what the grammar says.
use Rattle.uv_asking.proofs.Names.{if◌then◌else◌, Bool, ◌≡◌, inl, inr, not, ◌==◌, ◌&&◌, ℕ, List, [], ◌∷◌, ◌++◌, true, false, Option, Some, None, refl, ap, sym, subst, ◌∙◌, IfSome, and_parts, cond_both, both_ways, none-some, fields_of, is_line, is_skipped, place_of, is_line_decides, is_skipped_decides, Form, says, word, name, name_but, other_name, number, nth, code, section, callbacks, offer, came, Fits, FitsOne, forms, Says, nothing, one, bad, is_word, name_but_of, other_of, number_in, call_in, which_named, offer_of, came_of, reads, reads_one, said_by, said_of}
use Rattle.std.specs.Option.{option_or}
use Rattle.uv_ids.specs.Words.{code_named, phase_named}
use Rattle.uv_script.proofs.AfterLines.{line_begins}
use Rattle.uv_asking.specs.declared.part.Part.{Part}
use Rattle.uv_asking.specs.declared.part.Said.{Said}
use Rattle.uv_asking.specs.declared.part.Said.TheVariants.{Nothing, Bad}
use Rattle.uv_asking.proofs.Found.{Agrees, itself, each, first, first_two}
use Rattle.uv_asking.proofs.Apart.{Values, are_apart, no_more, not_both, all_apart}
use Rattle.uv_asking.proofs.FieldWords.{ends, this_word, name_but_found, other_found, number_found, nth_found, which_found, code_agrees, section_agrees, offer_found, came_found}

-- what is read of fields is what fits
pub agrees : {A : Type 0} (names : List (List ℕ)) (form : Form A) (fields : List (List ℕ)) →
    Agrees (reads names form fields) (λ said. Fits names form fields said)
agrees names (says x) fields = ends x fields
agrees names (word text form) fields = first (is_word text) _ _ _ (this_word text) (λ is rest. agrees names form rest) fields
agrees names (name form) fields = first (place_of names) _ _ _ (λ field. itself (place_of names field)) (λ v rest. agrees names (form v) rest) fields
agrees names (name_but this that form) fields =
    first (name_but_of names this that) _ _ _ (name_but_found names this that) (λ v rest. agrees names (form v) rest) fields
agrees names (other_name v form) fields =
    first (other_of names v) _ _ _ (other_found names v) (λ w rest. agrees names (form w) rest) fields
agrees names (number low high form) fields =
    first (number_in low high) _ _ _ (number_found low high) (λ n rest. agrees names (form n) rest) fields
agrees names (nth form) fields = first call_in _ _ _ nth_found (λ k rest. agrees names (form k) rest) fields
agrees names (code form) fields = first code_named _ _ _ code_agrees (λ c rest. agrees names (form c) rest) fields
agrees names (section form) fields = first phase_named _ _ _ section_agrees (λ x rest. agrees names (form x) rest) fields
agrees names (callbacks form) fields = first which_named _ _ _ which_found (λ w rest. agrees names (form w) rest) fields
agrees names (offer form) fields = first_two (offer_of names) _ _ _ (offer_found names) (λ o rest. agrees names (form o) rest) fields
agrees names (came form) fields = first_two (came_of names) _ _ _ (came_found names) (λ e rest. agrees names (form e) rest) fields

-- what was read before stays
stays : {A : Type 0} (names : List (List ℕ)) (x : A) (forms : List (Form A)) (fields : List (List ℕ)) → reads_one names (Some x) forms fields ≡ Some x
stays names x [] fields = refl
stays names x (form ∷ more) fields = stays names x more fields

one_right : {A : Type 0} (names : List (List ℕ)) (forms : List (Form A)) (fields : List (List ℕ)) →
    IfSome (reads_one names None forms fields) (λ said. FitsOne names forms fields said)
one_right names [] fields = tt
one_right {A} names (form ∷ more) fields = by (reads names form fields) (agrees names form fields).right (one_right names more fields) where
  by : (o : Option A) → IfSome o (Fits names form fields) → IfSome (reads_one names None more fields) (λ said. FitsOne names more fields said) →
      IfSome (reads_one names o more fields) (λ said. FitsOne names (form ∷ more) fields said)
  by None h k = each _ _ _ (λ said held. inr held) k
  by (Some x) h k = subst (λ o. IfSome o (λ said. FitsOne names (form ∷ more) fields said)) (sym (stays names x more fields)) (inl h)

one_found : {A : Type 0} (names : List (List ℕ)) (forms : List (Form A)) (fields : List (List ℕ)) (said : A) →
    ((a b : List Values) → are_apart a b forms ≡ true) → FitsOne names forms fields said → reads_one names None forms fields ≡ Some said
one_found names [] fields said clear h = absurd h
one_found names (form ∷ more) fields said clear (inl h) =
    ap (λ o. reads_one names o more fields) ((agrees names form fields).found said h) ∙ stays names said more fields
one_found {A} names (form ∷ more) fields said clear (inr h) =
    ap (λ o. reads_one names o more fields) (by (reads names form fields) (agrees names form fields).right)
    ∙ one_found names more fields said (λ a b. (and_parts _ _ (clear a b)).1) h
  where
    by : (o : Option A) → IfSome o (Fits names form fields) → o ≡ None
    by None k = refl
    by (Some x) k = absurd (not_both names form more fields x said (λ a b. (and_parts _ _ (clear a b)).0) k h)

-- what is read of a line is what fits one of its forms
pub one_agrees : (names fields : List (List ℕ)) → Agrees (reads_one names None forms fields) (λ said. FitsOne names forms fields said)
one_agrees names fields = record { right = one_right names forms fields; found = λ said. one_found names forms fields said all_apart }

-- forms in groups
behind : {A : Type 0} (names : List (List ℕ)) (o : Option A) (forms more : List (Form A)) (fields : List (List ℕ)) →
    reads_one names o (forms ++ more) fields ≡ option_or (reads_one names o forms fields) (reads_one names None more fields)
behind names None [] more fields = refl
behind names (Some x) [] more fields = stays names x more fields
behind names o (form ∷ forms) more fields = behind names (option_or o (reads names form fields)) forms more fields

pub grouped : {A : Type 0} (names : List (List ℕ)) (a b c d : List (Form A)) (fields : List (List ℕ)) →
    reads_one names None (a ++ b ++ c ++ d) fields ≡ option_or (option_or (option_or (reads_one names None a fields) (reads_one names None b fields))
    (reads_one names None c fields)) (reads_one names None d fields)
grouped names a b c d fields =
    rw (behind names None (a ++ b ++ c) d fields, behind names None (a ++ b) c fields, behind names None a b fields) refl

-- ---- what is said isn't skipped

-- each line of this form begins with a word, and that doesn't begin as a comment does
abbrev begins : {A : Type 0} → Form A → Bool
begins (word (b ∷ bs) form) = not (b == 35)
begins _ = false

abbrev all_begin : {A : Type 0} → List (Form A) → Bool
all_begin [] = true
all_begin (form ∷ more) = begins form && all_begin more

fits_plain : {A : Type 0} (names : List (List ℕ)) (form : Form A) (line : List ℕ) (fields : List (List ℕ)) (said : A) → begins form ≡ true →
    fields_of line ≡ fields → Fits names form fields said → is_skipped line ≡ false
fits_plain names (word (b ∷ bs) form) line [] said c e h = absurd h
fits_plain names (word (b ∷ bs) form) line (field ∷ rest) said c e h = line_begins line b bs rest (e ∙ ap (λ f. f ∷ rest) h.1) ∙ no_more _ c
fits_plain names _ line fields said c e h = absurd (both_ways _ refl c)

not_skipped : {A : Type 0} (names : List (List ℕ)) (forms : List (Form A)) (line : List ℕ) (said : A) → all_begin forms ≡ true →
    FitsOne names forms (fields_of line) said → is_skipped line ≡ false
not_skipped names [] line said b h = absurd h
not_skipped names (form ∷ more) line said b (inl h) = fits_plain names form line (fields_of line) said (and_parts _ _ b).0 refl h
not_skipped names (form ∷ more) line said b (inr h) = not_skipped names more line said (and_parts _ _ b).1 h

-- ---- any line

none_fits : (names fields : List (List ℕ)) → reads_one names None forms fields ≡ None → (said : Part) → FitsOne names forms fields said → ⊥
none_fits names fields e said h = none-some _ (sym e ∙ (one_agrees names fields).found said h)

none_read : (names fields : List (List ℕ)) → ((said : Part) → FitsOne names forms fields said → ⊥) → reads_one names None forms fields ≡ None
none_read names fields none = by (reads_one names None forms fields) (one_agrees names fields).right where
  by : (o : Option Part) → IfSome o (FitsOne names forms fields) → o ≡ None
  by None h = refl
  by (Some said) h = absurd (none said h)

told : (names : List (List ℕ)) (line : List ℕ) → is_line line ≡ true → is_skipped line ≡ false → (o : Option Part) →
    reads_one names None forms (fields_of line) ≡ o → IfSome o (FitsOne names forms (fields_of line)) → Says names line (said_by o)
told names line e s (Some said) z h = one said ((is_line_decides line).0 e) h
told names line e s None z h = bad (λ _ k. both_ways _ s ((is_skipped_decides line).1 k)) (λ _. none_fits names (fields_of line) z)

pub says_all : (names : List (List ℕ)) (line : List ℕ) → Says names line (said_of names line)
says_all names line = cond_both (is_line line) _ _ (Says names line)
    (λ e. cond_both (is_skipped line) _ _ (Says names line)
    (λ s. nothing ((is_line_decides line).0 e) ((is_skipped_decides line).0 s))
    (λ s. told names line e s (reads_one names None forms (fields_of line)) refl (one_agrees names (fields_of line)).right))
    (λ e. bad (λ l _. both_ways _ e ((is_line_decides line).1 l)) (λ l. absurd (both_ways _ e ((is_line_decides line).1 l))))

-- what a line says is what the code reads
pub says_only : (names : List (List ℕ)) (line : List ℕ) (said : Said) → Says names line said → said ≡ said_of names line
says_only names line said (nothing l s) = rw ((is_line_decides line).1 l, (is_skipped_decides line).1 s) refl
says_only names line said (one x l h) =
    rw ((is_line_decides line).1 l, not_skipped names forms line x refl h, (one_agrees names (fields_of line)).found x h) refl
says_only names line said (bad skip none) = by (is_line line) refl (is_skipped line) refl where
  by : (a : Bool) → is_line line ≡ a → (b : Bool) → is_skipped line ≡ b
      → ◌≡◌ {A = Said} Bad (if a then (if b then Nothing else said_by (reads_one names None forms (fields_of line))) else Bad)
  by false e b f = refl
  by true e true f = absurd (skip ((is_line_decides line).0 e) ((is_skipped_decides line).0 f))
  by true e false f = rw (none_read names (fields_of line) (none ((is_line_decides line).0 e))) refl

pub says_one : (names : List (List ℕ)) (line : List ℕ) (a b : Said) → Says names line a → Says names line b → a ≡ b
says_one names line a b h k = says_only names line a h ∙ sym (says_only names line b k)

pub says_read : (names : List (List ℕ)) (line : List ℕ) (said : Said) → said ≡ said_of names line → Says names line said
says_read names line said e = rw e (says_all names line)

pub ruleset reading = (says_all, says_read, says_one)
