-- The text of lines, a line at a time.
use Rattle.uv_script.proofs.ProofNames.{◌≡◌, ℕ, ◌+◌, ◌<◌, List, [], ◌∷◌, ◌++◌, suc, length, map, drop, get_or, refl, ap, sym, ◌∙◌, arith, append_assoc, append-nil, codes, drop-length, drop-cons, slice_get-get_or, Program, name_text, setting_lines, var_line, main_line, name_lines, callback_lines, thread_line, lines_text}
use Rattle.uv_script.specs.Text.{script_text}

pub lines_text-append : (xs ys : List (List ℕ)) → lines_text (xs ++ ys) ≡ lines_text xs ++ lines_text ys
lines_text-append [] ys = refl
lines_text-append (x ∷ xs) ys = ap (λ t. x ++ 10 ∷ t) (lines_text-append xs ys) ∙ sym (append_assoc x (10 ∷ lines_text xs) (lines_text ys))

-- a line more in front of the rest
pub line_more : (text line : List ℕ) (rest : List (List ℕ)) → text ++ line ++ 10 ∷ [] ++ lines_text rest ≡ text ++ lines_text (line ∷ rest)
line_more text line rest = simp append_assoc

pub lines_end : {A : Type 0} (f : A → List ℕ) (xs : List A) (i : ℕ) (start text : List ℕ) → i ≡ length xs →
    text ++ lines_text (map f (drop i xs)) ≡ start ++ lines_text (map f xs) → text ≡ start ++ lines_text (map f xs)
lines_end f xs i start text at_end all = grind (arith, append-nil, drop-length)

-- lines behind others
lines_behind : (text : List ℕ) (xs ys : List (List ℕ)) → text ++ lines_text xs ++ lines_text ys ≡ text ++ lines_text (xs ++ ys)
lines_behind text xs ys = append_assoc text (lines_text xs) (lines_text ys) ∙ ap (λ t. text ++ t) (sym (lines_text-append xs ys))

-- the texts of three lists of lines
pub three_lists : (text : List ℕ) (xs ys zs : List (List ℕ)) →
    text ++ lines_text xs ++ lines_text ys ++ lines_text zs ≡ text ++ lines_text (xs ++ ys ++ zs)
three_lists text xs ys zs = ap (λ t. t ++ lines_text zs) (lines_behind text xs ys) ∙ lines_behind text (xs ++ ys) zs

-- two lines
two_lines : (text a b : List ℕ) → text ++ a ++ 10 ∷ [] ++ b ++ 10 ∷ [] ≡ text ++ lines_text (a ∷ b ∷ [])
two_lines text a b =
    sym (append-nil (text ++ a ++ 10 ∷ [] ++ b ++ 10 ∷ [])) ∙ line_more (text ++ a ++ 10 ∷ []) b [] ∙ line_more text a (b ∷ [])

-- the lines of all settings: some are there only where they were said
pub setting_texts : (text order : List ℕ) (xs ys : List (List ℕ)) (workers slots : List ℕ) →
    text ++ order ++ 10 ∷ [] ++ lines_text xs ++ lines_text ys ++ workers ++ 10 ∷ [] ++ slots ++ 10 ∷ []
    ≡ text ++ lines_text (order ∷ xs ++ ys ++ workers ∷ slots ∷ [])
setting_texts text order xs ys workers slots = simp (two_lines, line_more, three_lists)

-- and in that over their callbacks
pub callbacks_turn : (p : Program) (i : ℕ) (start text : List ℕ) → i < length p.names →
    text ++ lines_text (callback_lines p i (drop i p.names)) ≡ start ++ lines_text (callback_lines p 0 p.names) →
    text ++ lines_text (name_lines p (record { 0 = i })) ++ lines_text (callback_lines p (i + 1) (drop (i + 1) p.names))
    ≡ start ++ lines_text (callback_lines p 0 p.names)
callbacks_turn p i start text within all =
    append_assoc text (lines_text (name_lines p (record { 0 = i }))) (lines_text (callback_lines p (i + 1) (drop (i + 1) p.names)))
    ∙ ap (λ t. text ++ t) (sym (lines_text-append (name_lines p (record { 0 = i })) (callback_lines p (i + 1) (drop (i + 1) p.names))))
    ∙ ap (λ names. text ++ lines_text (callback_lines p i names))
    (ap (λ n. get_or p.names i [] ∷ drop n p.names) add_one ∙ sym (drop-cons p.names i [] within)) ∙ all
  where
    add_one : i + 1 ≡ suc i
    add_one = omega arith

pub callbacks_end : (p : Program) (i : ℕ) (start text : List ℕ) → i ≡ length p.names →
    text ++ lines_text (callback_lines p i (drop i p.names)) ≡ start ++ lines_text (callback_lines p 0 p.names) →
    text ≡ start ++ lines_text (callback_lines p 0 p.names)
callbacks_end p i start text at_end all = grind (arith, append-nil, drop-length)

-- the texts of a script's parts
pub whole_text : (text : List ℕ) (p : Program) →
    text ++ lines_text (setting_lines p) ++ lines_text (map var_line p.names) ++ lines_text (map (main_line p.names) p.main)
    ++ lines_text (callback_lines p 0 p.names) ++ lines_text (map (thread_line p.names) p.threads)
    ≡ text ++ script_text p
unfolding script_text
whole_text text p = simp three_lists
