-- The text of a recording, a part at a time.
use Rattle.uv_text.proofs.Names.{◌≡◌, ℕ, List, [], ◌∷◌, ◌++◌, map, Bool, true, false, Option, Some, None, refl, ap, sym, ◌∙◌, append_assoc, option_to_list, codes, flat_map, filter, Event, Seen, Program, script_lines, lines_text, lines_text-append, line_text, first_line, step_line, is_callback, callback_lines, called_text}
use Rattle.uv_script.specs.Text.{script_text}
use Rattle.uv_text.specs.Recording.{recording_text, script_part}

-- ---- the callbacks of the steps

-- the lines of those that are callbacks
called_one : (p : Program) (l : Seen) (xs : List (Option Seen)) (b : Bool) → is_callback l ≡ b →
    flat_map (called_text p) xs ≡ lines_text (map (line_text p) (filter is_callback (flat_map option_to_list xs))) →
    flat_map (called_text p) (Some l ∷ xs) ≡ lines_text (map (line_text p) (filter is_callback (flat_map option_to_list (Some l ∷ xs))))
called_one p l xs true e rest = rw e (ap (λ (t : List ℕ). (line_text p l ++ codes "\n") ++ t) rest ∙ append_assoc (line_text p l) (codes "\n") _)
called_one p l xs false e rest = rw e rest

pub called_is : (p : Program) (xs : List (Option Seen)) →
    flat_map (called_text p) xs ≡ lines_text (map (line_text p) (filter is_callback (flat_map option_to_list xs)))
called_is p [] = refl
called_is p (None ∷ xs) = called_is p xs
called_is p (Some l ∷ xs) = called_one p l xs (is_callback l) refl (called_is p xs)

-- ---- the steps

pub steps_are : (names : List (List ℕ)) (es : List Event) → flat_map (λ e. step_line names e ++ codes "\n") es ≡ lines_text (map (step_line names) es)
steps_are names [] = refl
steps_are names (e ∷ es) = simp (append_assoc, (steps_are names es))

-- ---- the parts

regrouped : (x b t c k e : List ℕ) → (x ++ b) ++ (t ++ (c ++ (k ++ e))) ≡ ((x ++ (b ++ t)) ++ (c ++ k)) ++ e
regrouped x b t c k e = simp append_assoc refl

cut_in_four : (ks bs cs ds : List (List ℕ)) →
    lines_text (ks ++ bs ++ cs ++ ds) ≡ ((lines_text ks ++ lines_text bs) ++ lines_text cs) ++ lines_text ds
cut_in_four ks bs cs ds = simp lines_text-append

-- they are the whole
pub whole : (p : Program) (es : List Event) →
    script_part p ++ (lines_text (map (step_line p.names) es) ++ (codes "calls\n" ++ (lines_text (callback_lines p es) ++ codes "end\n")))
    ≡ recording_text p es
unfolding script_part recording_text script_text
whole p es =
    let steps = map (step_line p.names) es in
    let calls = callback_lines p es in
    let first = first_line p in
    let text = lines_text (script_lines p) in
    regrouped ((first ++ codes "\n") ++ text) (codes "begin\n") (lines_text steps) (codes "calls\n") (lines_text calls) (codes "end\n")
    ∙ ap (λ (t : List ℕ). ((t ++ (codes "begin\n" ++ lines_text steps)) ++ (codes "calls\n" ++ lines_text calls)) ++ codes "end\n")
    (append_assoc first (codes "\n") text)
    ∙ sym (cut_in_four (first ∷ script_lines p) (codes "begin" ∷ steps) (codes "calls" ∷ calls) (codes "end" ∷ []))
