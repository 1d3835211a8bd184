-- Texts that are written a piece at a time.
use Rattle.uv_script.proofs.ProofNames.{⊤, take, take-append-drop, take_more, ◌≡◌, ℕ, suc, arith, codes, slice_get-get_or, Program, name_text, var_line, callback_lines, name_lines, ◌+◌, ◌<◌, length, map, drop, get_or, drop-cons, map-append, lines_text, List, [], ◌∷◌, ◌++◌, Result, Ok, Err, refl, ap, ap₂, sym, subst, ◌∙◌, append_assoc, append-nil, CutShort, Writes}
use Rattle.uv_script.proofs.Texts.{lines_text-append, callbacks_turn}

-- a text begins another one
abbrev pub Begins : List ℕ → List ℕ → Type 0
Begins [] ys = ⊤
Begins (x ∷ xs) [] = ⊥
Begins (x ∷ xs) (y ∷ ys) = (x ≡ y) × Begins xs ys

pub begins_itself : (xs : List ℕ) → Begins xs xs
begins_itself [] = tt
begins_itself (x ∷ xs) = (refl, begins_itself xs)

pub begins_more : (xs ys zs : List ℕ) → Begins xs ys → Begins xs (ys ++ zs)
begins_more [] ys zs b = tt
begins_more (x ∷ xs) [] zs b = elim b [ ]
begins_more (x ∷ xs) (y ∷ ys) zs b = (b.0, begins_more xs ys zs b.1)

pub begins_less : (xs ys zs : List ℕ) → Begins (xs ++ ys) zs → Begins xs zs
begins_less [] ys zs b = tt
begins_less (x ∷ xs) ys [] b = elim b [ ]
begins_less (x ∷ xs) ys (z ∷ zs) b = (b.0, begins_less xs ys zs b.1)

-- what stands behind
abbrev rest_of : List ℕ → List ℕ → List ℕ
rest_of [] ys = ys
rest_of (x ∷ xs) [] = []
rest_of (x ∷ xs) (y ∷ ys) = rest_of xs ys

with_rest : (xs ys : List ℕ) → Begins xs ys → ys ≡ xs ++ rest_of xs ys
with_rest [] ys b = refl
with_rest (x ∷ xs) [] b = elim b [ ]
with_rest (x ∷ xs) (y ∷ ys) b = ap₂ (λ h t. h ∷ t) (sym b.0) (with_rest xs ys b.1)

-- nothing was written
pub none_written : (old more new : List ℕ) → new ≡ old → CutShort old more new
none_written old more new same = record { part = []; rest = more; whole = refl; written = same ∙ sym (append-nil old) }

-- what is cut short stays so where more was to be written behind it
pub cut_before : (old piece all new : List ℕ) → CutShort old piece new → Begins piece all → CutShort old all new
cut_before old piece all new c b =
    record {
      part = c.part;
      rest = c.rest ++ rest_of piece all;
      whole = sym (append_assoc c.part c.rest (rest_of piece all)) ∙ ap (λ t. t ++ rest_of piece all) c.whole ∙ sym (with_rest piece all b);
      written = c.written;
    }

-- a piece is cut short behind others that are whole
pub cut_behind : (old whole piece all text new : List ℕ) → CutShort text piece new → text ≡ old ++ whole → Begins (whole ++ piece) all
    → CutShort old all new
cut_behind old whole piece all text new c t b =
    cut_before old (whole ++ piece) all new
    (record {
      part = whole ++ c.part;
      rest = c.rest;
      whole = append_assoc whole c.part c.rest ∙ ap (λ t. whole ++ t) c.whole;
      written = c.written ∙ ap (λ t. t ++ c.part) t ∙ append_assoc old whole c.part;
    }) b

-- the same of a piece that is known under another name
pub cut_at : (old front piece known all text new : List ℕ) → CutShort text piece new → text ≡ old ++ front → piece ≡ known
    → Begins (front ++ known) all → CutShort old all new
cut_at old front piece known all text new c t is b =
    cut_behind old front piece all text new c t (subst (λ x. Begins (front ++ x) all) (sym is) b)

-- all that was to be written, but no more
pub cut_whole : (old whole all text : List ℕ) → text ≡ old ++ whole → Begins whole all → CutShort old all text
cut_whole old whole all text t b = record { part = whole; rest = rest_of whole all; whole = sym (with_rest whole all b); written = t }

-- a piece behind others
pub whole_behind : (old whole more text new : List ℕ) → new ≡ text ++ more → text ≡ old ++ whole → new ≡ old ++ (whole ++ more)
whole_behind old whole more text new n t = n ∙ ap (λ t. t ++ more) t ∙ append_assoc old whole more

-- the last piece
pub last_behind : {T E : Type 0} (r : Result T E) (old whole more all text new : List ℕ) → Writes r text more new → text ≡ old ++ whole
    → whole ++ more ≡ all → Writes r old all new
last_behind (Ok _) old whole more all text new w t is = whole_behind old whole more text new w t ∙ ap (λ x. old ++ x) is
last_behind (Err _) old whole more all text new w t is =
    cut_behind old whole more all text new w t (subst (λ x. Begins (whole ++ more) x) is (begins_itself (whole ++ more)))

pub ruleset writing = (begins_itself, begins_more, none_written, cut_before, cut_behind, cut_whole, whole_behind, last_behind)

-- within a text of which the rest is known
cancelled : (xs ys zs : List ℕ) → xs ++ ys ≡ xs ++ zs → ys ≡ zs
cancelled [] ys zs e = e
cancelled (x ∷ xs) ys zs e = cancelled xs ys zs (ap (drop 1) e)

pub cut_inside : (old all text piece rest new : List ℕ) → CutShort old all text → text ++ (piece ++ rest) ≡ old ++ all → CutShort text piece new
    → CutShort old all new
cut_inside old all text piece rest new before whole c =
    cut_behind old before.part piece all text new c before.written
    (subst (Begins (before.part ++ piece)) (append_assoc before.part piece rest ∙ there)
    (begins_more _ _ rest (begins_itself (before.part ++ piece))))
  where
    there : before.part ++ (piece ++ rest) ≡ all
    there = cancelled old (before.part ++ (piece ++ rest)) all
        (sym (append_assoc old before.part (piece ++ rest)) ∙ ap (λ t. t ++ (piece ++ rest)) (sym before.written) ∙ whole)

-- in a loop that writes a line of each: the lines before one, it, and those behind it
module _ {A : Type 0} (f : A → List ℕ) (xs : List A) (i : ℕ) (x d : A) (within : i < length xs) (is : x ≡ get_or xs i d) where
  lines_there : lines_text (map f xs) ≡ lines_text (map f (take i xs)) ++ f x ++ (10 ∷ lines_text (map f (drop (suc i) xs)))
  lines_there =
      ap (λ (ys : List A). lines_text (map f ys)) (sym (take-append-drop i xs))
      ∙ ap (λ (ys : List A). lines_text (map f (take i xs ++ ys))) (drop-cons xs i d within ∙ ap (λ (y : A). y ∷ drop (suc i) xs) (sym is))
      ∙ ap lines_text (map-append f (take i xs) (x ∷ drop (suc i) xs))
      ∙ lines_text-append (map f (take i xs)) (f x ∷ map f (drop (suc i) xs))
      ∙ sym (append_assoc (lines_text (map f (take i xs))) (f x) (10 ∷ lines_text (map f (drop (suc i) xs))))

  lines_more : lines_text (map f (take i xs)) ++ f x ++ 10 ∷ [] ≡ lines_text (map f (take (i + 1) xs))
  lines_more = sym (
      ap (λ (ys : List A). lines_text (map f ys)) (take_more xs i d within ∙ ap (λ (y : A). take i xs ++ y ∷ []) (sym is))
      ∙ ap lines_text (map-append f (take i xs) (x ∷ []))
      ∙ lines_text-append (map f (take i xs)) (f x ∷ [])
      ∙ sym (append_assoc (lines_text (map f (take i xs))) (f x) (10 ∷ [])))

  lines_begin : Begins (lines_text (map f (take i xs)) ++ f x) (lines_text (map f xs))
  lines_begin =
      subst (Begins (lines_text (map f (take i xs)) ++ f x)) (sym lines_there)
      (begins_more _ _ (10 ∷ lines_text (map f (drop (suc i) xs))) (begins_itself (lines_text (map f (take i xs)) ++ f x)))

  -- the line is cut short
  pub line_cut : (start text new : List ℕ) → text ≡ start ++ lines_text (map f (take i xs)) → CutShort text (f x) new
      → CutShort start (lines_text (map f xs)) new
  line_cut start text new t c = cut_behind start (lines_text (map f (take i xs))) (f x) (lines_text (map f xs)) text new c t lines_begin

  -- its line feed isn't written
  pub feed_cut : (start text line new : List ℕ) → text ≡ start ++ lines_text (map f (take i xs)) → line ≡ text ++ f x → new ≡ line
      → CutShort start (lines_text (map f xs)) new
  feed_cut start text line new t l n =
      cut_whole start (lines_text (map f (take i xs)) ++ f x) (lines_text (map f xs)) new
      (n ∙ whole_behind start (lines_text (map f (take i xs))) (f x) text line l t) lines_begin

  -- it is written
  pub line_fed : (start text line new : List ℕ) → text ≡ start ++ lines_text (map f (take i xs)) → line ≡ text ++ f x → new ≡ line ++ 10 ∷ []
      → new ≡ start ++ lines_text (map f (take (i + 1) xs))
  line_fed start text line new t l n =
      whole_behind start (lines_text (map f (take i xs)) ++ f x) (10 ∷ []) line new n
      (whole_behind start (lines_text (map f (take i xs))) (f x) text line l t) ∙ ap (λ x. start ++ x) lines_more

-- the same in the loop over the names
module _ (names : List (List ℕ)) (i : ℕ) (within : i < length names) where
  name_there : codes "var " ++ name_text names (record { 0 = i }) ≡ var_line (get_or names i [])
  name_there = grind (arith, slice_get-get_or)

  pub name_cut : (start text new : List ℕ) → text ≡ start ++ lines_text (map var_line (take i names))
      → CutShort text (codes "var " ++ name_text names (record { 0 = i })) new → CutShort start (lines_text (map var_line names)) new
  name_cut start text new t c =
      line_cut var_line names i (get_or names i []) [] within refl start text new t (subst (λ x. CutShort text x new) name_there c)

  pub name_feed_cut : (start text line new : List ℕ) → text ≡ start ++ lines_text (map var_line (take i names))
      → line ≡ text ++ (codes "var " ++ name_text names (record { 0 = i })) → new ≡ line → CutShort start (lines_text (map var_line names)) new
  name_feed_cut start text line new t l n =
      feed_cut var_line names i (get_or names i []) [] within refl start text line new t (l ∙ ap (λ x. text ++ x) name_there) n

  pub name_fed : (start text line new : List ℕ) → text ≡ start ++ lines_text (map var_line (take i names))
      → line ≡ text ++ (codes "var " ++ name_text names (record { 0 = i })) → new ≡ line ++ 10 ∷ []
      → new ≡ start ++ lines_text (map var_line (take (i + 1) names))
  name_fed start text line new t l n =
      line_fed var_line names i (get_or names i []) [] within refl start text line new t (l ∙ ap (λ x. text ++ x) name_there) n

-- and in that over their callbacks
pub callbacks_cut : (p : Program) (i : ℕ) (start text new : List ℕ) → i < length p.names
    → text ++ lines_text (callback_lines p i (drop i p.names)) ≡ start ++ lines_text (callback_lines p 0 p.names)
    → CutShort start (lines_text (callback_lines p 0 p.names)) text → CutShort text (lines_text (name_lines p (record { 0 = i }))) new
    → CutShort start (lines_text (callback_lines p 0 p.names)) new
callbacks_cut p i start text new within all before c =
    cut_inside start (lines_text (callback_lines p 0 p.names)) text (lines_text (name_lines p (record { 0 = i })))
    (lines_text (callback_lines p (i + 1) (drop (i + 1) p.names))) new before
    (sym (append_assoc text (lines_text (name_lines p (record { 0 = i }))) (lines_text (callback_lines p (i + 1) (drop (i + 1) p.names))))
    ∙ callbacks_turn p i start text within all) c

pub whole_is_cut : (text piece new : List ℕ) → new ≡ text ++ piece → CutShort text piece new
whole_is_cut text piece new is = record { part = piece; rest = []; whole = append-nil piece; written = is }
