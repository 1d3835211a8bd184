-- One more line, and all lines.
use Rattle.uv_inquiry.proofs.Names.{◌≡◌, ℕ, ◌+◌, Bool, cond, List, [], ◌∷◌, ◌++◌, length, map, Some, None, Err, refl, ap, sym, subst, ◌∙◌, arith, append-nil, map-append, length-map, same_Some, cond_some, none-some, Fault, lines_of, Draft, unsaid, with_part, Reads, skips, says, ReadsAll, none, one, is_new, after_said, after_line, ReadsLine, ReadsLines, IsBadBehind, said_of}
use Rattle.uv_ids.specs.declared.fault.Fault.TheVariants as fault
use Rattle.uv_asking.specs.declared.part.Said.{Said}
use Rattle.uv_asking.specs.declared.part.Said.TheVariants.{Nothing, One, Bad}
use Rattle.uv_asking.proofs.Agreement.{says_read, says_only}
use Rattle.uv_inquiry.specs.Grammar.{at_line}
use Rattle.uv_inquiry.proofs.Steps.{new_sound, new_complete}

after_sound_by : (names : List (List ℕ)) (d e : Draft) (line : List ℕ) (said : Said) → said ≡ said_of names line → after_said d said ≡ Some e →
    Reads names d line e
after_sound_by names d e line Nothing is same = subst (Reads names d line) (same_Some _ _ same) (skips (says_read names line Nothing is))
after_sound_by names d e line (One part) is same =
    let fits = cond_some (is_new d part) (with_part d part) e same in
    subst (Reads names d line) fits.1 (says part (says_read names line (One part) is) (new_sound d part fits.0))
after_sound_by names d e line Bad is same = absurd (none-some e same)

pub after_sound : (names : List (List ℕ)) (d e : Draft) (line : List ℕ) → after_line names d line ≡ Some e → Reads names d line e
after_sound names d e line same = after_sound_by names d e line (said_of names line) refl same

pub after_complete : (names : List (List ℕ)) (d e : Draft) (line : List ℕ) → Reads names d line e →
    after_line names d line ≡ Some e
after_complete names d e line (skips h) = ap (after_said d) (sym (says_only names line Nothing h))
after_complete names d e line (says part h new) = grind (arith, says_only, cond, new_complete)

-- one more line behind the others
pub reads_push : (names : List (List ℕ)) (d e f : Draft) (lines : List (List ℕ)) (line : List ℕ) → ReadsAll names d lines e → Reads names e line f →
    ReadsAll names d (lines ++ line ∷ []) f
reads_push names d e f [] line none last = one last none
reads_push names d e f (a ∷ lines) line (one {e = m} first rest) last = one first (reads_push names m e f lines line rest last)

-- a line that the reader refuses is outside the grammar
pub refused_line : (names : List (List ℕ)) (d : Draft) (line : List ℕ) → after_line names d line ≡ None → (e : Draft) →
    Reads names d line e → ⊥
refused_line names d line refused e is = none-some e (sym refused ∙ after_complete names d e line is)

-- in a loop over lines
pub reads_step : {A : Type 0} (f : A → List ℕ) (names : List (List ℕ)) (s d e : Draft) (before : List A) (x : A) →
    ReadsAll names s (map f before) d → after_line names d (f x) ≡ Some e → ReadsAll names s (map f (before ++ x ∷ [])) e
reads_step f names s d e before x read is = search (map-append, reads_push, map, after_sound)

-- no line is left
pub all_read : {A : Type 0} (f : A → List ℕ) (names : List (List ℕ)) (text : List ℕ) (s d : Draft) (before : List A) (left : List (List ℕ)) →
    ReadsAll names s (map f before) d → map f before ++ left ≡ lines_of text → left ≡ [] → ReadsAll names s (lines_of text) d
all_read f names text s d before left read rest e = grind (arith, append-nil, map)

bad_line : {A : Type 0} (f : A → List ℕ) (names : List (List ℕ)) (text : List ℕ) (front number : ℕ) (d : Draft) (before : List A) (x : A)
    (left after : List (List ℕ)) → ReadsAll names unsaid (map f before) d → map f before ++ left ≡ lines_of text →
    left ≡ f x ∷ after → number ≡ front + length before + 1 → after_line names d (f x) ≡ None → IsBadBehind names text front number
bad_line f names text front number d before x left after read rest step count e =
    let same = length-map before f in
    record {
      number = length (map f before) + 1;
      bad = at_line (map f before) (f x) after d (sym rest ∙ ap (λ l. map f before ++ l) step) read (refused_line names d (f x) e);
      counted = omega arith;
    }

-- the fault of a line is the text's
pub line_fault : {A : Type 0} (f : A → List ℕ) (names : List (List ℕ)) (text : List ℕ) (front number : ℕ) (d e : Draft) (before : List A) (x : A)
    (left after : List (List ℕ)) (fault : Fault) → ReadsAll names unsaid (map f before) d →
    map f before ++ left ≡ lines_of text → left ≡ f x ∷ after → number ≡ front + length before + 1 →
    ReadsLine names d (f x) number (Err fault) e → ReadsLines names text front (Err fault)
line_fault f names text front number d e before x left after (fault.Script bad) read rest step count h =
    subst (IsBadBehind names text front) (sym h.0)
    (bad_line f names text front number d before x left after read rest step count h.1)
line_fault f names text front number d e before x left after fault.Memory read rest step count h = tt
line_fault f names text front number d e before x left after _ read rest step count h = h
