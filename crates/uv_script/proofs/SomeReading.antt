-- Every text is read in some way.
use Rattle.uv_script.proofs.ProofNames.{◌≡◌, inl, inr, ℕ, ◌+◌, List, [], ◌∷◌, ◌++◌, length, Option, Some, None, refl, sym, ◌∙◌, subst, append_assoc, append-nil, Draft, ReadsAll, none, unread, HasReading, lines_of}
use Rattle.uv_script.specs.Reading.{after_line}
use Rattle.uv_script.proofs.AfterLines.{after_sound, refused_line, distinct_none, ReadsAll-push}

-- from the script of the lines before these on
reading_from : (text : List ℕ) (d : Draft) (before lines : List (List ℕ)) → lines_of text ≡ before ++ lines → ReadsAll unread before d →
    HasReading text
reading_from text d before [] e read = inl (
  d.program,
  record { said = d.said; read = subst (λ (ls : List (List ℕ)). ReadsAll unread ls d) (sym (append-nil before) ∙ sym e) read },
)
reading_from text d before (line ∷ rest) e read = at (after_line d line) refl
    (λ q r. reading_from text q (before ++ line ∷ []) rest (e ∙ sym (append_assoc before (line ∷ []) rest)) r) where
      at : (o : Option Draft) → after_line d line ≡ o → ((q : Draft) → ReadsAll unread (before ++ line ∷ []) q → HasReading text) → HasReading text
      at (Some q) f onward = onward q (ReadsAll-push unread d q before line read (after_sound d q line f))
      at None f onward = inr (
        length before + 1,
        record {
          before = before;
          line = line;
          after = rest;
          lines_are = e;
          counted = refl;
          draft = d;
          read = read;
          refused = refused_line unread d before line distinct_none read f;
        },
      )

pub some_reading : (text : List ℕ) → HasReading text
some_reading text = reading_from text unread [] (lines_of text) refl none
