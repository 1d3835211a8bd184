-- Lines and fields, one at a time.
use Rattle.uv_script.proofs.ProofNames.{◌≡◌, ℕ, ◌==◌, false, cond, List, [], ◌∷◌, ◌++◌, length, Option, Some, option_map, All, refl, ap, sym, ◌∙◌, arith, Bor, onto_first, join_with_byte, All-head, All-tail, slice_split_at, slice_split_none, length-slice_split, join_with_byte-slice_split, fields_left, lines_of, fields_of, rest_of, IsCut}

abbrev pub AreNot : ℕ → List ℕ → Type 0
AreNot byte bs = All (λ b. (b == byte) ≡ false) bs

pub fields-cut : (line before after : List ℕ) → IsCut 32 line before after → fields_of line ≡ before ∷ fields_of after
fields-cut line before after cut = ap fields_of cut.whole ∙ slice_split_at (λ b. b == 32) before 32 after cut.first refl

pub fields-last : (line : List ℕ) → All (λ b. (b == 32) ≡ false) line → fields_of line ≡ line ∷ []
fields-last line h = slice_split_none (λ b. b == 32) line h

pub lines_append : (before after : List ℕ) → AreNot 10 before → lines_of (before ++ 10 ∷ after) ≡ before ∷ lines_of after
lines_append [] after h = refl
lines_append (b ∷ before) after h =
    ap (λ t. cond t ([] ∷ lines_of (before ++ 10 ∷ after)) (onto_first b (lines_of (before ++ 10 ∷ after))))
    (All-head (λ c. (c == 10) ≡ false) b before h)
    ∙ ap (onto_first b) (lines_append before after (All-tail (λ c. (c == 10) ≡ false) b before h))

pub lines-cut : (text before after : List ℕ) → IsCut 10 text before after → lines_of text ≡ before ∷ lines_of after
lines-cut text before after cut = ap lines_of cut.whole ∙ lines_append before after cut.first

pub lines-last : (b : ℕ) (bs : List ℕ) → AreNot 10 (b ∷ bs) → lines_of (b ∷ bs) ≡ (b ∷ bs) ∷ []
lines-last b [] h = ap (λ t. cond t ([] ∷ []) ((b ∷ []) ∷ [])) (All-head (λ c. (c == 10) ≡ false) b [] h)
lines-last b (c ∷ bs) h =
    ap (λ t. cond t ([] ∷ lines_of (c ∷ bs)) (onto_first b (lines_of (c ∷ bs)))) (All-head (λ c. (c == 10) ≡ false) b (c ∷ bs) h)
    ∙ ap (onto_first b) (lines-last c bs (All-tail (λ c. (c == 10) ≡ false) b (c ∷ bs) h))

pub lines-rest : (text : List ℕ) → (length text ≡ 0 → ⊥) → All (λ b. (b == 10) ≡ false) text → lines_of text ≡ text ∷ []
lines-rest [] some h = absurd (some refl)
lines-rest (b ∷ bs) some h = lines-last b bs h

-- the fields of a line, joined again
rest_is : (line : List ℕ) → rest_of (fields_of line) ≡ Some line
rest_is line = by (fields_of line) refl where
  by : (parts : List (List ℕ)) → fields_of line ≡ parts → rest_of parts ≡ Some line
  by [] e =
      let some = length-slice_split (λ b. b == 32) line in
      let none = ap length e in
      absurd (omega arith)
  by (part ∷ parts) e = ap Some (ap (join_with_byte 32) (sym e) ∙ join_with_byte-slice_split 32 line)

pub rest_left : (rest : Option (Bor (List ℕ))) (fields : List (List ℕ)) → fields_left rest ≡ fields →
    option_map (λ line. line.now) rest ≡ rest_of fields
rest_left rest fields e = grind (arith, rest_is)
