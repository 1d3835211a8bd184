-- A text is read in one way.
use Rattle.uv_script.proofs.ProofNames.{◌≡◌, inl, inr, ℕ, ◌+◌, ◌<◌, List, [], ◌∷◌, ◌++◌, length, refl, ap, sym, subst, ◌∙◌, arith, cases_order, same_Some, Draft, Reads, ReadsAll, none, one, unread, IsScript, IsBadLine, HasOneScript, HasNoBadLine, HasOneBadLine, lines_of, Program}
use Rattle.uv_script.proofs.Agrees.{AreDistinct}
use Rattle.uv_script.proofs.AfterLines.{after_complete, distinct_reads, distinct_all, distinct_none}

reads_one : (d e f : Draft) (line : List ℕ) → AreDistinct d.program.names → Reads d line e → Reads d line f → e ≡ f
reads_one d e f line distinct a b = same_Some e f (sym (after_complete d e line distinct a) ∙ after_complete d f line distinct b)

all_one : (d e f : Draft) (lines : List (List ℕ)) → AreDistinct d.program.names → ReadsAll d lines e → ReadsAll d lines f → e ≡ f
all_one d e f [] distinct none none = refl
all_one d e f (line ∷ lines) distinct (one {e = a} first rest) (one {e = b} first' rest') =
    let same = reads_one d a b line distinct first first' in
    all_one b e f lines (distinct_reads d b line distinct first') (subst (λ (m : Draft). ReadsAll m lines e) same rest) rest'

-- the script after some of the lines
record PartsAt (d : Draft) (before after : List (List ℕ)) (e : Draft) : Type 0 where
  middle : Draft
  read : ReadsAll d before middle
  left : ReadsAll middle after e

parts_at : (d e : Draft) (before after : List (List ℕ)) → ReadsAll d (before ++ after) e → PartsAt d before after e
parts_at d e [] after read = record { middle = d; read = none; left = read }
parts_at d e (line ∷ before) after (one {e = m} first rest) =
    let parts = parts_at m e before after rest in
    record { middle = parts.middle; read = one first parts.read; left = parts.left }

first_of_rest : (d e : Draft) (line : List ℕ) (lines : List (List ℕ)) → ReadsAll d (line ∷ lines) e → (m : Draft) × Reads d line m
first_of_rest d e line lines (one {e = m} first rest) = (m, first)

-- the names of a script are distinct
pub distinct_names : (text : List ℕ) (p : Program) → IsScript text p → AreDistinct p.names
distinct_names text p is = distinct_all unread (record { program = p; said = is.said }) (lines_of text) distinct_none is.read

pub one_script : (text : List ℕ) → HasOneScript text
one_script text p q a b = ap (λ (d : Draft). d.program) (all_one unread _ _ (lines_of text) distinct_none a.read b.read)

pub no_bad_line : (text : List ℕ) → HasNoBadLine text
no_bad_line text p number script bad = grind (arith, parts_at, all_one, distinct_none, first_of_rest)

-- of two cuts of a list the longer one has the other's element
record GoesPast (before longer : List (List ℕ)) (line : List ℕ) : Type 0 where
  between : List (List ℕ)
  is : longer ≡ before ++ line ∷ between

goes_past : (xs ys us vs : List (List ℕ)) (x y : List ℕ) → xs ++ x ∷ us ≡ ys ++ y ∷ vs → length xs < length ys → GoesPast xs ys x
goes_past xs [] us vs x y e less = absurd (omega arith)
goes_past [] (z ∷ ys) us vs x y e less = grind arith
goes_past (w ∷ xs) (z ∷ ys) us vs x y e less =
    let same : w ≡ z = cc in
    let rest : xs ++ x ∷ us ≡ ys ++ y ∷ vs = cc in
    let past = goes_past xs ys us vs x y rest (omega arith) in
    record { between = past.between; is = ap (λ v. v ∷ ys) (sym same) ∙ ap (λ l. w ∷ l) past.is }

not_past : (text : List ℕ) (m n : ℕ) (a : IsBadLine text m) (b : IsBadLine text n) → length a.before < length b.before → ⊥
not_past text m n a b less =
    let past = goes_past a.before b.before a.after b.after a.line b.line (sym a.lines_are ∙ b.lines_are) less in
    grind (arith, parts_at, all_one, distinct_none, first_of_rest)

pub one_bad_line : (text : List ℕ) → HasOneBadLine text
one_bad_line text m n a b =
    elim (cases_order (length a.before) (length b.before)) [
      | inl same ↦ a.counted ∙ ap (λ k. k + 1) same ∙ sym b.counted
      | inr other ↦ elim other [
        | inl less ↦ absurd (not_past text m n a b less)
        | inr more ↦ absurd (not_past text n m b a more)
      ]
    ]
