-- An input asks one thing, or has one first bad line.
use Rattle.uv_inquiry.proofs.Names.{◌≡◌, ◌⊎◌, inl, inr, ℕ, ◌+◌, ◌<◌, List, [], ◌∷◌, ◌++◌, length, Option, Some, None, option_map, refl, ap, sym, subst, ◌∙◌, arith, append_assoc, append-nil, cases_order, same_Some, none-some, lines_of, Program, IsScript, IsBadLine, unread, Begins, Out, End, HasAnswer, MissesBegin, after_last, at_line, Question, Asked, Draft, unsaid, asked_by, finished, Reads, ReadsAll, none, one, Asks, IsBadAsking, no_question, IsInquiry, IsBadInput, no_begin, in_script, behind, after_line, one_script, no_bad_line, one_bad_line}
use Rattle.uv_engine.specs.Out as out
use Rattle.uv_inquiry.specs.Grammar as is
use Rattle.uv_inquiry.specs.Laws.{HasReading}
use Rattle.uv_inquiry.proofs.Lines.{after_sound, after_complete, reads_push, refused_line}
use Rattle.uv_engine.proofs.Begun.{begins_one, never_begins}

-- ---- the lines behind `begin`, where no name is declared twice
module _ (names : List (List ℕ)) where
  reads_one : (d e f : Draft) (line : List ℕ) → Reads names d line e → Reads names d line f → e ≡ f
  reads_one d e f line a b = same_Some e f (sym (after_complete names d e line a) ∙ after_complete names d f line b)

  all_one : (d e f : Draft) (lines : List (List ℕ)) → ReadsAll names d lines e → ReadsAll names d lines f → e ≡ f
  all_one d e f [] none none = refl
  all_one d e f (line ∷ lines) (one {e = a} first rest) (one {e = b} first' rest') =
      let same = reads_one d a b line first first' in
      all_one b e f lines (subst (λ (m : Draft). ReadsAll names m lines e) same rest) rest'

  -- no reading goes on past a line that is refused
  past : (d g : Draft) (before after : List (List ℕ)) (line : List ℕ) → ReadsAll names d (before ++ line ∷ after) g →
      (m : Draft) × (n : Draft) × ReadsAll names d before m × Reads names m line n
  past d g [] after line (one {e = n} first rest) = (d, n, none, first)
  past d g (x ∷ before) after line (one {e = m} first rest) =
      let more = past m g before after line rest in
      (more.0, more.1, one first more.2, more.3)

  stops : (before after : List (List ℕ)) (line : List ℕ) (d e : Draft) → ReadsAll names unsaid before d → ((f : Draft) → Reads names d line f → ⊥) →
      ReadsAll names unsaid (before ++ line ∷ after) e → ⊥
  stops before after line d e read refused all =
      let parts = past unsaid e before after line all in
      let same = all_one unsaid parts.0 d before parts.2 read in
      refused parts.1 (subst (λ (m : Draft). Reads names m line parts.1) same parts.3)

  stops_at : (text : List ℕ) (before after : List (List ℕ)) (line : List ℕ) (d e : Draft) → lines_of text ≡ before ++ line ∷ after →
      ReadsAll names unsaid before d → ((f : Draft) → Reads names d line f → ⊥) → ReadsAll names unsaid (lines_of text) e → ⊥
  stops_at text before after line d e whole read refused all =
      stops before after line d e read refused (subst (λ (lines : List (List ℕ)). ReadsAll names unsaid lines e) whole all)

  pub asks_one : (text : List ℕ) (a b : Asked) → Asks names text a → Asks names text b → a ≡ b
  asks_one text a b h k =
      same_Some a b (sym h.asked ∙ ap finished (all_one unsaid h.said k.said (lines_of text) h.read k.read) ∙ k.asked)

  unasked : (d : Draft) (a : Asked) → d.question ≡ None → finished d ≡ Some a → ⊥
  unasked d a e h = none-some a (sym (ap (option_map (asked_by d)) e) ∙ h)

  pub asks_no_bad : (text : List ℕ) (a : Asked) (number : ℕ) → Asks names text a → IsBadAsking names text number → ⊥
  asks_no_bad text a _ h (is.at_line before line after d whole read refused) = stops_at text before after line d h.said whole read refused h.read
  asks_no_bad text a _ h (no_question d read missing) =
      let same = all_one unsaid h.said d (lines_of text) h.read read in
      unasked d a missing (ap finished (sym same) ∙ h.asked)

  -- of two cuts of a list the longer one has the other's element
  goes_past : (xs ys us vs : List (List ℕ)) (x y : List ℕ) → xs ++ x ∷ us ≡ ys ++ y ∷ vs → length xs < length ys →
      (between : List (List ℕ)) × (ys ≡ xs ++ x ∷ between)
  goes_past xs [] us vs x y e less = absurd (omega arith)
  goes_past [] (z ∷ ys) us vs x y e less =
      let same : x ≡ z = cc in
      (ys, ap (λ w. w ∷ ys) (sym same))
  goes_past (w ∷ xs) (z ∷ ys) us vs x y e less =
      let same : w ≡ z = cc in
      let rest : xs ++ x ∷ us ≡ ys ++ y ∷ vs = cc in
      let more = goes_past xs ys us vs x y rest (omega arith) in
      (more.0, ap (λ v. v ∷ ys) (sym same) ∙ ap (λ l. w ∷ l) more.1)

  earlier : (xs ys us vs : List (List ℕ)) (x y : List ℕ) (d e : Draft) → xs ++ x ∷ us ≡ ys ++ y ∷ vs → ReadsAll names unsaid xs d →
      ((f : Draft) → Reads names d x f → ⊥) → ReadsAll names unsaid ys e → length xs < length ys → ⊥
  earlier xs ys us vs x y d e same read refused longer less =
      let more = goes_past xs ys us vs x y same less in
      stops xs more.0 x d e read refused (subst (λ (lines : List (List ℕ)). ReadsAll names unsaid lines e) more.1 longer)

  pub bad_one : (text : List ℕ) (m n : ℕ) → IsBadAsking names text m → IsBadAsking names text n → m ≡ n
  bad_one text _ _ (is.at_line xs x us d whole read refused) (is.at_line ys y vs e whole' read' refused') =
      elim (cases_order (length xs) (length ys)) [
        | inl same ↦ ap (λ k. k + 1) same
        | inr other ↦ elim other [
          | inl less ↦ absurd (earlier xs ys us vs x y d e (sym whole ∙ whole') read refused read' less)
          | inr more ↦ absurd (earlier ys xs vs us y x e d (sym whole' ∙ whole) read' refused' read more)
        ]
      ]
  bad_one text _ _ (is.at_line xs x us d whole read refused) (no_question e all missing) = absurd (stops_at text xs us x d e whole read refused all)
  bad_one text _ _ (no_question e all missing) (is.at_line xs x us d whole read refused) = absurd (stops_at text xs us x d e whole read refused all)
  bad_one text _ _ (no_question d read missing) (no_question e read' missing') = refl

  -- every text asks something, or has a bad line
  reading_from : (text : List ℕ) (d : Draft) (before lines : List (List ℕ)) → lines_of text ≡ before ++ lines → ReadsAll names unsaid before d →
      ((a : Asked) × Asks names text a) ⊎ ((number : ℕ) × IsBadAsking names text number)
  reading_from text d before [] e read = by d.question refl where
    all : ReadsAll names unsaid (lines_of text) d
    all = subst (λ (ls : List (List ℕ)). ReadsAll names unsaid ls d) (sym (append-nil before) ∙ sym e) read

    by : (q : Option Question) → d.question ≡ q → ((a : Asked) × Asks names text a) ⊎ ((number : ℕ) × IsBadAsking names text number)
    by (Some q) f = inl (asked_by d q, record { said = d; read = all; asked = ap (option_map (asked_by d)) f })
    by None f = inr (length (lines_of text) + 1, no_question d all f)
  reading_from text d before (line ∷ rest) e read = at (after_line names d line) refl
      (λ q r. reading_from text q (before ++ line ∷ []) rest (e ∙ sym (append_assoc before (line ∷ []) rest)) r) where
        at : (o : Option Draft) → after_line names d line ≡ o →
            ((q : Draft) → ReadsAll names unsaid (before ++ line ∷ []) q →
            ((a : Asked) × Asks names text a) ⊎ ((number : ℕ) × IsBadAsking names text number)) →
            ((a : Asked) × Asks names text a) ⊎ ((number : ℕ) × IsBadAsking names text number)
        at (Some q) f onward = onward q (reads_push names unsaid d q before line read (after_sound names d q line f))
        at None f onward = inr (length before + 1, is.at_line before line rest d e read (refused_line names d line f))

  pub asks_some : (text : List ℕ) → ((a : Asked) × Asks names text a) ⊎ ((number : ℕ) × IsBadAsking names text number)
  asks_some text = reading_from text unsaid [] (lines_of text) refl none

-- ---- the whole input

misses_one : (input : List ℕ) (m n : ℕ) → MissesBegin unread input m → MissesBegin unread input n → m ≡ n
misses_one input _ _ (after_last p h) (after_last q k) = refl
misses_one input _ n (after_last p h) (at_line k) = absurd (no_bad_line input p n h k)
misses_one input m _ (at_line h) (after_last q k) = absurd (no_bad_line input q m k h)
misses_one input m n (at_line h) (at_line k) = one_bad_line input m n h k

-- the same script and the same lines, of two cuts
asks_there : {input s t l k : List ℕ} (p q : Program) (Is : List (List ℕ) → List ℕ → Type 0) → Begins input s l → Begins input t k →
    IsScript s p → IsScript t q → Is q.names k → (p ≡ q) × Is p.names l
asks_there {input} {s} {t} {l} {k} p q Is b c h i at =
    let cut = begins_one input input s t l k refl b c in
    let same = one_script s p q h (subst (λ (xs : List ℕ). IsScript xs q) (sym cut.script) i) in (grind arith)

pub inquiry_one : (input : List ℕ) (p q : Program) (a b : Asked) → IsInquiry input p a → IsInquiry input q b → (p ≡ q) × (a ≡ b)
inquiry_one input p q a b h k =
    let there = asks_there p q (λ names text. Asks names text b) h.begins k.begins h.is k.is k.asks in
    (there.0, asks_one p.names h.lines a b h.asks there.1)

pub inquiry_no_bad : (input : List ℕ) (p : Program) (a : Asked) (number : ℕ) → IsInquiry input p a → IsBadInput input number → ⊥
inquiry_no_bad input p a _ h (no_begin number never misses) = never_begins input input h.script h.lines refl h.begins never
inquiry_no_bad input p a _ h (in_script script lines number begins bad) =
    let cut = begins_one input input h.script script h.lines lines refl h.begins begins in
    no_bad_line script p number (subst (λ (xs : List ℕ). IsScript xs p) cut.script h.is) bad
inquiry_no_bad input p a _ h (behind script lines q number begins is bad) =
    let there = asks_there p q (λ names text. IsBadAsking names text number) h.begins begins h.is is bad in
    asks_no_bad p.names h.lines a number h.asks there.1

pub bad_input_one : (input : List ℕ) (m n : ℕ) → IsBadInput input m → IsBadInput input n → m ≡ n
bad_input_one input _ _ (no_begin m never h) (no_begin n never' k) = misses_one input m n h k
bad_input_one input _ _ (no_begin m never h) (in_script t k n c bad) = absurd (never_begins input input t k refl c never)
bad_input_one input _ _ (no_begin m never h) (behind t k q n c i bad) = absurd (never_begins input input t k refl c never)
bad_input_one input _ _ (in_script s l m b bad) (no_begin n never k) = absurd (never_begins input input s l refl b never)
bad_input_one input _ _ (behind s l p m b h bad) (no_begin n never k) = absurd (never_begins input input s l refl b never)
bad_input_one input _ _ (in_script s l m b bad) (in_script t k n c bad') =
    let cut = begins_one input input s t l k refl b c in
    one_bad_line t m n (subst (λ (xs : List ℕ). IsBadLine xs m) cut.script bad) bad'
bad_input_one input _ _ (in_script s l m b bad) (behind t k q n c i bad') =
    let cut = begins_one input input s t l k refl b c in
    absurd (no_bad_line s q m (subst (λ (xs : List ℕ). IsScript xs q) (sym cut.script) i) bad)
bad_input_one input _ _ (behind s l p m b h bad) (in_script t k n c bad') =
    let cut = begins_one input input s t l k refl b c in
    absurd (no_bad_line t p n (subst (λ (xs : List ℕ). IsScript xs p) cut.script h) bad')
bad_input_one input _ _ (behind s l p m b h bad) (behind t k q n c i bad') =
    let cut = begins_one input input s t l k refl b c in
    let there = asks_there p q (λ names text. IsBadAsking names text n) b c h i bad' in
    let same = bad_one p.names l m n bad there.1 in
    ap (λ (xs : List ℕ). length (lines_of xs) + 1 + m) cut.script ∙ ap (λ (j : ℕ). length (lines_of t) + 1 + j) same

-- a script that is read, and what stands behind it
of_begun : (input script lines : List ℕ) (p : Program) → Begins input script lines → IsScript script p → HasReading input
of_begun input script lines p begins h = by (asks_some p.names lines) where
  by : ((a : Asked) × Asks p.names lines a) ⊎ ((number : ℕ) × IsBadAsking p.names lines number) → HasReading input
  by (inl r) = inl (record { program = p; asked = r.0; is = record { script = script; lines = lines; begins = begins; is = h; asks = r.1 } })
  by (inr r) = inr (length (lines_of script) + 1 + r.0, behind script lines p r.0 begins h r.1)

-- a conversation has an answer to each input, which says where it begins and what its script is
of_answer : (input text : List ℕ) (end : End) → Out input text end → HasReading input
of_answer input text _ (out.talks script commands p begins h talk) = of_begun input script commands p begins h
of_answer input text _ (out.bad_line {number = n} script commands begins bad) = inr (n, in_script script commands n begins bad)
of_answer input text _ (out.no_begin p never h) = inr (length (lines_of input) + 1, no_begin (length (lines_of input) + 1) never (after_last p h))
of_answer input text _ (out.bad_input {number = n} never bad) = inr (n, no_begin n never (at_line bad))

pub has_reading : (input : List ℕ) → HasAnswer input → HasReading input
has_reading input answer = of_answer input answer.text answer.end answer.is
