-- A text has one verdict, or one first bad line, and not both.
use Rattle.uv_engine.proofs.Names.{◌≡◌, ℕ, suc, ◌+◌, ◌<◌, List, [], ◌∷◌, ◌++◌, length, take, get_or, refl, ap, ap₂, sym, subst, ◌∙◌, arith, get_or-append_seam, append_cancel_left, take-append-le, take_all, get_or_append_left, Event, Why, Program, lines_of, Next, Refuses, not_refused, callback_lines, Verdict, Differs, Refused, Part, Start, Whole, Reads, ReadsAll, none, one, IsStuck, IsHalt, refused, full, AreApart, PartAt, IsVerdict, halts, same, differs, HasVerdict, HasOneVerdict, next, after, Accepts}
use Rattle.uv_engine.specs.Recordings.{IsBadLine}
use Rattle.uv_engine.proofs.OneRecording.{IsDistinct, Judged, one_part, distinct_part, all_one, never_halts}

-- neither number is below the other
same_number : (n m : ℕ) → (n < m → ⊥) → (m < n → ⊥) → n ≡ m
same_number n m low high = grind arith

-- ---- the first step that isn't taken

-- the steps in front of it
front : (before rest es : List Event) (e : Event) → es ≡ before ++ e ∷ rest → take (length before) es ≡ before
front before rest es e cut = grind (arith, take-append-le, take_all)

-- the step itself
here : (before rest es : List Event) (e d : Event) → es ≡ before ++ e ∷ rest → get_or es (length before) d ≡ e
here before rest es e d cut = ap (λ (xs : List Event). get_or xs (length before) d) cut ∙ get_or-append_seam before e rest d

-- steps of which each is taken don't go past it
not_past : (p : Program) (es before rest taken left : List Event) (e : Event) (why : Why) → es ≡ before ++ e ∷ rest → es ≡ taken ++ left →
    Accepts p taken → next p (after p before) e ≡ Refuses why → length before < length taken → ⊥
not_past p es before rest taken left e why cut other accepted is_refused less =
    let n = length before in
    let at : e ≡ get_or taken n e = sym (grind (arith, get_or_append_left, here)) in
    let first : take n taken ≡ before = sym (take-append-le n taken left (omega (arith, less))) ∙ ap (take n) (sym other)
    ∙ front before rest es e cut in
    not_refused p taken n e e why accepted less at (subst (λ (xs : List Event). next p (after p xs) e ≡ Refuses why) (sym first) is_refused)

abbrev why_of : Next → Why → Why
why_of (Refuses why) other = why
why_of _ other = other

refused_alike : (p : Program) (es before rest before' rest' : List Event) (e e' : Event) (why why' : Why) → es ≡ before ++ e ∷ rest →
    es ≡ before' ++ e' ∷ rest' → length before ≡ length before' → next p (after p before) e ≡ Refuses why →
    next p (after p before') e' ≡ Refuses why' → Refused (length before + 1) why ≡ Refused (length before' + 1) why'
refused_alike p es before rest before' rest' e e' why why' cut cut' long is_refused is_refused' =
    let same_front : before ≡ before' = sym (front before rest es e cut) ∙ ap (λ (n : ℕ). take n es) long ∙ front before' rest' es e' cut' in
    let same_step : e ≡ e' = sym (here before rest es e e cut) ∙ ap (λ (n : ℕ). get_or es n e) long ∙ here before' rest' es e' e cut' in
    let same_next : next p (after p before) e ≡ next p (after p before') e' =
    ap₂ (λ (xs : List Event) (x : Event). next p (after p xs) x) same_front same_step in
    let same_why : why ≡ why' = ap (λ (n : Next). why_of n why) (sym is_refused ∙ same_next ∙ is_refused') in
    ap₂ (λ (n : ℕ) (w : Why). Refused (n + 1) w) long same_why

one_halt : (p : Program) (es : List Event) (v w : Verdict) → IsHalt p es v → IsHalt p es w → v ≡ w
one_halt p es _ _ (refused before rest e why cut accepted less is_refused) (refused before' rest' e' why' cut' accepted' less' is_refused') =
    search (refused_alike, same_number, not_past)
one_halt p es _ _ (refused before rest e why cut accepted less is_refused) (full before' rest' e' cut' accepted' all) =
    absurd (not_past p es before rest before' (e' ∷ rest') e why cut cut' accepted' is_refused (omega (arith, less, all)))
one_halt p es _ _ (full before rest e cut accepted all) (refused before' rest' e' why' cut' accepted' less' is_refused') =
    absurd (not_past p es before' rest' before (e ∷ rest) e' why' cut' cut accepted is_refused' (omega (arith, less', all)))
one_halt p es _ _ (full before rest e cut accepted all) (full before' rest' e' cut' accepted' all') = cc

-- ---- the first place where two lists part

one_place : (s t l l' r r' : List (List ℕ)) → s ++ l ≡ t ++ l' → s ++ r ≡ t ++ r' → AreApart l r → AreApart l' r' → length s ≡ length t
one_place [] [] l l' r r' e f a b = refl
one_place [] (y ∷ t) l l' r r' e f a b = grind arith
one_place (x ∷ s) [] l l' r r' e f a b = grind arith
one_place (x ∷ s) (y ∷ t) l l' r r' e f a b =
    let left : s ++ l ≡ t ++ l' = cc in
    let right : s ++ r ≡ t ++ r' = cc in
    ap suc (one_place s t l l' r r' left right a b)

one_of_these : (p : Program) (es : List Event) (called : List (List ℕ)) (v w : Verdict) → IsVerdict p es called v → IsVerdict p es called w → v ≡ w
one_of_these p es called _ _ (halts v h) (halts w k) = one_halt p es v w h k
one_of_these p es called _ _ (halts v h) (same t e) = absurd (never_halts p es v t h)
one_of_these p es called _ _ (halts v h) (differs n t k) = absurd (never_halts p es v t h)
one_of_these p es called _ _ (same t e) (halts w k) = absurd (never_halts p es w t k)
one_of_these p es called _ _ (same t e) (same u f) = refl
one_of_these p es called _ _ (same t e) (differs n u k) = absurd (grind (arith, append_cancel_left))
one_of_these p es called _ _ (differs m t h) (halts w k) = absurd (never_halts p es w t k)
one_of_these p es called _ _ (differs m t h) (same u f) = absurd (grind (arith, append_cancel_left))
one_of_these p es called _ _ (differs m t h) (differs n u k) = ap Differs (grind (arith, one_place))

verdicts : (text : List ℕ) (v w : Verdict) → HasVerdict text v → HasVerdict text w → v ≡ w
verdicts text v w h k =
    let whole = all_one Start (Whole k.program k.steps k.called) (Whole h.program h.steps h.called) (lines_of text) tt k.recording h.recording in
    one_of_these h.program h.steps h.called v w h.verdict (subst (Judged w) whole k.verdict)

-- ---- the first bad line

one_stop : (x y z : Part) (s t a b : List (List ℕ)) → IsDistinct x → s ++ a ≡ t ++ b → ReadsAll x s y → IsStuck y a → ReadsAll x t z → IsStuck z b →
    length s ≡ length t
one_stop x _ _ [] [] a b distinct e none stuck none stuck' = refl
one_stop x _ z [] (m ∷ t) a b distinct e none stuck (one {y = w} r rs) stuck' = absurd (subst (IsStuck x) e stuck w r)
one_stop x y _ (l ∷ s) [] a b distinct e (one {y = u} r rs) stuck none stuck' = absurd (subst (IsStuck x) (sym e) stuck' u r)
one_stop x y z (l ∷ s) (m ∷ t) a b distinct e (one {y = u} r rs) stuck (one {y = w} q qs) stuck' =
    let line : l ≡ m = cc in
    let rest : s ++ a ≡ t ++ b = cc in
    let again = subst (λ (k : List ℕ). Reads x k w) (sym line) q in
    let part = one_part x u w l distinct r again in
    ap suc (one_stop u y z s t a b (distinct_part x u l distinct r) rest rs stuck (subst (λ (k : Part). ReadsAll k t z) part qs) stuck')

bad_lines : (text : List ℕ) (m n : ℕ) → IsBadLine text m → IsBadLine text n → m ≡ n
bad_lines text m n h k = grind (arith, one_stop)

-- what is whole isn't stuck
goes_through : (x y : Part) (s a : List (List ℕ)) (p : Program) (es : List Event) (called : List (List ℕ)) → IsDistinct x → ReadsAll x s y →
    IsStuck y a → ReadsAll x (s ++ a) (Whole p es called) → ⊥
goes_through x _ [] [] p es called distinct none stuck none = stuck
goes_through x _ [] (l ∷ a) p es called distinct none stuck (one {y = u} r rs) = stuck u r
goes_through x y (l ∷ s) a p es called distinct (one {y = u} r rs) stuck (one {y = w} q qs) =
    grind (arith, one_part, distinct_part, (goes_through u y s a p es called (distinct_part x u l distinct r) rs stuck))

not_both : (text : List ℕ) (v : Verdict) (n : ℕ) → HasVerdict text v → IsBadLine text n → ⊥
not_both text v n h k =
    goes_through Start k.part k.before k.after h.program h.steps h.called tt k.read k.stuck
    (subst (λ (ls : List (List ℕ)). ReadsAll Start ls (Whole h.program h.steps h.called)) k.lines_are h.recording)

pub has_one : (text : List ℕ) → HasOneVerdict text
has_one text = record { verdict = verdicts text; line = bad_lines text; apart = not_both text }
