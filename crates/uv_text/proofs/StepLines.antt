-- The tests of the code decide which lines of a recording say a step, and which are of callbacks.
use Rattle.uv_text.proofs.Names.{Bad, Program, has_step, asked_in, ◌≡◌, ◌↔◌, ◌&&◌, ◌||◌, ℕ, List, ◌++◌, Bool, true, false, drop, length, Option, Some, None, IfSome, IfNone, IsTrue, refl, ap, sym, subst, ◌∙◌, codes, bytes_eq, cond_both, and_parts, Decides-eqb, bytes_eq-Decides, starts_is, Event, Loop, is_line, is_line_decides, Asked, Do, Step, Asks, command, asked_of, SaysStep, loop, outside, IsCallbackLine, call, after, closed, step_asked, step_of, begins, is_callback_line}
use Rattle.uv_text.proofs.Commands.{asks, step_found}

-- ---- steps

asked_says : (p : Program) (line : List ℕ) (a : Asked) → Asks p.names line a → IfSome (step_asked (asked_in p a)) (λ e. SaysStep p line e)
asked_says p line (Do (Step e)) (command _ l h) =
    cond_both (has_step p e) (Do (Step e)) Bad (λ (a : Asked). IfSome (step_asked a) (λ e. SaysStep p line e)) (λ has. outside e l h has) (λ _. tt)
asked_says p line _ h = tt

says : (p : Program) (line : List ℕ) → IfSome (step_of p line) (λ e. SaysStep p line e)
says p line =
    cond_both (bytes_eq line (codes "loop")) (Some Loop) (step_asked (asked_in p (asked_of p.names line)))
    (λ (o : Option Event). IfSome o (λ e. SaysStep p line e))
    (λ e. loop ((bytes_eq-Decides line (codes "loop")).0 e)) (λ _. asked_says p line (asked_of p.names line) (asks p.names line))

pub step_says : (p : Program) (line : List ℕ) (o : Option Event) → o ≡ step_of p line → IfSome o (λ e. SaysStep p line e)
step_says p line o is = subst (λ (x : Option Event). IfSome x (λ e. SaysStep p line e)) (sym is) (says p line)

-- what a line says is read
finds : (p : Program) (line : List ℕ) (e : Event) → SaysStep p line e → step_of p line ≡ None → ⊥
finds p line e (loop h) none = cc
finds p line e (outside _ l h has) none =
    let found = step_found p line e l h in
    let asked : asked_in p (asked_of p.names line) ≡ Do (Step found.0) = ap (asked_in p) found.1 ∙ rw (found.2 ∙ has) refl in
    cond_both (bytes_eq line (codes "loop")) (Some Loop) (step_asked (asked_in p (asked_of p.names line))) (λ (o : Option Event). o ≡ None → ⊥)
    (λ _ z. cc z) (λ _ z. let some = ap step_asked asked in cc (z, some)) none

pub step_none : (p : Program) (line : List ℕ) (o : Option Event) → o ≡ step_of p line → IfNone o ((e : Event) → SaysStep p line e → ⊥)
step_none p line (Some e) is = tt
step_none p line None is = λ e h. finds p line e h (sym is)

-- ---- callbacks

begins_decides : (line word : List ℕ) →
    (begins line word ≡ true → line ≡ word ++ drop (length word) line) × ((text : List ℕ) → line ≡ word ++ text → begins line word ≡ true)
begins_decides line word = starts_is Decides-eqb line word (begins line word) refl

some_word : (a b c : Bool) → a || (b || c) ≡ true → (P : Type 0) → (a ≡ true → P) → (b ≡ true → P) → (c ≡ true → P) → P
some_word true b c e P x y z = x refl
some_word false true c e P x y z = y refl
some_word false false c e P x y z = z e

is_one : (line : List ℕ) → is_callback_line line ≡ true → IsCallbackLine line
is_one line e =
    let parts = and_parts _ _ e in
    let l = (is_line_decides line).0 parts.0 in
    some_word (begins line (codes "call ")) (begins line (codes "after ")) (begins line (codes "closed ")) parts.1 (IsCallbackLine line)
    (λ h. call _ l ((begins_decides line (codes "call ")).0 h)) (λ h. after _ l ((begins_decides line (codes "after ")).0 h))
    (λ h. closed _ l ((begins_decides line (codes "closed ")).0 h))

any_of : (l a b c : Bool) → l ≡ true → (b || c ≡ true) → l && (a || (b || c)) ≡ true
any_of true true b c e h = refl
any_of true false b c e h = h
any_of false a b c e h = absurd (let z : false ≡ true = e in cc z)

one_is : (line : List ℕ) → IsCallbackLine line → is_callback_line line ≡ true
one_is line (call text l e) = rw ((is_line_decides line).1 l, (begins_decides line (codes "call ")).1 text e) refl
one_is line (after text l e) =
    any_of (is_line line) (begins line (codes "call ")) (begins line (codes "after ")) (begins line (codes "closed ")) ((is_line_decides line).1 l)
    (ap (λ (b : Bool). b || begins line (codes "closed ")) ((begins_decides line (codes "after ")).1 text e))
one_is line (closed text l e) =
    any_of (is_line line) (begins line (codes "call ")) (begins line (codes "after ")) (begins line (codes "closed ")) ((is_line_decides line).1 l)
    (last (begins line (codes "after ")) (begins line (codes "closed ")) ((begins_decides line (codes "closed ")).1 text e))
  where
    last : (b c : Bool) → c ≡ true → b || c ≡ true
    last true c h = refl
    last false c h = h

pub callback_decides : (line : List ℕ) (r : Bool) → r ≡ is_callback_line line → IsTrue r ↔ IsCallbackLine line
callback_decides line r is = (λ t. is_one line (sym is ∙ t), λ h. is ∙ one_is line h)

pub ruleset step_lines = (step_says, step_none)
