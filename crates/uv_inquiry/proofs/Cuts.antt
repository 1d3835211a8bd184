-- The line `begin` cuts an input.
use Rattle.uv_inquiry.proofs.Names.{◌≡◌, ◌≢◌, ℕ, ◌+◌, ◌-◌, ◌≤◌, List, [], ◌∷◌, ◌++◌, Bool, length, take, refl, ap, sym, ◌∙◌, subst, arith, codes, length-append, TakesLine, Begins, NeverBegins, here, here_at_end, later, with_line, CanBegin, can_start, can_go_on, front_begun, front_missing, take-append_seam}

-- no line up to the rest is `begin`
pub record Reached (input rest : List ℕ) : Type 0 where
  pub text : List ℕ
  pub can : CanBegin input text rest

pub reached_next : {input rest line after : List ℕ} (fed : Bool) → Reached input rest → TakesLine rest line fed after → line ≢ codes "begin" →
    Reached input after
reached_next {line = line} fed h taken other = record { text = h.text ++ with_line line fed; can = can_go_on fed h.can taken other refl }

pub reached_begin : {input rest line after : List ℕ} (fed : Bool) → Reached input rest → TakesLine rest line fed after → line ≡ codes "begin" →
    Begins input (take (length input - length rest) input) after
reached_begin {input} {rest} {line} {after} fed h taken e =
    subst (λ (xs : List ℕ). Begins input xs after) (sym front) (front_begun after fed h.can taken e)
  where
    size : length input - length rest ≡ length h.text
    size = let whole = ap length h.can.whole in let parts = length-append h.text rest in omega arith

    front : take (length input - length rest) input ≡ h.text
    front = ap (λ (n : ℕ). take n input) size ∙ ap (take (length h.text)) h.can.whole ∙ take-append_seam h.text rest

pub reached_end : {input rest : List ℕ} → Reached input rest → rest ≡ [] → NeverBegins input
reached_end h e = (front_missing h.can e).0

-- what the line leaves is shorter than the input
pub parts_few : {input script lines : List ℕ} → Begins input script lines → length script + length lines + 5 ≤ length input
parts_few (later {line = line} {rest = rest} {script = script} {commands = c} free other k) = grind (arith, length-append, (parts_few k))
parts_few each = grind arith
