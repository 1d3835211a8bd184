-- What every list of accepted steps has: each step may be taken, and each line shows a callback as a recording has it.
use Rattle.uv_text.proofs.Names.{◌≡◌, ℕ, ◌+◌, ◌≤◌, List, [], ◌∷◌, ◌++◌, length, map, Bool, true, false, Contains, Option, Some, None, IfSome, refl, ap, subst, ◌∙◌, arith, length-append, option_to_list, AllByRecursion, filter, flat_map, length-replicate, Event, Seen, Program, arena_size, worker_count, IsSlotCount, IsName, CanStep, State, fresh, seen_from, state_of, AcceptsFrom, STEPS, after_able, after-nil, after-push, line_text, IsCallbackLine, is_callback, callback_lines, has_step}
use Rattle.uv_model.specs.Next.{next}
use Rattle.uv_model.specs.After.{after, seen_by, Accepts}
use Rattle.uv_text.proofs.Printed.{callback_said}
use Rattle.uv_text.proofs.Sizes.{Sized, Shows, CanBe, next_sized, can_be, can_have}

pub record Played (p : Program) (m k : ℕ) (es : List Event) (xs : List (Option Seen)) : Type 0 where
  pub steps : AllByRecursion (CanBe m k) es
  pub has : AllByRecursion (λ (e : Event). has_step p e ≡ true) es
  pub lines : AllByRecursion (λ (x : Option Seen). IfSome x Shows) xs

played_from : (p : Program) (m k : ℕ) (before es : List Event) (s : State) → after p before ≡ s → length before + length es ≤ STEPS → Sized m k s →
    AcceptsFrom p s es → Played p m k es (seen_from p s es)
played_from p m k before [] s same few h a = record { steps = tt; has = tt; lines = tt }
played_from p m k before (e ∷ es) s same few h a =
    let able = subst CanStep same (after_able p before (omega (arith, few))) in
    let stays = next_sized p m k s e able h in
    let rest = played_from p m k (before ++ e ∷ []) es (state_of s (next p s e))
    (after-push p before e ∙ ap (λ (x : State). state_of x (next p x e)) same) (omega (arith, few, length-append before (e ∷ [])))
    (grind arith) a.1 in
    record {
      steps = (can_be p m k s e h a.0, rest.steps);
      has = (can_have p m k s e a.0, rest.has);
      lines = (grind arith);
    }

pub played : (p : Program) (es : List Event) → IsSlotCount (arena_size p).slots → Accepts p es → length es ≤ STEPS →
    Played p (length p.callbacks) (worker_count p) es (seen_by p es)
unfolding Accepts seen_by
played p es slots a few =
    played_from p (length p.callbacks) (worker_count p) [] es (fresh p) (after-nil p) (omega (arith, few)) (grind (arith, length-replicate)) a

-- each line of a callback is read as one
module _ (p : Program) (each : (name : List ℕ) → Contains p.names name → IsName name) where
  abbrev called_of : List (Option Seen) → List (List ℕ)
  called_of xs = map (line_text p) (filter is_callback (flat_map option_to_list xs))

  one_called : (l : Seen) (xs : List (Option Seen)) (b : Bool) → is_callback l ≡ b → Shows l → AllByRecursion IsCallbackLine (called_of xs) →
      AllByRecursion IsCallbackLine (called_of (Some l ∷ xs))
  one_called l xs true e h rest = rw e (callback_said p each l e h, rest)
  one_called l xs false e h rest = rw e rest

  all_called : (xs : List (Option Seen)) → AllByRecursion (λ (x : Option Seen). IfSome x Shows) xs → AllByRecursion IsCallbackLine (called_of xs)
  all_called [] h = tt
  all_called (None ∷ xs) h = all_called xs h.1
  all_called (Some l ∷ xs) h = one_called l xs (is_callback l) refl h.0 (all_called xs h.1)

  pub callbacks_said : (es : List Event) → AllByRecursion (λ (x : Option Seen). IfSome x Shows) (seen_by p es) →
      AllByRecursion IsCallbackLine (callback_lines p es)
  callbacks_said es h = all_called (seen_by p es) h
