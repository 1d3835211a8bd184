-- What the plain loop keeps, and what it answers, after a step that is taken, refused or without memory.
use Rattle.uv_plain.proofs.Names.{◌≡◌, ◌<◌, ℕ, List, [], ◌∷◌, ◌++◌, length, length-append, Option, Some, None, Ok, Err, ap, sym, ◌∙◌, subst, arith, Event, Fault, Why, Seen, Program, Job, State, Next, Moves, Refuses, refusal_of, IsMove, Answers, STEPS, RefusesResult, AnswersResult, Steps, Trail, IsAfter, next, after, after-moves, seen_by-moves}
use Rattle.uv_ids.specs.declared.fault.Fault.TheVariants as fault
use Rattle.uv_model.specs.declared.machine.Outcome.{Outcome}

-- one step more
pub kept_more : (p : Program) (es fs : List Event) (seen seens : List (Option Seen)) (s t : State) (e : Event) (line : Option Seen) →
    IsAfter p es seen s → length es < STEPS → fs ≡ es ++ e ∷ [] → seens ≡ seen ++ line ∷ [] → next p s e ≡ Moves t line → IsAfter p fs seens t
kept_more p es fs seen seens s t e line h few longer told m = grind (arith, length-append, seen_by-moves, after-moves)

-- what a machine is seen as, and the state that it keeps
pub record IsKept (x : Trail) (p : Program) (es : List Event) (s : State) : Type 0 where
  pub seen_as : record { program = p; standing = es } ≡ x
  pub state_is : s ≡ after p es
  pub few : length es < STEPS

pub answers_more : (x : Trail) (p : Program) (es fs : List Event) (s t : State) (e : Event) (outcome : Outcome) → IsKept x p es s →
    fs ≡ es ++ e ∷ [] → next p s e ≡ Moves t outcome.seen → Answers STEPS x.program x.standing e (Ok outcome) fs
answers_more x p es fs s t e outcome k longer m = grind (arith, after-moves)

-- a result that may not be handed in is refused
pub answers_refused_result : (x : Trail) (p : Program) (es fs : List Event) (s : State) (worker : ℕ) (job : Job) (why : Why) → IsKept x p es s →
    fs ≡ x.standing → RefusesResult p s worker job why → AnswersResult STEPS x.program x.standing worker job (Err (fault.Refused why)) fs
answers_refused_result x p es fs s worker job why k same r =
    (rw (← k.seen_as) k.few, same, rw (← k.seen_as) (rw (← k.state_is) r))
