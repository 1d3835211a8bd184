-- A result that is handed in and isn't taken.
use Rattle.uv_session.proofs.Names.{◌≡◌, ◌<◌, ◌≤◌, ℕ, List, length, Err, refl, subst, arith, Event, Fault, Memory, Refused, StepsFull, Program, Job, STEPS, AnswersResult, RespondsResult}

responds : (limit : ℕ) (p : Program) (es fs : List Event) (k : ℕ) (job : Job) (f : Fault) → length es < limit → limit ≤ STEPS →
    AnswersResult STEPS p es k job (Err f) fs → RespondsResult limit p es k job (Err f) es
responds limit p es fs k job f few low h = grind arith

-- the machine's fault is the session's, where the machine stands at the same steps
pub responds_err : (limit : ℕ) (p : Program) (ms es fs : List Event) (k : ℕ) (job : Job) (f : Fault) → ms ≡ es → length es < limit →
    limit ≤ STEPS → AnswersResult STEPS p ms k job (Err f) fs → RespondsResult limit p es k job (Err f) es
responds_err limit p ms es fs k job f same few low h = grind (arith, responds)
