-- The derived test of two jobs tells whether they are one.
use Rattle.std.proofs.Common.{◌≡◌, ℕ, Bool, true, false, ◌&&◌, nat_eq, List, take, refl, sym, subst}
use Rattle.std.specs.Bool.{MatchBool}
use Rattle.std.specs.Cmp.Lexicographic.{pointwise, same_text, other_text}
use Rattle.std.proofs.lemmas.Bool.{and_parts, and_from, eqb-true, eq-eqb, cases_from_iff}
use Rattle.uv_work.specs.declared.job.Job.{Job}
use Rattle.uv_work.proofs.TaskLemmas.{same_task}

-- the test, field by field
abbrev tested : Job → Job → Bool
tested a b = (nat_eq a.req.slot b.req.slot && nat_eq a.req.generation b.req.generation)
    && (nat_eq a.task.rounds b.task.rounds && (nat_eq a.task.len b.task.len && pointwise nat_eq a.task.bytes b.task.bytes))

same_bytes : (xs : List ℕ) → pointwise nat_eq xs xs ≡ true
same_bytes xs = at (pointwise nat_eq xs xs) refl where
  at : (b : Bool) → b ≡ pointwise nat_eq xs xs → b ≡ true
  at true e = refl
  at false e = absurd (other_text xs xs e refl)

one : (a b : Job) → tested a b ≡ true → a ≡ b
one a b told =
    let parts = and_parts _ _ told in
    let req = and_parts _ _ parts.0 in
    let task = and_parts _ _ parts.1 in
    let text = and_parts _ _ task.1 in
    let slot = eqb-true _ _ req.0 in
    let generation = eqb-true _ _ req.1 in
    let len = eqb-true _ _ text.0 in
    let bytes = same_text _ _ (sym text.1) in
    let tasks = same_task a.task b.task (eqb-true _ _ task.0) (λ i. take (len i) (bytes i)) in
    λ i. record { req = record { slot = slot i; generation = generation i }; task = tasks i }

itself : (a : Job) → tested a a ≡ true
itself a = and_from _ _ (and_from _ _ (eq-eqb a.req.slot _ refl) (eq-eqb a.req.generation _ refl))
    (and_from _ _ (eq-eqb a.task.rounds _ refl) (and_from _ _ (eq-eqb a.task.len _ refl) (same_bytes a.task.bytes)))

pub told_job : (a b : Job) (r : Bool) → r ≡ tested a b → MatchBool r (a ≡ b) (a ≡ b → ⊥)
told_job a b r e = subst (λ t. MatchBool t (a ≡ b) (a ≡ b → ⊥)) (sym e)
    (cases_from_iff (one a b, λ same. subst (λ c. tested a c ≡ true) same (itself a)))
