-- A change that keeps every count: a step from the changed state is the changed step.
use Rattle.uv_alike.proofs.Names.{◌≡◌, ◌∙◌, refl, ap, ap₂, Option, Some, Var, State, Program, Named, named, with_named, counted, count_of, Body, Run, Running, Seen, Event, Loop, Callback, Moves, Change, Comes, changed, changed_run, changed_line, changed_event, changed_program, Hides, IsWhole, IsExact, next_map}
use Rattle.uv_model.specs.Next as steps
use Rattle.uv_model.specs.Next.{next}
use Rattle.uv_alike.proofs.Ops.{Reads}
use Rattle.uv_alike.proofs.Walk.{loop_alike, next_alike, SeesAlike}

module _ (c : Change) (p : Program) (s : State) (exact : IsExact c p s) (hides : Hides c p s) where
  calls_exact : (u : State) (run : Run) (kind : Callback) (v : Var) (line : Seen) → u.names ≡ s.names →
      steps.calls (changed_program c p) (changed c u) (changed_run c run) kind (c.var v) (changed_line c p line)
      ≡ next_map (changed c) (changed_line c p) (steps.calls p u run kind v line)
  calls_exact u run kind v line same =
      let counts = counted kind (named u v).calls in
      let body = λ (n : Named). steps.body_from (changed_program c p) kind (c.var v) (count_of kind (counted kind n.calls)) 0 in
      ap (λ (n : Named). Moves (record (with_named (changed c u) (c.var v) (record n { calls = counted kind n.calls }))
      { place = Running (record (changed_run c run) { body = body n }) })
      (Some (changed_line c p line))) (exact.get u v same)
      ∙ ap₂ (λ (t : State) (b : Option Body). Moves (record t { place = Running (record (changed_run c run) { body = b }) })
      (Some (changed_line c p line)))
      (exact.set u v (record (named u v) { calls = counts }) same) (exact.body kind v (count_of kind counts) 0)

  sees : SeesAlike c p s (λ x. x) (next_map (changed c) (changed_line c p))
  sees = record {
    refuses = λ why. refl;
    stays = λ u line. refl;
    calls = calls_exact;
    goes = λ u run kind v call number line. ap (λ (b : Option Body).
        Moves (record (changed c u) { place = Running (record (changed_run c run) { body = b }) }) (Some (changed_line c p line)))
        (ap (λ n. steps.body_from (changed_program c p) kind (c.var v) n number) (exact.count call) ∙ exact.body kind v call number);
  }

  -- where the change is whole
  pub next_exact : IsWhole c p s → (e : Event) → Comes c s e
      → next (changed_program c p) (changed c s) (changed_event c e) ≡ next_map (changed c) (changed_line c p) (next p s e)
  next_exact whole e can = next_alike c p s hides whole (λ x. x) (next_map (changed c) (changed_line c p)) sees e can

  -- the loop's own step, where it reads only what it has to
  pub loop_exact : Reads c p s → next (changed_program c p) (changed c s) Loop ≡ next_map (changed c) (changed_line c p) (next p s Loop)
  loop_exact reads = loop_alike c p s hides reads (λ x. x) (next_map (changed c) (changed_line c p)) sees
