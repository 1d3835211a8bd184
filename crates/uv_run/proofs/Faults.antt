-- Which faults a session answers to a step of a live run.
use Rattle.uv_run.proofs.Names.{Option, Some, None, Err, slice_get, cond_both, sym, subst, Event, Loop, Fault, Why, Program, MainOp, lines_in, order_of, Body, Place, Main, Running, Run, Stage, State, Next, refusal_of, stage_refusal, stage_moves, body_moves, main_moves, Shown, TakesEvent, IsEventFault, IsStepFault, after}
use Rattle.uv_ids.specs.declared.fault.Fault.TheVariants as fault
use Rattle.uv_model.specs.declared.place.Stage.TheVariants as stage
use Rattle.uv_model.specs.Next as step
use Rattle.uv_model.specs.Next.{next}

-- ---- any event

pub event_fault : (s t : Shown) (e : Event) (f : Fault) → TakesEvent s e (Err f) t → IsEventFault f
event_fault s t e fault.Memory h = tt
event_fault s t e (fault.Refused why) h = tt
event_fault s t e fault.StepsFull h = tt
event_fault s t e _ h = absurd h.answer

-- ---- a step of the loop

-- it is refused where it waits at a poll, or is at its end
abbrev IsOfStep : Option Why → Type 0
IsOfStep None = Unit {0}
IsOfStep (Some w) = IsStepFault (fault.Refused w)

stage_waits : (s : State) (x : Stage) → IsOfStep (stage_refusal s x)
stage_waits s (stage.Poll deadline) = cond_both (step.may_leave s deadline) _ _ IsOfStep (λ h. tt) (λ h. tt)
stage_waits s each = tt

run_waits : (p : Program) (s : State) (run : Run) (body : Option Body) → IsOfStep (refusal_of (step.run_step p s run body))
run_waits p s run None = subst IsOfStep (sym (stage_moves p s run run.stage)) (stage_waits s run.stage)
run_waits p s run (Some body) =
    subst IsOfStep (sym (body_moves p s run body (slice_get (lines_in p body.callback body.name) body.next))) tt

place_waits : (p : Program) (s : State) (x : Place) → IsOfStep (refusal_of (step.loop_step p s x))
place_waits p s (Main line) = at (slice_get p.main line) where
  at : (o : Option MainOp) → IsOfStep (refusal_of (step.main_step (order_of p) s line o))
  at None = tt
  at (Some o) = subst IsOfStep (sym (main_moves (order_of p) s line o)) tt
place_waits p s (Running run) = run_waits p s run run.body

loop_waits : (p : Program) (s : State) → IsOfStep (refusal_of (next p s Loop))
unfolding next
loop_waits p s = place_waits p s s.place

pub step_fault : (s t : Shown) (f : Fault) → TakesEvent s Loop (Err f) t → IsStepFault f
step_fault s t fault.Memory h = tt
step_fault s t fault.StepsFull h = tt
step_fault s t (fault.Refused why) h =
    subst (λ (n : Next). IsOfStep (refusal_of n)) h.answer.2 (loop_waits s.program (after s.program s.standing))
step_fault s t _ h = absurd h.answer

pub ruleset faults = (event_fault, step_fault)
