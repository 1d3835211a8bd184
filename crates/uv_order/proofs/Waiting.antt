-- Where the loop stands still.
use Rattle.uv_order.proofs.Names.{◌≡◌, ◌∙◌, refl, Option, Some, None, List, slice_get, Event, Program, State, Loop, MainOp, order_of, lines_in, refusal_of, Body, Run, Place, Main, Stage, stage_refusal, stage_moves, body_moves, main_moves}
use Rattle.uv_model.specs.After.{after}
use Rattle.uv_model.specs.Next as step
use Rattle.uv_model.specs.declared.place.Place.TheVariants.{Running}
use Rattle.uv_model.specs.declared.place.Stage.TheVariants as stage
use Rattle.uv_order.specs.Waits as order

at : (s : State) (x : Stage) → stage_refusal s x ≡ order.waits_at s x
at s x = assumption

in_run : (p : Program) (s : State) (run : Run) (body : Option Body) → refusal_of (step.run_step p s run body) ≡ order.waits_in s run.stage body
in_run p s run None = stage_moves p s run run.stage ∙ at s run.stage
in_run p s run (Some body) = body_moves p s run body (slice_get (lines_in p body.callback body.name) body.next)

in_main : (p : Program) (s : State) (line : _) (x : Option MainOp) → refusal_of (step.main_step (order_of p) s line x) ≡ order.ends_at x
in_main p s line None = refl
in_main p s line (Some x) = main_moves (order_of p) s line x

at_place : (p : Program) (s : State) (place : Place) → refusal_of (step.loop_step p s place) ≡ order.waits p s place
at_place p s (Main line) = in_main p s line (slice_get p.main line)
at_place p s (Running run) = in_run p s run run.body

pub from : (p : Program) (s : State) → refusal_of (step.next p s Loop) ≡ order.waits p s s.place
unfolding step.next
from p s = at_place p s s.place

pub waited : (p : Program) (es : List Event) → refusal_of (step.next p (after p es) Loop) ≡ order.waits p (after p es) (after p es).place
waited p es = from p (after p es)
