-- Where no line of a script cancels a request, no step of its loop does.
use Rattle.uv_find.proofs.Names.{◌≡◌, ℕ, true, false, List, Option, Some, None, refl, slice_get, list_all, and_parts, Op, MainOp, CallbackLine, Program, lines_in, Body, Main, Running, State, cancels, cancels_at, cancels_line, cancels_main, cancels_op, cancels_run, is_no_cancel, of_main, of_lines, each_op}
use Rattle.uv_script.specs.declared.op.MainOp.TheVariants as main
use Rattle.uv_model.specs.declared.place.Place.{Place}
use Rattle.uv_find.proofs.Declaring.{lines_test}
use Rattle.uv_find.proofs.Led.{each}
use Rattle.uv_find.proofs.Meeting.{not_true}

op_cancels : (o : Op) → is_no_cancel o ≡ true → cancels_op o ≡ false
op_cancels o e = not_true (cancels_op o) e

main_cancels : (o : MainOp) → of_main is_no_cancel o ≡ true → cancels_main (Some o) ≡ false
main_cancels (main.Run mode) e = refl
main_cancels (main.Op o) e = op_cancels o e

main_line : (lines : List MainOp) (k : ℕ) → list_all (of_main is_no_cancel) lines ≡ true → cancels_main (slice_get lines k) ≡ false
main_line lines k all = by (slice_get lines k) refl where
  by : (o : Option MainOp) → slice_get lines k ≡ o → cancels_main o ≡ false
  by None is = refl
  by (Some o) is = main_cancels o (each (of_main is_no_cancel) lines k o all is)

body_line : (lines : List CallbackLine) (k : ℕ) → of_lines is_no_cancel lines ≡ true → cancels_line (slice_get lines k) ≡ false
body_line lines k all = by (slice_get lines k) refl where
  by : (o : Option CallbackLine) → slice_get lines k ≡ o → cancels_line o ≡ false
  by None is = refl
  by (Some line) is = op_cancels line.op (each (λ (l : CallbackLine). is_no_cancel l.op) lines k line all is)

module _ (p : Program) (all : each_op is_no_cancel p ≡ true) where
  run_cancels : (body : Option Body) → cancels_run p body ≡ false
  run_cancels None = refl
  run_cancels (Some body) = body_line (lines_in p body.callback body.name) body.next (lines_test is_no_cancel p all body.callback body.name)

  place_cancels : (place : Place) → cancels_at p place ≡ false
  place_cancels (Main line) = main_line p.main line (and_parts (list_all (of_main is_no_cancel) p.main) _ all).0
  place_cancels (Running run) = run_cancels run.body

  pub none_cancels : (s : State) → cancels p s ≡ false
  none_cancels s = place_cancels s.place
