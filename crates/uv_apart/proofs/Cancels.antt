-- Where the loop's next step is apart, it is no cancel.
use Rattle.uv_apart.proofs.Names.{◌≡◌, true, false, Option, Some, None, refl, slice_get, Op, MainOp, CallbackLine, Program, lines_in, Body, Run, Place, Main, Running, State, cancels, cancels_at, cancels_line, cancels_main, cancels_op, cancels_run, is_apart, is_apart_at, is_apart_line, is_apart_main, is_apart_op, is_apart_run}
use Rattle.uv_script.specs.declared.op.Op.TheVariants as op
use Rattle.uv_script.specs.declared.op.MainOp.TheVariants as main

op_cancels : (o : Op) → is_apart_op o ≡ true → cancels_op o ≡ false
op_cancels (op.Cancel v) e = cc e
op_cancels o e = refl

line_cancels : (line : Option CallbackLine) → is_apart_line line ≡ true → cancels_line line ≡ false
line_cancels None e = refl
line_cancels (Some line) e = op_cancels line.op e

main_cancels : (o : Option MainOp) → is_apart_main o ≡ true → cancels_main o ≡ false
main_cancels None e = refl
main_cancels (Some (main.Run mode)) e = refl
main_cancels (Some (main.Op o)) e = op_cancels o e

run_cancels : (p : Program) (run : Run) (body : Option Body) → is_apart_run p run body ≡ true → cancels_run p body ≡ false
run_cancels p run None e = refl
run_cancels p run (Some body) e = line_cancels (slice_get (lines_in p body.callback body.name) body.next) e

place_cancels : (p : Program) (place : Place) → is_apart_at p place ≡ true → cancels_at p place ≡ false
place_cancels p (Main line) e = main_cancels (slice_get p.main line) e
place_cancels p (Running run) e = run_cancels p run run.body e

pub apart_cancels : (p : Program) (s : State) → is_apart p s ≡ true → cancels p s ≡ false
apart_cancels p s e = place_cancels p s.place e
