use Rattle.uv_loop.proofs.Names.{slice_get, sym, ◌∙◌, Loop, order_of, main_step, run_step, held, image_of}
use Rattle.uv_model.specs.Next.{next}
use Rattle.uv_loop.proofs.Refusing.{main_there, run_there, turns_where}
use Rattle.uv_loop.proofs.looping.turn.Goals as goal

pub returns-in-Main-clause-turns : goal.returns-in-Main-clause-turns
returns-in-Main-clause-turns c =
    turns_where (λ s. main_step (order_of c.args.script.now) s c.in-Main.line (slice_get c.args.script.now.main c.in-Main.line))
    (λ s. next c.args.script.now s Loop)
    c.in_main.new.memory.step_record (held c.args.memory.now) (held c.in_main.new.memory) c.in_main.result
    (λ s h. main_there c.args.script.now (image_of c.args.memory.now) s h c.in-Main.line
    (sym c.place.ensures ∙ sym c.place-place.ensures ∙ c.in-Main.is))
    c.in_main.ensures.turns

pub returns-in-Running-clause-turns : goal.returns-in-Running-clause-turns
returns-in-Running-clause-turns c =
    turns_where (λ s. run_step c.args.script.now s c.in-Running.run' c.in-Running.run'.body) (λ s. next c.args.script.now s Loop)
    c.in_run.new.memory.step_record (held c.args.memory.now) (held c.in_run.new.memory) c.in_run.result
    (λ s h. run_there c.args.script.now (image_of c.args.memory.now) s h c.in-Running.run'
    (sym c.place.ensures ∙ sym c.place-place.ensures ∙ c.in-Running.is)) c.in_run.ensures.turns
