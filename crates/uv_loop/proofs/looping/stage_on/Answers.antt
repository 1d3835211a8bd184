use Rattle.uv_loop.proofs.Names.{None, sym, ap, ◌∙◌, Loop, Running, Run, held, image_of, stage_step, place_of}
use Rattle.uv_model.specs.Next.{next}
use Rattle.uv_loop.proofs.Refusing.{run_there, turns_by}
use Rattle.uv_loop.proofs.looping.stage_on.Goals as goal

pub returns-clause-turns : goal.returns-clause-turns
returns-clause-turns c =
    let run : Run = record { mode = c.in-Between.mode; line = c.in-Between.line; stage = c.in-Between.stage; body = None } in
    turns_by (λ s. stage_step c.args.script.now s run run.stage) (λ s. next c.args.script.now s Loop)
    c.in_stage.new.memory.step_record (held c.args.memory.now) (held c.in_stage.new.memory) c.in_stage.result
    (λ s h. run_there c.args.script.now (image_of c.args.memory.now) s h run
    (sym c.place.ensures ∙ sym c.form.ensures ∙ ap place_of c.in-Between.is)) c.in_stage.ensures.turns
