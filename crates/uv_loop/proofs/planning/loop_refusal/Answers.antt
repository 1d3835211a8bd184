use Rattle.uv_loop.proofs.Names.{IfNone, None, Some, sym, ap, subst, ◌∙◌, Body, Next, Run, refusal_of, image_of, MayAt, place_of, stage_of}
use Rattle.uv_model.specs.declared.place.Stage.TheVariants.{Poll}
use Rattle.uv_loop.proofs.Refusing.{body_taken, main_there, run_there}
use Rattle.uv_loop.proofs.planning.loop_refusal.Goals as goal

pub returns-in-Main-clause-why : goal.returns-in-Main-clause-why
returns-in-Main-clause-why c s h r =
    ap (λ (n : Next). refusal_of n) (main_there c.args.script.now (image_of c.args.memory.now) s h c.in-Main.line
    (sym c.place.ensures ∙ sym c.form.ensures ∙ ap place_of c.in-Main.is))
    ∙ c.main_refusal.ensures.why s

pub returns-in-Between-clause-why : goal.returns-in-Between-clause-why
returns-in-Between-clause-why c s h r =
    let run : Run = record { mode = c.in-Between.field-0; line = c.in-Between.field-1; stage = c.in-Between.stage; body = None } in
    ap (λ (n : Next). refusal_of n) (run_there c.args.script.now (image_of c.args.memory.now) s h run
    (sym c.place.ensures ∙ sym c.form.ensures ∙ ap place_of c.in-Between.is))
    ∙ c.stage_refusal.ensures.why c.args.script.now run s h r

pub returns-in-Within-clause-why : goal.returns-in-Within-clause-why
returns-in-Within-clause-why c s h r =
    let b = c.in-Within in
    let run : Run = record { mode = b.field-0; line = b.field-2; stage = stage_of b.field-1; body = Some b.field-3 } in
    ap (λ (n : Next). refusal_of n) (run_there c.args.script.now (image_of c.args.memory.now) s h run
    (sym c.place.ensures ∙ sym c.form.ensures ∙ ap place_of b.is))
    ∙ body_taken c.args.script.now s run b.field-3 _

pub returns-in-WithinPoll-clause-why : goal.returns-in-WithinPoll-clause-why
returns-in-WithinPoll-clause-why c s h r =
    let b = c.in-WithinPoll in
    let body : Body = record { callback = b.callback; name = b.name; call = b.call; next = b.next } in
    let run : Run = record { mode = b.mode; line = b.line; stage = Poll (Some b.deadline); body = Some body } in
    ap (λ (n : Next). refusal_of n) (run_there c.args.script.now (image_of c.args.memory.now) s h run
    (sym c.place.ensures ∙ sym c.form.ensures ∙ ap place_of b.is))
    ∙ body_taken c.args.script.now s run body _

pub returns-in-Main-clause-may : goal.returns-in-Main-clause-may
returns-in-Main-clause-may c =
    subst (λ q. IfNone c.main_refusal.result (MayAt c.args.script.now q (image_of c.args.memory.now)))
    (ap place_of (sym c.in-Main.is) ∙ c.form.ensures ∙ c.place.ensures) c.main_refusal.ensures.may

pub returns-in-Between-clause-may : goal.returns-in-Between-clause-may
returns-in-Between-clause-may c =
    subst (λ q. IfNone c.stage_refusal.result (MayAt c.args.script.now q (image_of c.args.memory.now)))
    (ap place_of (sym c.in-Between.is) ∙ c.form.ensures ∙ c.place.ensures) c.stage_refusal.ensures.may
