use Rattle.uv_engine.proofs.Names.{codes, refl, err_from_is_err_and, image_text, is_image, lies}
use Rattle.uv_engine.specs.Out.{refused}
use Rattle.uv_engine.proofs.Gathers.{one_text, one_fault}
use Rattle.uv_engine.proofs.conversation.Conversation.show_image.Goals as goal

pub returns-in_ok-push_refused-in-Ok-None-clause-text : goal.returns-in_ok-push_refused-in-Ok-None-clause-text
returns-in_ok-push_refused-in-Ok-None-clause-text g c = λ tells.
    one_text (codes "refused image\n") (refused refl) c.in_ok-push_refused-in-Ok-None.ensures

pub returns-in_err-push_refused-in-Ok-None-clause-text : goal.returns-in_err-push_refused-in-Ok-None-clause-text
returns-in_err-push_refused-in-Ok-None-clause-text g c = λ tells.
    rw ((err_from_is_err_and c.from_residual.result c.from_residual.ensures.1).1) (one_fault (codes "refused image\n") (refused refl))

pub returns-in-Err-clause-text : goal.returns-in-Err-clause-text
returns-in-Err-clause-text g c = λ tells. one_fault (codes "refused image\n") (refused refl)

pub returns-in-Ok-Some-clause-text : goal.returns-in-Ok-Some-clause-text
returns-in-Ok-Some-clause-text g c = λ tells. record {
  text = image_text c.args.self.now.session c.in-Ok-Some.layout;
  is = lies (is_image c.args.self.now.session c.in-Ok-Some.layout c.machine.ensures.program c.machine.ensures.steps
      c.in-Ok-Some.field-0-is
      c.in-Ok-Some.ensures.layout refl);
  gathers = c.show_layout.ensures.text tells;
}
