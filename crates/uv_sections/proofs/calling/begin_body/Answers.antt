use Rattle.uv_sections.proofs.Names.{image_of, ◌∙◌, ap, standing}
use Rattle.uv_sections.proofs.Calls.{calls_begun}
use Rattle.uv_sections.proofs.calling.begin_body.Goals as goal

pub returns-clause-calls : goal.returns-clause-calls
returns-clause-calls c =
    calls_begun (image_of c.args.memory.now) (image_of c.call_name-count.new.memory) (image_of c.stand_at.new.self) c.args.script.now c.args.run
    c.args.callback c.args.name c.call_name-count.result c.body_from-body.result c.call_name-count.ensures.count c.call_name-count.ensures.image
    c.body_from-body.ensures (c.stand_at.ensures.place ∙ ap (λ q. standing q (image_of c.call_name-count.new.memory)) c.running-place.ensures)
