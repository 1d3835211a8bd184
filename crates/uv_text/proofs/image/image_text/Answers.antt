use Rattle.uv_text.proofs.Names.{rules}
use Rattle.uv_text.proofs.Showing.{is_image}
use Rattle.uv_text.proofs.image.image_text.Goals as goal

pub returns-clause-text : goal.returns-clause-text
returns-clause-text g c = is_image c.args.session.now c.in-Some.layout c.machine.ensures.program c.machine.ensures.steps c.in-Some.is
    c.in_ok-layout.ensures.layout (search rules)
