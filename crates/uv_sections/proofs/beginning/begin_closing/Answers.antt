use Rattle.uv_sections.proofs.Names.{refl, image_of}
use Rattle.uv_sections.proofs.Begins.{closing_begun}
use Rattle.uv_sections.proofs.beginning.begin_closing.Goals as goal

pub returns-clause-goes : goal.returns-clause-goes
returns-clause-goes c s h reached =
    let b = c.begin_closing in
    let begun = closing_begun (image_of c.args.memory.now) (image_of b.new.self) b.ensures.frame _ b.ensures.does.does s h in
    (_, rw (c.section.ensures) refl, c.stand_in.ensures.stands _ begun)
