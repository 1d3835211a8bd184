use Rattle.uv_sections.proofs.Names.{refl, image_of}
use Rattle.uv_sections.proofs.Begins.{done_begun}
use Rattle.uv_sections.proofs.beginning.begin_done.Goals as goal

pub returns-clause-goes : goal.returns-clause-goes
returns-clause-goes c s h reached =
    let b = c.begin_done in
    let begun = done_begun (image_of c.args.memory.now) (image_of b.new.self) b.ensures.frame _ b.ensures.does.does s h in
    (_, rw (c.section.ensures) refl, c.stand_in.ensures.stands _ begun)
