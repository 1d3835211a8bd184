use Rattle.uv_sections.proofs.Names.{refl, image_of}
use Rattle.uv_sections.proofs.Begins.{poll_left}
use Rattle.uv_sections.proofs.beginning.leave_poll.Goals as goal

pub returns-clause-goes : goal.returns-clause-goes
returns-clause-goes c s h reached =
    let b = c.leave_poll in
    let left = poll_left (image_of c.args.memory.now) (image_of b.new.self) b.ensures.frame _ b.ensures.does.does s h in
    (_, rw (c.section.ensures) refl, c.stand_in.ensures.stands _ left)
