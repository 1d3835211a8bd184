use Rattle.uv_sections.proofs.Names.{Some, sym, Section, all_yet, watched, with_watched, Moves, Walking, at, image_of}
use Rattle.uv_sections.proofs.Begins.{walk_begun}
use Rattle.uv_sections.proofs.beginning.begin_walk.Goals as goal

pub returns-clause-goes : goal.returns-clause-goes
returns-clause-goes c s h reached =
    let m = with_watched s c.args.kind (all_yet (watched s c.args.kind)) in
    let b = c.begin in
    let begun = walk_begun (image_of c.args.memory.now) (image_of b.new.self) b.ensures.frame c.args.kind _ b.ensures.does.does s h in (
      at m c.args.run (Walking c.args.kind),
      rw (c.section.ensures) (λ l. Moves (at m c.args.run (Walking c.args.kind)) (Some (Section (sym c.phase.ensures l)))),
      c.stand_in.ensures.stands _ begun,
    )
