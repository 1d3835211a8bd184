use Rattle.uv_sections.proofs.Names.{refl, image_of}
use Rattle.uv_sections.proofs.Moves.{handle_moved, none_moves}
use Rattle.uv_sections.proofs.walking.move_on.Goals as goal

pub returns-in-Some-clause-moved : goal.returns-in-Some-clause-moved
returns-in-Some-clause-moved c s h reached =
    let e = c.in-Some.ensures in
    record {
      handle = c.in-Some.handle;
      name = refl;
      moved = handle_moved (image_of c.args.memory.now) (image_of c.walk.new.self) e.frame c.args.kind _
          c.in-Some.pending _ e.does.does c.in-Some.handle e.front.handle s h;
    }

pub returns-in-None-clause-none : goal.returns-in-None-clause-none
returns-in-None-clause-none c s h reached = none_moves (image_of c.args.memory.now) s h c.args.kind c.in-None.ensures.none.0
