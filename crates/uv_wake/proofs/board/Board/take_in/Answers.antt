use Rattle.uv_wake.proofs.ProofNames.{rules, refl, ◌<◌, ◌^◌, ◌∙◌, ap, sym, subst, get_or, LoopView, loop_of, LoopAt, AllCarried, HasEach}
use Rattle.uv_wake.proofs.LoopSteps.{absorbs}
use Rattle.uv_wake.proofs.board.Board.take_in.Goals as goal

pub fetch_add-requires : goal.fetch_add-requires
fetch_add-requires c = let inv = c.seat.invariant in (
  search rules,
  search rules,
  absorbs _ _ _ _ c.args.name inv.first inv.knows (search rules)
      (ap (λ (s : LoopAt). s.knows.seen) c.seat.view_is ∙ c.requires.seen)
      (subst (λ (s : LoopAt). get_or s.knows.counts c.args.name.0 0 < 2 ^ 62) (sym c.seat.view_is) c.requires.room),
)

pub returns-clause-carried : goal.returns-clause-carried
returns-clause-carried c = let told = c.fetch_add.ensures.2 c.args.name refl in
    subst (λ (l : LoopView). AllCarried l c.args.name) (sym (λ i. loop_of (told.0 i).0)) told.1

pub returns-clause-each : goal.returns-clause-each
returns-clause-each c = let told = c.fetch_add.ensures.2 c.args.name refl in subst HasEach (sym (λ i. loop_of (told.0 i).0)) told.2
