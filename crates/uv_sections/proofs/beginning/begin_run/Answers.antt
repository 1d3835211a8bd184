use Rattle.uv_sections.proofs.Names.{if◌then◌else◌, refl, subst, refreshed, refreshes, image_of, StandsFor}
use Rattle.uv_sections.proofs.beginning.begin_run.Goals as goal

pub returns-clause-goes : goal.returns-clause-goes
returns-clause-goes c s h reached =
    let there = subst (λ o. StandsFor (image_of c.refresh_in.new.memory) (if refreshes o c.args.mode then refreshed s else s)) c.order.ensures
    (c.refresh_in.ensures.stands s h) in
    (_, refl, c.stand_in.ensures.stands _ there)
