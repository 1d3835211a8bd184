use Rattle.uv_sections.proofs.Names.{image_of, subst, StandsFor}
use Rattle.uv_sections.proofs.standing.stand_in.Goals as goal

pub returns-clause-stands : goal.returns-clause-stands
returns-clause-stands c s h =
    subst (λ q. StandsFor (image_of c.stand_at.new.memory) (record s { place = q })) c.between-place.ensures (c.stand_at.ensures.stands s h)
