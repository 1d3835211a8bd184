use Rattle.uv_timer.proofs.Names.{option_and_then, refl, ap, id_of, slot_at}
use Rattle.uv_timer.proofs.section.handle_in.Goals as goal

pub returns-in-None-clause-none : goal.returns-in-None-clause-none
returns-in-None-clause-none g c =
    ap (option_and_then g.T.HoldsHandle.held_record)
    (c.in-None.ensures.none (id_of c.args.slot (slot_at c.args.slots.now.image.memory c.args.slot)) refl)
