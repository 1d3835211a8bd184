use Rattle.uv_stands.proofs.ProofNames.{Option, is_some, sym, ap, ◌∙◌, Content, image_of}
use Rattle.uv_stands.proofs.Naming.{bound_live}
use Rattle.uv_stands.proofs.names.is_live.Goals as goal

pub returns-in-Some : goal.returns-in-Some
returns-in-Some c s h =
    bound_live (image_of c.args.memory.now) s c.args.name h c.in-Some.id c.in-Some.ensures
    ∙ ap (λ (o : Option Content). is_some o) (sym (rw c.slots.ensures at c.get.ensures)) ∙ sym c.is_some.ensures
