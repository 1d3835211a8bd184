use Rattle.uv_loop.proofs.Names.{refl, subst, ShowsAll, Course}
use Rattle.uv_loop.proofs.Lies.{IsWhole, lies_for}
use Rattle.uv_model.specs.After.{after}
use Rattle.uv_loop.proofs.machine.ArenaLoopMachine.layout.Goals as goal

pub returns-clause-layout : goal.returns-clause-layout
returns-clause-layout c =
    lies_for c.in-Ok.layout c.args.self.now.walk.image (after c.args.self.now.program c.args.self.now.standing)
    (subst (λ (w : Course). ShowsAll c.in-Ok.layout w.walk.image) c.self.view_is c.in-Ok.ensures)
    (subst (λ (w : Course). IsWhole w.walk.image) c.self.view_is (record {
      fit = c.is_fit.ensures;
      sound = c.is_sound.ensures.arena;
      heap = c.is_sound.ensures.heap;
      places = c.is_sound.ensures.places;
    })) c.stands.ensures.stands

pub returns-clause-shows : goal.returns-clause-shows
returns-clause-shows c =
    (c.in-Ok.layout, refl, subst (λ (w : Course). ShowsAll c.in-Ok.layout w.walk.image) c.self.view_is c.in-Ok.ensures)
