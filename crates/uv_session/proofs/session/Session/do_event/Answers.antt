use Rattle.uv_session.proofs.Names.{take, arith, common_steps, accepts-push, accepts-take}
use Rattle.uv_session.proofs.session.Session.do_event.Goals as goal

pub invariant_of-self-2 : goal.invariant_of-self-2
invariant_of-self-2 g c =
    let p = g.M.Machine.program c.self.inside.machine in
    let moved = rw c.self.invariant.steps_are at c.in_ok-outcome.ensures.answer.2 in
    record {
      steps_are = grind (arith, common_steps, c.in_ok-outcome.ensures.answer);
      within = grind (arith, common_steps);
      few = grind (arith, common_steps, c.in_ok-outcome.ensures.answer);
      accepted = rw (c.step.ensures.program, c.push_reserved.ensures.items, c.truncate.ensures.items, c.reserve.ensures.items)
          (search (accepts-push, take, accepts-take));
      limit_is = c.self.invariant.limit_is;
    }
