use Rattle.uv_session.proofs.Names.{take, refl, arith, length-take, common_steps, err_from_is_err_and, accepts-push, accepts-take, Finish}
use Rattle.uv_session.proofs.Handed.{responds_err}
use Rattle.uv_session.proofs.session.Session.finish_with.Goals as goal

pub invariant_of-self-2 : goal.invariant_of-self-2
invariant_of-self-2 g c =
    let p = g.M.Machine.program c.self.inside.machine in
    let moved = rw c.self.invariant.steps_are at c.in_ok-outcome.ensures.answer.1.2 in
    record {
      steps_are = grind (arith, common_steps, c.in_ok-outcome.ensures.answer);
      within = grind (arith, common_steps);
      few = grind (arith, common_steps, c.in_ok-outcome.ensures.answer);
      accepted = rw (c.finish_with.ensures.program, c.push_reserved.ensures.items, c.truncate.ensures.items, c.reserve.ensures.items)
          (search (accepts-push, take, accepts-take));
      limit_is = c.self.invariant.limit_is;
    }

pub returns-in_err-outcome : goal.returns-in_err-outcome
returns-in_err-outcome g c =
    let p = err_from_is_err_and c.from_residual.result c.from_residual.ensures.1 in
    let h = c.self.invariant in
    rw (← c.self.view_is, p.1, p.2, c.reserve.ensures.items) (record {
      same_program = c.in_err-outcome.ensures.program;
      same_limit = refl;
      same_breaks = refl;
      answer = responds_err _ _ _ _ _ _ _ _ h.steps_are (rw length-take (omega (arith, h.within, c.if-standing-self.false))) h.limit_is
          c.in_err-outcome.ensures.answer;
      taken_back = refl;
    })
