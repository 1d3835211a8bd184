use Rattle.uv_loop.proofs.Names.{◌≡◌, Numbers, numbers, held}
use Rattle.uv_loop.proofs.Courses.{asked}
use Rattle.uv_loop.proofs.machine.ArenaLoopMachine.numbers.Goals as goal

pub returns : goal.returns
returns c =
    let times = c.times-times.result.now in
    let shown : Numbers = record {
      time = times.time;
      clock = c.clock.result;
      next_start = times.next_start;
      stop_flag = c.stop_flag.result;
      idled = c.idled.result;
    } in
    asked _ _ _ _ (held c.self.inside.memory) _ c.self.view_is c.self.invariant (λ s. shown ≡ numbers s)
    (λ s h. rw (c.times-times.ensures, c.clock.ensures, c.stop_flag.ensures, c.idled.ensures) (λ l. record {
      time = (h.values l).time;
      clock = (h.values l).clock;
      next_start = (h.values l).next_start;
      stop_flag = (h.values l).stop_flag;
      idled = (h.values l).idled;
    }))
