use Rattle.uv_engine.proofs.Names.{◌≡◌, rules, None, ap, sym, ◌∙◌, both_ways, Program, line_text}
use Rattle.uv_engine.proofs.Reruns.{met_other, met_past}
use Rattle.uv_engine.proofs.rerun.Rerun.meet.Goals.{in-Some+in_ok-is_next-in-Some, in-None}
use Rattle.uv_engine.proofs.rerun.Rerun.meet.Goals as goal

pub returns-then-not-is_next-clause-met : goal.returns-then-not-is_next-clause-met
returns-then-not-is_next-clause-met g c = λ called met.
    let halted : c.args.self.now.halted ≡ None = search rules in
    let parted : c.args.self.now.parted ≡ None = search rules in
    let p = g.M.Machine.program c.args.self.now.machine in
    let es = g.M.Machine.standing c.args.self.now.machine in
    let before = rw (halted, parted) at met in
    rw (halted, c.next_called.ensures.count)
    (elim c.match-next_called.branch [
      | in-Some+in_ok-is_next-in-Some w ↦
          met_other p es called c.args.self.now.looked c.next_called.new.self.looked c.args.self.now.count w.in-Some.seen c.args.line.now before
          w.in-Some.ensures.some
          (λ e. both_ways _ (sym w.is_next-is ∙ c.if-not-is_next.true)
          (w.in_ok-is_next-in-Some.ensures.other
          (e ∙ ap (λ (q : Program). line_text q w.in-Some.seen) (sym (w.script.ensures ∙ ap g.M.Machine.program c.next_called.ensures.machine)))))
      | in-None w ↦ met_past p es called c.args.self.now.looked c.next_called.new.self.looked c.args.self.now.count c.args.line.now before
          w.in-None.ensures.none
    ])
