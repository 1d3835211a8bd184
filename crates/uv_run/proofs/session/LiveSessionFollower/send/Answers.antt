use Rattle.uv_run.proofs.Names.{ℕ, List, sym, subst, IsBound}
use Rattle.uv_run.proofs.Binding.{sent_bound}
use Rattle.uv_run.proofs.session.LiveSessionFollower.send.Goals as goal

pub invariant_of-self-2 : goal.invariant_of-self-2
invariant_of-self-2 g c =
    let here = c.self.inside in
    let sent = c.in_ok-send.ensures in
    subst (λ (counts : List ℕ). IsBound c.send.new.session here.log.events.items here.lines.items counts here.allowed.counts.items)
    (sym c.note.ensures)
    (sent_bound here.session c.send.new.session _ _ _ _ c.args.name.0 c.self.invariant sent.program sent.events sent.sends)
