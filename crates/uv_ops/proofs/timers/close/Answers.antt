use Rattle.uv_ops.proofs.Names.{◌∙◌, close, held}
use Rattle.uv_ops.proofs.Closes.{close_does}
use Rattle.uv_ops.proofs.timers.close.Goals as goal

pub returns-clause-performs : goal.returns-clause-performs
returns-clause-performs c s h reached =
    let did = c.close.ensures in let asked = c.in_ok-id.ensures in
    let does = close_does c.close.new.self.step_record (held c.args.memory.now) (held c.close.new.self) c.in_ok-id.id c.in_ok-id.handle
    c.is_fit.ensures asked.allowed did.frame did.does s h reached in
    (does.0, asked.done s h (close s) ∙ does.1, does.2)
