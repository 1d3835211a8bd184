use Rattle.std.proofs.Common.{ap}
use Rattle.clap.specs.Words.{App}
use Rattle.uv_words.proofs.Built.{app_added}
use Rattle.uv_words.proofs.command_line.command.Goals as goal

pub returns : goal.returns
returns c =
    app_added c.in_ok-two.two c.in_ok-live.live c.subcommand.result _ _ c.subcommand.ensures c.in_ok-live.ensures.local c.in_ok-two.ensures
    (ap (λ (a : App). a.top) c.in_ok-live.ensures.app)
