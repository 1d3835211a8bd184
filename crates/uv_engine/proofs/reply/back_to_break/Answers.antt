use Rattle.uv_engine.proofs.Names.{rules}
use Rattle.uv_engine.proofs.Replies.{break_after-found}
use Rattle.uv_engine.proofs.reply.back_to_break.Goals as goal

pub returns-in-Ok-clause-session : goal.returns-in-Ok-clause-session
returns-in-Ok-clause-session g c =
    let after = break_after-found c.args.session.now c.back_to_break.new.self c.in-Ok.length c.in-Ok.ensures.moves.0 c.in-Ok.ensures.moves.1 in
    search rules
