use Rattle.uv_engine.proofs.Names.{recording_whole}
use Rattle.uv_engine.proofs.Gathers.{gathers_same}
use Rattle.uv_engine.proofs.conversation.Conversation.show_recording.Goals as goal

pub returns-clause-text : goal.returns-clause-text
returns-clause-text g c = λ tells.
    gathers_same c.show_parts.result _ _ _ _ (recording_whole c.args.self.now.session.program c.args.self.now.session.standing)
    (c.show_parts.ensures.text tells)
