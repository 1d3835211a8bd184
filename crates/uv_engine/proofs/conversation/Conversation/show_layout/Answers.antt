use Rattle.uv_engine.proofs.Names.{err_from_is_err_and, state_text, layout_whole, layout_text}
use Rattle.uv_engine.proofs.Gathers.{gathered_none, cut_by, gathers_same, gathers_then}
use Rattle.uv_engine.proofs.conversation.Conversation.show_layout.Goals as goal

pub returns-in_err-show_state-clause-text : goal.returns-in_err-show_state-clause-text
returns-in_err-show_state-clause-text g c = λ tells.
    rw ((err_from_is_err_and c.from_residual.result c.from_residual.ensures.1).1)
    (cut_by (state_text c.args.self.now.session) (layout_text c.args.layout.now) (gathered_none _ _ _) (c.in_err-show_state.ensures.text tells))

pub returns-clause-text : goal.returns-clause-text
returns-clause-text g c = λ tells.
    gathers_then c.show_parts.result _ _ _ _ _ _ _ _ (c.in_ok-show_state.ensures.text tells)
    (gathers_same c.show_parts.result _ _ _ _ (layout_whole c.args.layout.now) (c.show_parts.ensures.text tells))
