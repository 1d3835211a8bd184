use Rattle.uv_text.proofs.Wholes.{put_whole, state_whole}
use Rattle.uv_text.proofs.state.push_state.Goals as goal

pub returns : goal.returns
returns g c = put_whole c.push_parts.result c.args.text.now.items _ (state_whole c.args.session.now) c.push_parts.ensures
