use Rattle.uv_text.proofs.Wholes.{put_whole, recording_whole}
use Rattle.uv_text.proofs.recording.push_recording.Goals as goal

pub returns : goal.returns
returns g c =
    put_whole c.push_parts.result c.args.text.now.items _ (recording_whole c.args.session.now.program c.args.session.now.standing)
    c.push_parts.ensures
