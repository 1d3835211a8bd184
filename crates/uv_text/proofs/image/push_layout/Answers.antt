use Rattle.uv_text.proofs.Wholes.{put_whole, layout_whole}
use Rattle.uv_text.proofs.image.push_layout.Goals as goal

pub returns : goal.returns
returns c = put_whole c.push_parts.result c.args.text.now.items _ (layout_whole c.args.layout.now) c.push_parts.ensures
