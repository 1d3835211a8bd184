use Rattle.uv_plain.proofs.Names.{rules, not, filter_same, same_id}
use Rattle.uv_plain.proofs.ids.remove_id.Goals as goal

pub returns : goal.returns
returns c = filter_same _ (λ x. not (same_id x c.args.id)) _ (λ x b f' k. search rules) _ _ c.retain.ensures.filtered
