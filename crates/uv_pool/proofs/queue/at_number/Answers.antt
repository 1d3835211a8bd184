use Rattle.uv_pool.proofs.Names.{◌∙◌}
use Rattle.uv_pool.proofs.Numbers.{number_read, number_past}
use Rattle.uv_pool.proofs.queue.at_number.Goals as goal

pub returns-then-index-len : goal.returns-then-index-len
returns-then-index-len g c =
    let d = c.args.items.now in
    number_past c.args.first d.items c.args.number c.len.result (c.len.ensures ∙ d.ok.0) c.if-number-first.false c.if-index-len.true

pub returns : goal.returns
returns g c =
    let d = c.args.items.now in
    number_read c.args.first d.items c.args.number c.len.result c.index.result.now (c.len.ensures ∙ d.ok.0) c.if-number-first.false
    c.if-index-len.false c.index.ensures
