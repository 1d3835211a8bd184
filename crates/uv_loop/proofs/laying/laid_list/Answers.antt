use Rattle.uv_loop.proofs.Names.{◌∙◌}
use Rattle.uv_loop.proofs.Lies.{first_is, last_is}
use Rattle.uv_loop.proofs.laying.laid_list.Goals as goal

pub returns : goal.returns
returns c = λ q. record {
  list = c.args.list;
  ends =
      record {
        head = (c.slot_in.ensures ∙ first_is c.args.slots.now.image c.args.list c.first.result c.first.ensures.none c.first.ensures.some) q;
        tail = (c.slot_in-2.ensures ∙ last_is c.args.slots.now.image c.args.list c.last.result c.last.ensures.none c.last.ensures.some) q;
      };
}
