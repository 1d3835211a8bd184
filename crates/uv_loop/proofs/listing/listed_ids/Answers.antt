use Rattle.uv_loop.proofs.Names.{subst, IsWalked, walk_goes}
use Rattle.uv_loop.proofs.listing.listed_ids.Goals as goal

pub loop-next-preserved : goal.loop-next-preserved
loop-next-preserved c =
    let walked = subst (λ o. IsWalked c.args.slots.now.image c.args.list c.loop-next.ids.items o) c.in-Some.is c.loop-next.invariant in
    walk_goes c.args.slots.now.image c.args.list c.loop-next.ids.items c.push.new.self.items c.in-Some.id c.next-next.result
    c.in_ok-push.ensures.items
    walked (c.next-next.ensures.next walked.listed.listed) c.next-next.ensures.listed
