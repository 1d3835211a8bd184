use Rattle.uv_loop.proofs.Names.{subst}
use Rattle.uv_loop.proofs.Walked.{IsFreeWalked, free_within, free_goes}
use Rattle.uv_loop.proofs.listing.free_slots.Goals as goal

pub links-next-requires : goal.links-next-requires
links-next-requires c =
    free_within c.args.slots.now.image c.is_sound.ensures c.loop-next.free.items c.in-Some.slot
    (subst (λ o. IsFreeWalked c.args.slots.now.image c.loop-next.free.items o) c.in-Some.is c.loop-next.invariant)

pub loop-next-preserved : goal.loop-next-preserved
loop-next-preserved c =
    free_goes c.args.slots.now.image c.is_sound.ensures c.loop-next.free.items c.in-Some.slot
    (subst (λ o. IsFreeWalked c.args.slots.now.image c.loop-next.free.items o) c.in-Some.is c.loop-next.invariant)
    c.push.new.self.items c.links-next.result c.in_ok-push.ensures.items c.links-next.ensures
