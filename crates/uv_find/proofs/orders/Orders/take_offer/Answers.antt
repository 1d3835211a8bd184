use Rattle.uv_find.proofs.Names.{◌≡◌, refl, ◌∙◌, ap₂, ap, slice_set, AllocError, Made, kept_after, lessened, place_by, offer_taken}
use Rattle.uv_model.specs.After.{after}
use Rattle.uv_find.specs.declared.orders.Was.TheVariants as was
use Rattle.uv_find.proofs.Taking.{takes_one, taken_searched}
use Rattle.uv_find.proofs.orders.Orders.take_offer.Goals as goal

pub returns-in-Some : goal.returns-in-Some
returns-in-Some g c =
    let i = c.self.inside in
    let goes = rw c.in-Some.is at c.in_ok-make_offer.ensures in
    let taken = c.in-Some.taken in
    let number = c.args.number in
    let state = ap₂ after c.machine.ensures.program c.machine.ensures.steps in
    let kept = c.kept_after-self-inside.ensures
    ∙ ap (λ s. kept_after i.terms.recorded.items i.terms.takes.items i.terms.question i.kept taken.event s taken.outcome.seen) state in
    let made : Made = record { was = was.One number c.lessen-was.result; kept = i.kept } in
    let back : slice_set (lessened i.left.items number) number c.lessen-was.result ≡ i.left.items =
    rw c.lessen-was.ensures.less at c.lessen-was.ensures.was in
    rw (← c.self.view_is, c.push_reserved.ensures.items, c.in_ok-reserve.ensures.items, c.lessen-was.ensures.less, kept)
    (takes_one AllocError i.session c.make_offer.new.session i.terms i.left.items i.kept i.made.items number
    (offer_taken (place_by i.session i.left.items i.kept) number taken.event) taken.outcome made back refl goes)

pub invariant_of-self-in-Some : goal.invariant_of-self-in-Some
invariant_of-self-in-Some g c =
    let i = c.self.inside in
    let goes = rw c.in-Some.is at c.in_ok-make_offer.ensures in
    let made : Made = record { was = was.One c.args.number c.lessen-was.result; kept = i.kept } in
    rw (c.push_reserved.ensures.items, c.in_ok-reserve.ensures.items)
    (taken_searched g.M.Machine.BackWantsMemory i.session c.make_offer.new.session i.terms i.left.items i.kept i.made.items c.args.number
    (offer_taken (place_by i.session i.left.items i.kept) c.args.number c.in-Some.taken.event) c.in-Some.taken.outcome.seen made c.self.invariant
    (rw (← c.self.view_is) at c.requires.room) goes)
