use Rattle.uv_find.proofs.Names.{arith, ◌≡◌, ◌∙◌, ap, ap₂, length, subst, sym, after-nil, fresh, AreBrief, MayForget, MayHold, rules_by, rules_of, asked_in}
use Rattle.uv_find.proofs.Forgets.{forgets}
use Rattle.uv_find.proofs.Holds.{holds}
use Rattle.uv_find.proofs.orders.Orders.new.Goals as goal

pub returns-clause-spot : goal.returns-clause-spot
returns-clause-spot g c = grind (arith, ap₂, fresh, after-nil)

pub invariant_of-result : goal.invariant_of-result
invariant_of-result g c =
    let p = c.script.result.now in
    let terms = c.in_ok-terms.terms in
    let may = subst MayForget (sym c.in_ok-terms.ensures) (forgets p (asked_in c.args.asking.now)) in
    let may_hold = subst MayHold (sym c.in_ok-terms.ensures) (holds p (asked_in c.args.asking.now)) in
    let same : c.new.result.program ≡ p = c.new.ensures.program ∙ sym c.script.ensures in
    record {
      limit = c.new.ensures.limit;
      taken = ap length c.new-2.ensures.items ∙ sym (ap length c.new.ensures.standing);
      back = c.requires.back;
      forgets = subst (λ q. MayForget (rules_by q terms)) (sym same) may;
      holds = subst (λ q. MayHold (rules_by q terms)) (sym same) may_hold;
      brief = subst (AreBrief c.in_ok-terms.terms.forget) (sym c.new.ensures.standing) tt;
      room = rw c.new.ensures.standing (omega arith);
    }

pub returns-clause-rules : goal.returns-clause-rules
returns-clause-rules g c =
    ap (λ q. rules_by q c.in_ok-terms.terms) (c.new.ensures.program ∙ sym c.script.ensures) ∙ c.in_ok-terms.ensures
    ∙ ap (λ q. rules_of q (asked_in c.args.asking.now)) c.script.ensures
