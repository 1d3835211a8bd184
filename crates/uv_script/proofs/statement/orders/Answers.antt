use Rattle.uv_script.proofs.ProofNames.{◌≡◌, Some, arith, common_steps}
use Rattle.uv_script.specs.Reading.{orders_of, version_of}
use Rattle.uv_script.proofs.KindWords.{version_of-some, version_of-none}
use Rattle.uv_script.proofs.statement.orders.Goals as goal

pub returns-in_err-order : goal.returns-in_err-order
unfolding orders_of
returns-in_err-order c = grind (arith, version_of-none, common_steps)

pub returns : goal.returns
unfolding orders_of
returns c =
    let order : version_of c.in_ok-next.field-0.now ≡ Some c.in_ok-order.order = version_of-some _ _ c.in_ok-order.ensures.some in
    grind (arith, common_steps)
