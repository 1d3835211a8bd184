use Rattle.uv_pool.proofs.Names.{inr, rules, err_from_is_err_and}
use Rattle.uv_pool.proofs.shift.serve.Goals as goal

-- the bench didn't take the result of the job that it gave
pub returns-in_err-finish-clause-breaks : goal.returns-in_err-finish-clause-breaks
returns-in_err-finish-clause-breaks g c =
    let is = err_from_is_err_and c.from_residual-in_err-finish.result c.from_residual-in_err-finish.ensures.1 in
    rw (is.1, is.2)
    (inr
    (c.take.new.self, c.finish.new.self, c.computed-done.result.work, search rules, c.in_err-finish.ensures.refused, c.in_err-finish.ensures.answer))
