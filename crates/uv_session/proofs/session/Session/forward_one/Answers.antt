use Rattle.uv_session.proofs.Names.{◌<◌, length, arith, common_steps, STEPS, IsMove, accepts-at, only_memory, after, err_from_is_err_and}
use Rattle.uv_model.specs.Next.{next}
use Rattle.uv_session.proofs.session.Session.forward_one.Goals as goal

pub returns-in_err-step-clause-err : goal.returns-in_err-step-clause-err
returns-in_err-step-clause-err g c = grind (arith, length, common_steps, accepts-at, only_memory, err_from_is_err_and)
