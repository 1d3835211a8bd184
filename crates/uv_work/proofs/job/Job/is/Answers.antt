use Rattle.uv_work.proofs.Jobs.{told_job}
use Rattle.uv_work.proofs.job.Job.is.Goals as goal

pub returns : goal.returns
returns c = told_job c.args.self c.args.other c.eq.result c.eq.ensures
