use Rattle.std.proofs.Common.{ap, ◌∙◌, codes}
use Rattle.clap.specs.Words.{found_of}
use Rattle.clap.proofs.WalkLemmas.{first_value-rows}
use Rattle.uv_words.specs.Words.{live_by}
use Rattle.uv_words.proofs.command_line.live_by_options.Goals as goal

pub returns-clause-job : goal.returns-clause-job
returns-clause-job c =
    c.live_job.ensures.job ∙ ap live_by (c.get_str.ensures ∙ first_value-rows (found_of c.args.options.now) (codes "workers"))
