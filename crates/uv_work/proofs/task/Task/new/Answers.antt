use Rattle.std.proofs.Common.{◌-◌, length, take, replicate, refl, ap, sym, ◌∙◌}
use Rattle.std.proofs.Math.Seq.{take-append_seam}
use Rattle.uv_work.specs.Limits.{LONGEST_TEXT}
use Rattle.uv_work.proofs.TaskLemmas.{task_of-complete}
use Rattle.uv_work.proofs.task.Task.new.Goals as goal

pub returns-clause-value : goal.returns-clause-value
returns-clause-value c =
    let text = c.args.text.now in
    let same = ap (take (length text)) c.padded.ensures ∙ take-append_seam text (replicate (LONGEST_TEXT - length text) 0) in
    sym (task_of-complete c.args.rounds text _ (record { rounds_are = refl; text_is = same }))
