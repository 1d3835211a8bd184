use Rattle.uv_pool.proofs.Names.{rules, arith}
use Rattle.uv_pool.proofs.JobLists.{jobs_appended}
use Rattle.uv_pool.proofs.Kept.{kept_queue}
use Rattle.uv_pool.proofs.held.Held.queue.Goals as goal

pub returns-clause-contents : goal.returns-clause-contents
returns-clause-contents c = grind (arith, jobs_appended)

pub returns-clause-kept : goal.returns-clause-kept
returns-clause-kept c =
    let s = c.args.self.now in
    kept_queue s _ c.args.job c.push-number.result _ c.requires.kept c.requires.unknown
    (omega (arith, c.push-number.ensures.number, s.waiting.places.ok.0)) (search rules) c.push_reserved.ensures.items c.note.ensures
