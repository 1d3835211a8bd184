use Rattle.uv_pool.proofs.Names.{rules, ◌+◌, arith, Some, rows_of, place_of}
use Rattle.uv_pool.proofs.Kept.{kept_finish}
use Rattle.uv_pool.proofs.Results.{finish_sets}
use Rattle.uv_pool.proofs.held.Held.finish.Goals as goal

pub returns-clause-kept : goal.returns-clause-kept
returns-clause-kept c =
    let s = c.args.self.now in
    kept_finish s _ c.args.k c.args.work.job (record { id = c.job.result.req; result = Some c.args.work }) (s.collected + c.len.result) _
    c.requires.kept c.requires.runs (search rules) (omega (arith, c.len.ensures, s.done.ok.0)) (search rules) c.push_reserved.ensures.items
    c.note.ensures

pub returns-clause-results : goal.returns-clause-results
returns-clause-results c =
    let s = c.args.self.now in
    λ other. rw (c.push_back_reserved.ensures.items, c.job.ensures)
    (finish_sets (rows_of s) (place_of s) c.args.k c.args.work c.requires.kept.indexed c.requires.runs other)
